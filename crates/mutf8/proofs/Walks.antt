-- Laws of values read one after the other, by any string rule: it reads what was passed, and a walk from 0 on decides the verdict.
-- Assumes nothing.
use Prim.Native.Nat.{ℕ, ◌+◌, ◌-◌, ◌≤◌, ◌<◌}
use mathlib.Core.Path.{◌≡◌, sym}
use mathlib.Core.List.{List}
use native.Mathlib.Omega.{arith}
use lib.ListN.{length, drop, length-drop}
use Rattle.form.specs.Form.{Rule}
use Rattle.form.specs.Strings.{enc_of}
use Rattle.form.specs.Decoding.{Sequence, is, stuck, good, bad, one_of, Judged}
use Rattle.form.proofs.Walks as W
use Rattle.mutf8.specs.Runs.{Walked, none, more, common_of, Passed, Stepped}
use Rattle.mutf8.proofs.Codings.{alike, coding_of}

-- one walk behind another
pub walked-join : {one : List ℕ → Sequence} {s : List ℕ} {i j k : ℕ} → Walked one s i j → Walked one s j k → Walked one s i k
walked-join none w = w
walked-join (more e v) w = more e (walked-join v w)

module _ (k : Rule) where
  -- ---- walks go on

  walked_by : {s : List ℕ} {i j : ℕ} → Walked common_of s i j → Walked (one_of k) s i j
  walked_by none = none
  walked_by (more e w) = more (alike k _ _ _ e) (walked_by w)

  -- over what was passed, and over what was stepped
  pub walked-pass : {s : List ℕ} {i j r : ℕ} → Walked (one_of k) s i j → Passed s j r → Walked (one_of k) s i r
  walked-pass w p = walked-join w (walked_by p.walked)

  pub walked_step : {s : List ℕ} {i j m stop r : ℕ} → Walked (one_of k) s i j → Passed s j m → Stepped (one_of k) s m stop r → Walked (one_of k) s i r
  walked_step w p q = walked-join (walked-pass w p) q.walked

  -- one value more, by what a call answered
  pub walked_more : (s : List ℕ) (i j c n : ℕ) → is c n ≡ one_of k (drop j s) → Walked (one_of k) s i j → Walked (one_of k) s i (j + n)
  walked_more s i j c n e w = walked-join w (more {i = j} {c = c} {n = n} (sym e) none)

  -- ---- and decide the verdict

  within : (s : List ℕ) (i c n : ℕ) → one_of k (drop i s) ≡ is c n → i < length s
  within s i c n e = let f = W.fits (coding_of k) (drop i s) c n e in let h : n ≤ length s - i = simp length-drop at f.1 in omega (arith, f.0)

  going : {s : List ℕ} {i j : ℕ} → Walked (one_of k) s i j → W.Going (coding_of k) s i → W.Going (coding_of k) s j
  going none g = g
  going {s} (more e w) g = going w (W.going_more (coding_of k) _ _ _ _ (within s _ _ _ e) e g)

  pub all-walked : {s : List ℕ} {i : ℕ} → length s ≤ i → Walked (one_of k) s 0 i → Judged (enc_of k) (one_of k) s good
  all-walked {s} h w = W.going_end (coding_of k) s _ h (going w (W.going_start (coding_of k) s))

  pub halted-at : {s : List ℕ} {i : ℕ} → i < length s → one_of k (drop i s) ≡ stuck → Walked (one_of k) s 0 i → Judged (enc_of k) (one_of k) s (bad i)
  halted-at {s} h e w = W.going-stuck (coding_of k) s _ h e (going w (W.going_start (coding_of k) s))

  -- how far a value reaches, by what a call answered
  pub reach : (s : List ℕ) (i c n : ℕ) → is c n ≡ one_of k (drop i s) → (0 < n) × (i + n ≤ length s)
  reach s i c n e = W.reach (coding_of k) s i c n (within s i c n (sym e)) (sym e)
