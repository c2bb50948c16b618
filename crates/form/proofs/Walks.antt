-- Laws of walks: for any coding, the verdict is good exactly where the bytes are an encoding, and otherwise the place of the first
-- sequence that can't be read.
-- Assumes nothing.
use Prim.Native.Nat.{ℕ, zero, suc, ◌+◌, ◌-◌, ◌≤◌, ◌<◌}
use mathlib.Core.Path.{◌≡◌, refl, sym, ap, ◌∙◌}
use mathlib.Core.Logic.{◌↔◌}
use mathlib.Core.List.{List, [], ◌∷◌, ◌++◌, append_assoc}
use native.Mathlib.Nat.{sub-zero}
use native.Mathlib.Omega.{arith}
use lib.ListN.{length, drop, length-append, length-drop, drop_of_length-le}
use lib.Seq.{drop-drop, drop-append_seam}
use Rattle.form.specs.Strings.{IsScalar, AllScalar, encode_by, WellFormedBy, FirstBadBy}
use Rattle.form.specs.Decoding.{Sequence, is, stuck, Verdict, good, bad, onward, walk, verdict_by, Judged}
use Rattle.form.proofs.Coding.{SoundBy, Coding}

module _ (𝓒 : Coding) where
  open 𝓒 use {enc, one, some, sound, back}

  -- a scalar value that was read takes at least a byte, and no more than there are
  fits-go : (l : List ℕ) (r : Sequence) (c n : ℕ) → SoundBy enc l r → r ≡ is c n → (0 < n) × (n ≤ length l)
  fits-go l stuck c n s e = let z : ◌≡◌ {A = ℕ} 0 1 = cc in (omega arith, omega arith)
  fits-go l (is d m) c n s e =
      let p : m ≡ n = cc in
      (omega (arith, some d, s.1), omega (arith, s.1, simp length-append at (ap length s.2)))

  pub fits : (l : List ℕ) (c n : ℕ) → one l ≡ is c n → (0 < n) × (n ≤ length l)
  fits l c n e = fits-go l (one l) c n (sound l) e

  -- ---- what is an encoding is good
  walk-nil : (f i : ℕ) → walk one f [] i ≡ good
  unfolding walk
  walk-nil zero i = refl
  walk-nil (suc f) i = refl

  walk_step : (f i : ℕ) (l : List ℕ) → 0 < length l → walk one (suc f) l i ≡ onward (walk one f) l i (one l)
  unfolding walk
  walk_step f i [] h = absurd (omega arith)
  walk_step f i (a ∷ l) h = refl

  good_of : (cs : List ℕ) → AllScalar cs → (f i : ℕ) → length (encode_by enc cs) ≤ f → walk one f (encode_by enc cs) i ≡ good
  good_of [] s f i h = walk-nil f i
  good_of (c ∷ cs) s zero i h = absurd (omega (arith, some c, simp length-append at h))
  good_of (c ∷ cs) s (suc f) i h =
      rw (walk_step f i (enc c ++ encode_by enc cs) (simp length-append (omega (arith, some c))), back c s.0 (encode_by enc cs), drop-append_seam)
      (good_of cs s.1 f (i + length (enc c)) (omega (arith, some c, simp length-append at h)))

  -- ---- and what is good is an encoding; a bad one has its place
  abbrev Told : List ℕ → ℕ → Verdict → Type 0
  Told l i good = WellFormedBy enc l
  Told l i (bad k) = (i ≤ k) × FirstBadBy enc l (k - i)

  -- one scalar value in front
  told_more : (c : ℕ) (l t : List ℕ) (i n : ℕ) → IsScalar c → n ≡ length (enc c) → l ≡ enc c ++ t → (a : Verdict) → Told t (i + n) a → Told l i a
  told_more c l t i n s p q good (cs, d, e) = (c ∷ cs, (s, d), rw (q, e) refl)
  told_more c l t i n s p q (bad k) (h, b) = (
    omega arith,
    record {
      before = c ∷ b.before;
      rest = b.rest;
      scalars = (s, b.scalars);
      split = q ∙ rw (append_assoc (enc c) (encode_by enc b.before) b.rest, ← b.split) refl;
      place = rw (length-append (enc c) (encode_by enc b.before), ← b.place, ← p) (omega arith);
      more = b.more;
      stuck = b.stuck;
    },
  )

  told-stuck : (a : ℕ) (l : List ℕ) (i : ℕ) → one (a ∷ l) ≡ stuck → Told (a ∷ l) i (bad i)
  told-stuck a l i e = (
    omega arith,
    record {
      before = [];
      rest = a ∷ l;
      scalars = tt;
      split = refl;
      place = omega arith;
      more = λ x. let y : suc (length l) ≡ 0 = ap length x in omega arith;
      stuck = λ c t s x. let z : ◌≡◌ {A = ℕ} 0 1 = cc (back c s t, ap one x, e) in omega arith;
    },
  )

  told-onward : (f i a : ℕ) (l : List ℕ) → ((t : List ℕ) (j : ℕ) → length t ≤ f → Told t j (walk one f t j)) → length l ≤ f
      → (r : Sequence) → one (a ∷ l) ≡ r → SoundBy enc (a ∷ l) r → Told (a ∷ l) i (onward (walk one f) (a ∷ l) i r)
  told-onward f i a l ih h stuck e s = told-stuck a l i e
  told-onward f i a l ih h (is c n) e s =
      told_more c (a ∷ l) (drop n (a ∷ l)) i n s.0 s.1 s.2 (walk one f (drop n (a ∷ l)) (i + n))
      (ih (drop n (a ∷ l)) (i + n) (rw (length-drop n (a ∷ l)) (omega (arith, some c, s.1))))

  told : (f : ℕ) (l : List ℕ) (i : ℕ) → length l ≤ f → Told l i (walk one f l i)
  unfolding walk
  told zero [] i h = ([], tt, refl)
  told zero (a ∷ l) i h = absurd (omega arith)
  told (suc f) [] i h = ([], tt, refl)
  told (suc f) (a ∷ l) i h = told-onward f i a l (told f) (omega arith) (one (a ∷ l)) refl (sound (a ∷ l))

  -- ---- of a whole list

  good-iff : (l : List ℕ) → (walk one (length l) l 0 ≡ good) ↔ WellFormedBy enc l
  good-iff l = (λ e. rw e at (told (length l) l 0 (omega arith)), λ w. rw w.2 at (good_of w.0 w.1 (length (encode_by enc w.0)) 0 (omega arith)))

  bad-at : (l : List ℕ) (k : ℕ) → walk one (length l) l 0 ≡ bad k → FirstBadBy enc l k
  bad-at l k e = rw sub-zero at (rw e at (told (length l) l 0 (omega arith))).1

  -- what is the computed verdict is sound and complete
  pub judged : (l : List ℕ) (v : Verdict) → v ≡ verdict_by one l → Judged enc one l v
  unfolding verdict_by
  judged l v e = record {
    is = e;
    good_is = (λ g. (good-iff l).0 (sym e ∙ g), λ w. e ∙ (good-iff l).1 w);
    bad_is = λ k b. bad-at l k (sym e ∙ b);
  }

  -- ---- for a loop that walks

  -- from i on, some number of turns that suffices gives the verdict on the whole
  pub record Going (s : List ℕ) (i : ℕ) : Type 0 where
    pub turns : ℕ
    pub enough : length s ≤ i + turns
    pub rest : walk one turns (drop i s) i ≡ verdict_by one s

  pub going_start : (s : List ℕ) → Going s 0
  unfolding verdict_by
  going_start s = record { turns = length s; enough = omega arith; rest = refl }

  pub going_end : (s : List ℕ) (i : ℕ) → length s ≤ i → Going s i → Judged enc one s good
  going_end s i h g = judged s good (sym (walk-nil g.turns i) ∙ (rw (drop_of_length-le s {i = i} h) at g.rest))

  -- one turn, by what the bytes from i on begin with
  turn : (s : List ℕ) (i f : ℕ) → i < length s → length s ≤ i + f → walk one f (drop i s) i ≡ verdict_by one s
      → (g : ℕ) × (f ≡ suc g) × (onward (walk one g) (drop i s) i (one (drop i s)) ≡ verdict_by one s)
  turn s i zero h k e = absurd (omega arith)
  turn s i (suc f) h k e = (f, refl, sym (walk_step f i (drop i s) (simp length-drop (omega arith))) ∙ e)

  -- a scalar value that was read reaches no further than the bytes
  pub reach : (s : List ℕ) (i c n : ℕ) → i < length s → one (drop i s) ≡ is c n → (0 < n) × (i + n ≤ length s)
  reach s i c n h e =
      let z = fits (drop i s) c n e in
      let y : n ≤ length s - i = simp length-drop at z.1 in
      (z.0, omega arith)

  pub going_more : (s : List ℕ) (i c n : ℕ) → i < length s → one (drop i s) ≡ is c n → Going s i → Going s (i + n)
  going_more s i c n h e g =
      let t = turn s i g.turns h g.enough g.rest in
      let f : onward (walk one t.0) (drop i s) i (is c n) ≡ verdict_by one s = rw e at t.2 in
      record {
        turns = t.0;
        enough = omega (arith, (fits (drop i s) c n e).0, g.enough, t.1);
        rest = rw (← drop-drop n i s) f;
      }

  pub going-stuck : (s : List ℕ) (i : ℕ) → i < length s → one (drop i s) ≡ stuck → Going s i → Judged enc one s (bad i)
  going-stuck s i h e g =
      let t = turn s i g.turns h g.enough g.rest in
      let f : onward (walk one t.0) (drop i s) i stuck ≡ verdict_by one s = rw e at t.2 in
      judged s (bad i) f
