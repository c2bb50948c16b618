-- Rule 12's walk through a quoted token, for the loop that makes it.
-- Assumes nothing.
use Prim.Native.Nat.{ℕ, zero, suc, ◌+◌, ◌-◌, ◌≤◌, ◌<◌}
use mathlib.Core.Path.{◌≡◌, refl, sym, ap, ◌∙◌}
use mathlib.Core.List.{List}
use native.Mathlib.Omega.{arith}
use borrow.Author.Tests.{eq-eqb, ne_eqb}
use lib.Dec.{eqb}
use lib.ListN.{length, get_or, drop, length-drop, drop_of_length-le}
use lib.Seq.{drop-drop}
use Rattle.form.specs.Answer.{got, no, pick, quote_open}
use Rattle.form.specs.Spans.{part}
use Rattle.form.proofs.Drops.{drop1}
use Rattle.snbt_form.specs.Lexing.{Escape, stands, begins, escape_of, on_escape, quoted_by, quoted}
use Rattle.std.specs.Prelude.{Option, Some, None, Result, Ok, Err}
use Rattle.form.specs.Refusals.{number_of}
use Rattle.form.specs.declared.refusals.Refused.{Refused}
use Rattle.chars.specs.declared.Character.{Character}
use Rattle.snbt_quotes.specs.Answers.{escape_is}
use Rattle.plain.specs.Runs.{Plain}
use Rattle.snbt_text.proofs.Texts.{begins-low}
use Rattle.snbt_quotes.proofs.Parts.{part-rest}
use Rattle.snbt_quotes.proofs.Backslashes.{escape-fits}

-- what a call answers of an escape
abbrev pub Told : Type 0
Told = Result (Option Character) Refused

-- a turn is left
pub once : {A : Type 0} (f : ℕ) → 0 < f → ((g : ℕ) → f ≡ suc g → A) → A
once zero e k = absurd (omega arith)
once (suc g) e k = k g refl

-- the escape at i by what a call told of it, and how far it reaches
module _ (t : List ℕ) (i : ℕ) (r : Told) (p : escape_is r ≡ escape_of (part t (i + 1) (length t - (i + 1))) i) where
  told : escape_of (drop (i + 1) t) i ≡ escape_is r
  told = ap (λ (l : List ℕ). escape_of l i) (sym (part-rest t (i + 1))) ∙ sym p

  reach : (c : Character) → r ≡ Ok (Some c) → i < length t → (2 ≤ c.size) × (i + c.size ≤ length t)
  reach c e h =
      let f = rw (told ∙ ap escape_is e) at (escape-fits (drop (i + 1) t) i) in
      let k : c.size ≤ 1 + (length t - (i + 1)) = rw (length-drop (i + 1) t) at f.1 in
      (f.0, omega (arith, k))

-- ---- the walk from a place

module _ (t : List ℕ) (start : ℕ) where
  abbrev q : ℕ
  q = get_or t start 0

  -- from i on, with the width w so far, the token is what it is as a whole
  pub record Going (i w : ℕ) : Type 0 where
    pub turns : ℕ
    pub enough : length t < i + turns
    pub is : quoted_by turns start (get_or t start 0) (drop i t) i w ≡ quoted t start

  -- the width as a call told it
  pub going-wide : (i w w' : ℕ) → w' ≡ w → Going i w → Going i w'
  going-wide i w w' e g = rw e g

  -- what the escape at i makes of it: the walk goes on behind it, or the whole answer
  abbrev pub Stood : ℕ → ℕ → Told → Type 0
  Stood i w (Ok (Some c)) = (2 ≤ c.size) × (i + c.size ≤ length t) × Going (i + c.size) (w + c.size)
  Stood i w (Err e) = no (number_of e.refusal) e.place ≡ quoted t start
  Stood i w (Ok None) = no quote_open start ≡ quoted t start

  pub going_start : Going (start + 1) 1
  unfolding quoted
  going_start = record { turns = suc (length t); enough = omega arith; is = refl }

  -- one turn, whatever it answers
  turn : (f i w : ℕ) → i < length t → quoted_by (suc f) start q (drop i t) i w
      ≡ pick (eqb (get_or t i 0) q) (got (record { end = i; width = w + 1 }))
      (on_escape (λ n. quoted_by f start q (drop n (drop i t)) (i + n) (w + pick (eqb (get_or t i 0) 92) n (begins (get_or t i 0)))) start
      (pick (eqb (get_or t i 0) 92) (escape_of (drop (i + 1) t) i) (stands (get_or t i 0) 1)))
  unfolding quoted_by
  turn f i w h = rw (drop1 t i h) refl

  module _ (i w : ℕ) (h : i < length t) where
    abbrev b : ℕ
    b = get_or t i 0

    -- what stands at i decides
    shut : (f : ℕ) → b ≡ q → quoted_by (suc f) start q (drop i t) i w ≡ got (record { end = i; width = w + 1 })
    shut f e = turn f i w h ∙ simp (eq-eqb b q e)

    escaped : (f : ℕ) (v : Escape) → (b ≡ q → ⊥) → b ≡ 92 → escape_of (drop (i + 1) t) i ≡ v
        → quoted_by (suc f) start q (drop i t) i w ≡ on_escape (λ n. quoted_by f start q (drop n (drop i t)) (i + n) (w + n)) start v
    escaped f v n e d = turn f i w h ∙ simp (ne_eqb b q n, eq-eqb b 92 e, d)

    passed : (f : ℕ) → (b ≡ q → ⊥) → (b ≡ 92 → ⊥)
        → quoted_by (suc f) start q (drop i t) i w ≡ quoted_by f start q (drop 1 (drop i t)) (i + 1) (w + begins b)
    passed f n m = turn f i w h ∙ simp (ne_eqb b q n, ne_eqb b 92 m)

    by-escape : (f : ℕ) → (g : Going i w) → g.turns ≡ suc f → (b ≡ q → ⊥) → b ≡ 92 → (r : Told) → escape_is r ≡ escape_of (part t (i + 1) (length t - (i + 1))) i
        → on_escape (λ n. quoted_by f start q (drop n (drop i t)) (i + n) (w + n)) start (escape_is r) ≡ quoted t start
    by-escape f g z n e r p = sym (escaped f (escape_is r) n e (told t i r p)) ∙ rw z at g.is

    pub going-closed : Going i w → b ≡ q → (v : ℕ) → v ≡ w + 1 → got (record { end = i; width = v }) ≡ quoted t start
    going-closed g e v d = rw d (once g.turns (omega (arith, g.enough)) (λ f z. sym (shut f e) ∙ rw z at g.is))

    -- by what a call answered of the escape at i
    pub going-told : Going i w → (b ≡ q → ⊥) → b ≡ 92 → (r : Told) → escape_is r ≡ escape_of (part t (i + 1) (length t - (i + 1))) i → Stood i w r
    going-told g n e (Ok (Some c)) p =
        let m = c.size in
        let k = reach t i (Ok (Some c)) p c refl h in (
          k.0,
          k.1,
          once g.turns (omega (arith, g.enough)) (λ f z. record {
            turns = f;
            enough = omega (arith, k.0, g.enough, z);
            is = ap (λ (l : List ℕ). quoted_by f start q l (i + m) (w + m)) (sym (drop-drop m i t)) ∙ by-escape f g z n e (Ok (Some c)) p;
          }),
        )
    going-told g n e (Err x) p = once g.turns (omega (arith, g.enough)) (λ f z. by-escape f g z n e (Err x) p)
    going-told g n e (Ok None) p = once g.turns (omega (arith, g.enough)) (λ f z. by-escape f g z n e (Ok None) p)

    pub going-character : Going i w → (b ≡ q → ⊥) → (b ≡ 92 → ⊥) → Going (i + 1) (w + begins b)
    going-character g n m =
        once g.turns (omega (arith, g.enough)) (λ f z. record {
          turns = f;
          enough = omega (arith, g.enough, z);
          is = ap (λ (l : List ℕ). quoted_by f start q l (i + 1) (w + begins b)) (sym (drop-drop 1 i t)) ∙ sym (passed f n m) ∙ rw z at g.is;
        })

  pub going-open : (i w : ℕ) → length t ≤ i → Going i w → no quote_open start ≡ quoted t start
  unfolding quoted_by
  going-open i w h g = go g.turns g.is
    where
      go : (f : ℕ) → quoted_by f start q (drop i t) i w ≡ quoted t start → no quote_open start ≡ quoted t start
      go zero e = e
      go (suc f) e = rw (drop_of_length-le t {i = i} h) at e

  -- a run of n plain bytes is n characters
  pub going-run : (n i w : ℕ) → i + n ≤ length t → Plain 92 q t i (i + n) → Going i w → Going (i + n) (w + n)
  going-run zero i w h p g = let e : i + 0 ≡ i = omega arith in let d : w + 0 ≡ w = omega arith in rw (e, d) g
  going-run (suc n) i w h p g =
      let b = p.each i (omega arith) (omega arith) in
      let o = begins-low (get_or t i 0) b.low in
      let e : i + suc n ≡ i + 1 + n = omega arith in
      let d : w + suc n ≡ w + begins (get_or t i 0) + n = omega (arith, o) in
      rw (e, d) (going-run n (i + 1) (w + begins (get_or t i 0)) (omega arith) (record { each = λ k m l. p.each k (omega arith) (omega arith) })
      (going-character i w (omega arith) g b.second b.first))

  -- the same from one place to another
  pub going-plain : (i j w : ℕ) → i ≤ j → j ≤ length t → Plain 92 q t i j → Going i w → Going j (w + (j - i))
  going-plain i j w h k p g =
      let e : i + (j - i) ≡ j = omega arith in
      rw e at (going-run (j - i) i w (omega arith) (rw e p) g)

  -- the same with the width as a call told it
  pub going-over : (i j w w' : ℕ) → i ≤ j → j ≤ length t → Plain 92 q t i j → w' ≡ w + (j - i) → Going i w → Going j w'
  going-over i j w w' h k p e g = going-wide j (w + (j - i)) w' e (going-plain i j w h k p g)
