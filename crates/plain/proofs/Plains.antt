-- Plain bytes by their test, and as facts: one way and back, one byte more, two runs that overlap or meet.
-- Assumes nothing.
use Rattle.std.proofs.Common.{◌≡◌, ℕ, zero, suc, ◌+◌, ◌-◌, ◌<◌, ◌≤◌, Bool, true, false, not, ◌&&◌, eqb, ltb, leb, List, length, get_or, sym, refl, ap, ◌∙◌, ap₂, ⊎_elim, zero-add, arith, ltb-false, ltb-true, eq-eqb, ne_eqb, le-leb, leb-true}
use borrow.Author.Tests.{eqb-false, not-true, lt-leb}
use Rattle.form.specs.Answer.{pick}
use Rattle.form.specs.Spans.{part}
use Rattle.form.proofs.Picks.{lt-or, and_left, and_right, and-false}
use Rattle.form.proofs.Spans.{part_length}
use Rattle.form.proofs.Places.{part_at}
use Rattle.plain.specs.Runs.{plain_byte, mark, plain_in, short_plain, IsPlain, Plain}

-- ---- tests

-- two tests of which each holds where the other does
alike : (x y : Bool) → (x ≡ true → y ≡ true) → (y ≡ true → x ≡ true) → x ≡ y
alike true y f g = sym (f refl)
alike false true f g = g refl
alike false false f g = refl

-- ---- a byte

pub byte-is : (p q b : ℕ) → plain_byte p q b ≡ true → IsPlain p q b
byte-is p q b e =
    let w = and_right (leb 1 b) _ e in
    let x = and_right (leb b 127) _ w in
    record {
      some = leb-true 1 b (and_left (leb 1 b) _ e);
      low = omega (arith, leb-true b 127 (and_left (leb b 127) _ w));
      first = eqb-false b p (not-true (eqb b p) (and_left (not (eqb b p)) (not (eqb b q)) x));
      second = eqb-false b q (not-true (eqb b q) (and_right (not (eqb b p)) (not (eqb b q)) x));
    }

pub byte-holds : (p q b : ℕ) → IsPlain p q b → true ≡ plain_byte p q b
byte-holds p q b h = simp (le-leb 1 b h.some, le-leb b 127 (omega (arith, h.low)), ne_eqb b p h.first, ne_eqb b q h.second)

-- 0 for a plain byte, as the code has it
pub zero_is : (p q b r : ℕ) → r ≡ mark (plain_byte p q b) → r ≡ 0 → IsPlain p q b
unfolding mark
zero_is p q b r e z = byte-is p q b (go (plain_byte p q b) (sym e ∙ z))
  where
    go : (x : Bool) → mark x ≡ 0 → x ≡ true
    go true h = refl
    go false h = absurd (omega (arith, h))

-- 1 for any other
module _ (p q b : ℕ) where
  pub far-is-none : (1 ≤ b → 127 < b) → 1 ≡ mark (plain_byte p q b)
  unfolding mark
  far-is-none h = sym (ap mark (go (leb 1 b) refl))
    where
      go : (x : Bool) → leb 1 b ≡ x → plain_byte p q b ≡ false
      go true e = simp (e, lt-leb b 127 (h (leb-true 1 b e)))
      go false e = simp e

  pub first-is-none : b ≡ p → 1 ≡ mark (plain_byte p q b)
  unfolding mark
  first-is-none e = simp (eq-eqb b p e, and-false)

  pub second-is-none : b ≡ q → 1 ≡ mark (plain_byte p q b)
  unfolding mark
  second-is-none e = simp (eq-eqb b q e, and-false)

-- ---- a run

pub plain-none : (p q : ℕ) (t : List ℕ) (i j : ℕ) → j ≤ i → Plain p q t i j
plain-none p q t i j h = record { each = λ k m n. absurd (omega arith) }

pub plain_more : (p q : ℕ) (t : List ℕ) (i j : ℕ) → Plain p q t i j → IsPlain p q (get_or t j 0) → Plain p q t i (j + 1)
plain_more p q t i j r b = record { each = λ k h m. ⊎_elim (λ l. r.each k h l) (λ l. let e : k ≡ j = omega arith in rw e b) (lt-or k j) }

-- two runs that overlap or meet
pub plain-join : (p q : ℕ) (t : List ℕ) (i j m k : ℕ) → m ≤ j → Plain p q t i j → Plain p q t m k → Plain p q t i k
plain-join p q t i j m k o a b = record { each = λ n h z. ⊎_elim (λ l. a.each n h l) (λ l. b.each n (omega arith) z) (lt-or n j) }

-- the greater of two is below neither
pub raised-over : (top x r : ℕ) → r ≡ pick (ltb top x) x top → (top ≤ r) × (x ≤ r)
raised-over top x r e = go (ltb top x) refl e
  where
    go : (b : Bool) → ltb top x ≡ b → r ≡ pick b x top → (top ≤ r) × (x ≤ r)
    go true l e = let z = ltb-true top x l in (omega arith, omega arith)
    go false l e = let z = ltb-false top x l in (omega arith, omega arith)

-- the greater of what says so of n bytes and of one more says so of all
raised : (x y : Bool) → pick (ltb (mark x) (mark y)) (mark y) (mark x) ≡ mark (x && y)
unfolding mark
raised true true = refl
raised true false = refl
raised false true = refl
raised false false = refl

-- the same of a code's marks
pub marked : (x y : Bool) (top u r : ℕ) → top ≡ mark x → u ≡ mark y → r ≡ pick (ltb top u) u top → r ≡ mark (x && y)
marked x y top u r p q e = e ∙ ap₂ (λ (a b : ℕ). pick (ltb a b) b a) p q ∙ raised x y

-- what the mark tells
pub told : (x : Bool) (top : ℕ) → top ≡ mark x → eqb top 0 ≡ x
unfolding mark
told true top e = rw e refl
told false top e = rw e refl

pub none_in : (p q : ℕ) (t : List ℕ) (i : ℕ) → 0 ≡ mark (plain_in p q t i 0)
unfolding plain_in mark
none_in p q t i = refl

pub more-in : (p q : ℕ) (t : List ℕ) (i n : ℕ) → plain_in p q t i (n + 1) ≡ (plain_in p q t i n && plain_byte p q (get_or t (i + n) 0))
unfolding plain_in
more-in p q t i n = let e : n + 1 ≡ suc n = omega arith in rw e refl

-- where the test of n bytes holds, each is plain
pub run_is : (p q : ℕ) (t : List ℕ) (i n : ℕ) → plain_in p q t i n ≡ true → Plain p q t i (i + n)
unfolding plain_in
run_is p q t i zero e = plain-none p q t i (i + 0) (omega arith)
run_is p q t i (suc n) e =
    let b = plain_byte p q (get_or t (i + n) 0) in
    let z : i + suc n ≡ i + n + 1 = omega arith in
    rw z (plain_more p q t i (i + n) (run_is p q t i n (and_left (plain_in p q t i n) b e)) (byte-is p q (get_or t (i + n) 0) (and_right (plain_in p q t i n) b e)))

-- and where each is, the test holds
pub run_holds : (p q : ℕ) (t : List ℕ) (i n : ℕ) → Plain p q t i (i + n) → plain_in p q t i n ≡ true
unfolding plain_in
run_holds p q t i zero r = refl
run_holds p q t i (suc n) r =
    let before = run_holds p q t i n (record { each = λ k h m. r.each k h (omega (arith, m)) }) in
    ap₂ ◌&&◌ before (sym (byte-holds p q (get_or t (i + n) 0) (r.each (i + n) (omega arith) (omega arith))))

-- the same two of a list's first n bytes
start_is : (p q : ℕ) (t : List ℕ) (n : ℕ) → plain_in p q t 0 n ≡ true → Plain p q t 0 n
start_is p q t n e = rw zero-add at (run_is p q t 0 n e)

start-holds : (p q : ℕ) (t : List ℕ) (n : ℕ) → Plain p q t 0 n → plain_in p q t 0 n ≡ true
start-holds p q t n r = run_holds p q t 0 n (rw zero-add r)

-- what the test of a short list says of it
pub short-is : (p : ℕ) (t : List ℕ) → short_plain p t ≡ true → (length t < 64) × Plain p p t 0 (length t)
short-is p t e =
    let n = length t in
    (ltb-true n 64 (and_left (ltb n 64) (plain_in p p t 0 n) e), start_is p p t n (and_right (ltb n 64) (plain_in p p t 0 n) e))

-- and what it says of a text of which the list is a part
pub part-is : (p : ℕ) (t : List ℕ) (start e : ℕ) → start ≤ e → e ≤ length t → short_plain p (part t start (e - start)) ≡ true → (e - start < 64) × Plain p p t start e
part-is p t start e h k x =
    let w = short-is p (part t start (e - start)) x in
    let long = part_length t start (e - start) (omega arith) in
    (omega (arith, w.0, long), record { each = λ n a b. rw (byte n a b) at (w.1.each (n - start) (omega arith) (omega (arith, long))) })
  where
    byte : (n : ℕ) → start ≤ n → n < e → get_or (part t start (e - start)) (n - start) 0 ≡ get_or t n 0
    byte n a b = let z : start + (n - start) ≡ n = omega arith in part_at t start (e - start) (n - start) (omega arith) ∙ ap (λ (i : ℕ). get_or t i 0) z

-- a list by its first n bytes and its last n
module _ (p q : ℕ) (t : List ℕ) (n : ℕ) (l : n ≤ length t) (h : length t ≤ n + n) where
  behind : length t - n + n ≡ length t
  behind = omega arith

  -- where all are plain, so are the first and the last
  first_of : plain_in p q t 0 (length t) ≡ true → plain_in p q t 0 n ≡ true
  first_of a = start-holds p q t n (record { each = λ k x y. (start_is p q t (length t) a).each k x (omega (arith, y)) })

  last_of : plain_in p q t 0 (length t) ≡ true → plain_in p q t (length t - n) n ≡ true
  last_of a = run_holds p q t (length t - n) n (record { each = λ k x y. (start_is p q t (length t) a).each k (omega (arith, x)) (omega (arith, y, behind)) })

  -- the first are: then all are, exactly where the last are
  pub both-in : plain_in p q t 0 n ≡ true → plain_in p q t (length t - n) n ≡ plain_in p q t 0 (length t)
  both-in a = alike (plain_in p q t (length t - n) n) (plain_in p q t 0 (length t)) joined last_of
    where
      joined : plain_in p q t (length t - n) n ≡ true → plain_in p q t 0 (length t) ≡ true
      joined b =
          let last = rw behind at (run_is p q t (length t - n) n b) in
          start-holds p q t (length t) (plain-join p q t 0 n (length t - n) (length t) (omega arith) (start_is p q t n a) last)

  -- the first are not: then not all are
  pub first-fails : plain_in p q t 0 n ≡ false → false ≡ plain_in p q t 0 (length t)
  first-fails a = go (plain_in p q t 0 (length t)) refl
    where
      go : (x : Bool) → plain_in p q t 0 (length t) ≡ x → false ≡ x
      go true b = sym a ∙ first_of b
      go false b = refl
