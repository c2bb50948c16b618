-- Laws of blocks: plain bytes, and bytes that fit behind each other, are values that both codings read alike.
-- Assumes nothing.
use Prim.Native.Nat.{ℕ, zero, suc, ◌+◌, ◌-◌, ◌%◌, ◌≤◌, ◌<◌}
use mathlib.Core.Path.{◌≡◌}
use mathlib.Core.Logic.{⊎_elim}
use mathlib.Core.Bool.{true}
use mathlib.Core.List.{List, ◌∷◌}
use native.Mathlib.Omega.{arith}
use borrow.Author.Tests.{lt-ltb, le-ltb, ne_eqb}
use lib.ListN.{length, drop, get_or}
use Rattle.form.specs.Form.{Rule}
use Rattle.form.specs.Strings.{enc_of}
use Rattle.form.specs.Spans.{part}
use Rattle.form.specs.Decoding.{is, good, six, two_of, three_of, one_of, Judged}
use Rattle.form.proofs.Picks.{lt-or}
use Rattle.form.proofs.Drops.{drop1, drop2, drop3}
use Rattle.chars.proofs.Sequences.{follows, unit-plain, unit-two, unit-three}
use Rattle.plain.specs.Runs.{short_plain, IsPlain, Plain}
use Rattle.plain.proofs.Plains.{short-is, part-is}
use Rattle.mutf8.specs.Runs.{Walked, none, more, common_of, Passed, Fits, Fitting, Edge}
use Rattle.mutf8.proofs.Codings.{alike}
use Rattle.mutf8.proofs.Walks.{walked-join, walked-pass, all-walked}

-- ---- plain bytes

one-common : (a : ℕ) (l : List ℕ) → 0 < a → a < 128 → common_of (a ∷ l) ≡ is a 1
unfolding common_of
one-common a l p q = rw (unit-plain a l p q) (simp (ne_eqb a 0 (omega arith), lt-ltb a 55296 (omega arith)))

plain-is : (s : List ℕ) (i : ℕ) → i < length s → IsPlain 0 0 (get_or s i 0) → common_of (drop i s) ≡ is (get_or s i 0) 1
plain-is s i h b = rw (drop1 s i h) (one-common _ _ b.some b.low)

-- every rule reads a plain byte as itself
pub plain-one : (k : Rule) (s : List ℕ) (j : ℕ) → j < length s → IsPlain 0 0 (get_or s j 0) → one_of k (drop j s) ≡ is (get_or s j 0) 1
plain-one k s j h b = alike k _ _ _ (plain-is s j h b)

-- one plain byte more
pub walked-plain : (k : Rule) (s : List ℕ) (i j : ℕ) → j < length s → IsPlain 0 0 (get_or s j 0) → Walked (one_of k) s i j → Walked (one_of k) s i (j + 1)
walked-plain k s i j h b w = walked-join w (more {i = j} {c = get_or s j 0} {n = 1} (plain-one k s j h b) none)

plain-run : (s : List ℕ) (n i : ℕ) → i + n ≤ length s → Plain 0 0 s i (i + n) → Walked common_of s i (i + n)
plain-run s zero i h p = let e : i + 0 ≡ i = omega arith in rw e none
plain-run s (suc n) i h p =
    let e : i + suc n ≡ i + 1 + n = omega arith in
    rw e (more {i = i} {c = get_or s i 0} {n = 1} (plain-is s i (omega arith) (p.each i (omega arith) (omega arith)))
    (plain-run s n (i + 1) (omega arith) (record { each = λ k a l. p.each k (omega arith) (omega arith) })))

pub plain-passed : (s : List ℕ) (i j : ℕ) → i ≤ j → j ≤ length s → Plain 0 0 s i j → Passed s i j
plain-passed s i j h l p = record {
  on = h;
  within = l;
  walked = let e : i + (j - i) ≡ j = omega arith in rw e at (plain-run s (j - i) i (omega arith) (rw e p));
}

-- as far as plain blocks reach
pub blocks-passed : (s : List ℕ) (i r : ℕ) → (i ≤ r) × (r ≤ length s) × Plain 0 0 s i r → Passed s i r
blocks-passed s i r h = plain-passed s i r h.0 h.1 h.2

-- ---- what was passed

pub passed_none : (s : List ℕ) (i : ℕ) → i ≤ length s → Passed s i i
passed_none s i h = record { on = omega arith; within = h; walked = none }

-- the last bytes, where they are few and plain
pub short-passed : (s : List ℕ) (i : ℕ) → i ≤ length s → short_plain 0 (part s i (length s - i)) ≡ true → Passed s i (length s)
short-passed s i h e = plain-passed s i (length s) h (omega arith) (part-is 0 s i (length s) h (omega arith) e).1

-- a list that is short and all plain is good by any rule
pub short-good : (k : Rule) (s : List ℕ) → short_plain 0 s ≡ true → Judged (enc_of k) (one_of k) s good
short-good k s e = all-walked k (omega arith) (walked-pass k none (plain-passed s 0 (length s) (omega arith) (omega arith) (short-is 0 s e).1))

pub passed-join : (s : List ℕ) (i j k : ℕ) → Passed s i j → Passed s j k → Passed s i k
passed-join s i j k p q = record { on = omega (arith, p.on, q.on); within = q.within; walked = walked-join p.walked q.walked }

-- ---- bytes that fit

pub fitting-none : (s : List ℕ) (i j : ℕ) → j ≤ i → Fitting s i j
fitting-none s i j h = record { each = λ k p q. absurd (omega arith) }

pub fitting-more : (s : List ℕ) (i j : ℕ) → Fitting s i j → Fits (get_or s (j - 2) 0) (get_or s (j - 1) 0) (get_or s j 0) → Fitting s i (j + 1)
fitting-more s i j h f = record { each = λ k a b. ⊎_elim (λ lt. h.each k a lt) (λ ge. let e : k ≡ j = omega arith in rw e f) (lt-or k j) }

-- by what is due behind p and q (x), whether b follows a lead byte (y), and what is wrong with b by itself and behind p
pub fits-of : {q p b x y : ℕ} → (p < 192 → q < 224 → x ≡ 0) × (192 ≤ p → x ≡ 1) × (224 ≤ q → x ≡ 1)
    → (b < 128 → y ≡ 0) × (192 ≤ b → y ≡ 0) × (128 ≤ b → b < 192 → y ≡ 1) → x ≡ y
    → (0 < b) × (b < 240) × (192 ≤ b → 194 ≤ b) → (p ≡ 224 → 160 ≤ b) × (p ≡ 237 → b < 160) → Fits q p b
fits-of {q} {p} {b} {x} {y} due follows e (some, low, lead) (long, basic) = record {
  some = some;
  low = low;
  lead = lead;
  free = λ h k l. ⊎_elim (λ m. absurd (omega (arith, due.0 h k, follows.2 l m))) (λ m. m) (lt-or b 192);
  second = λ h. following (due.1 h);
  third = λ h. following (due.2 h);
  long = long;
  basic = basic;
}
  where
    following : x ≡ 1 → (128 ≤ b) × (b < 192)
    following f = (
      ⊎_elim (λ m. absurd (omega (arith, follows.0 m))) (λ m. m) (lt-or b 128),
      ⊎_elim (λ m. m) (λ m. absurd (omega (arith, follows.1 m))) (lt-or b 192),
    )

two-common : (a b : ℕ) (l : List ℕ) → 194 ≤ a → a < 224 → 128 ≤ b → b < 192 → common_of (a ∷ b ∷ l) ≡ is (six (a % 32) b) 2
unfolding common_of two_of
two-common a b l h₁ h₂ h₃ h₄ =
    let u = six (a % 32) b in
    rw (unit-two a b l (omega arith) h₂, follows b h₃ h₄) (simp (ne_eqb u 0 (omega arith), le-ltb u 128 (omega arith), lt-ltb u 55296 (omega arith)))

three-common : (a b c : ℕ) (l : List ℕ) → 224 ≤ a → a < 240 → 128 ≤ b → b < 192 → 128 ≤ c → c < 192 → (a ≡ 224 → 160 ≤ b) → (a ≡ 237 → b < 160)
    → common_of (a ∷ b ∷ c ∷ l) ≡ is (six (six (a % 16) b) c) 3
unfolding common_of three_of
three-common a b c l h₁ h₂ h₃ h₄ h₅ h₆ h₇ h₈ =
    let u = six (six (a % 16) b) c in
    let big : 2048 ≤ u = ⊎_elim (λ k. omega (arith, h₇ (omega arith))) (λ k. omega arith) (lt-or a 225) in
    rw (unit-three a b c l h₁ h₂, follows b h₃ h₄, follows c h₅ h₆) (simp (le-ltb u 2048 big, ne_eqb u 0 (omega arith))
    (⊎_elim (λ k. simp (lt-ltb u 55296 (omega arith)))
    (λ k. ⊎_elim (λ m. simp (lt-ltb u 55296 (omega (arith, h₈ (omega arith))))) (λ m. simp (le-ltb u 55296 (omega arith), le-ltb u 57344 (omega arith))) (lt-or a 238)) (lt-or a 237)))

edge_at : (s : List ℕ) (j p q : ℕ) → p + 1 ≡ j → q + 2 ≡ j → get_or s p 0 < 192 → get_or s q 0 < 224 → Edge s j
edge_at s j p q a b h k =
    let e : j - 1 ≡ p = omega arith in
    let f : j - 2 ≡ q = omega arith in
    record { behind = omega arith; last = rw e h; earlier = rw f k }

-- from an edge to an edge, value by value
module _ (s : List ℕ) (i r : ℕ) (fit : Fitting s i r) (within : r ≤ length s) (end : Edge s r) where
  fit_at : (k p q : ℕ) → i ≤ k → k < r → k - 1 ≡ p → k - 2 ≡ q → Fits (get_or s q 0) (get_or s p 0) (get_or s k 0)
  fit_at k p q h l e f = rw (e, f) at (fit.each k h l)

  -- a sequence that begins before the end ends by then
  second-in : (j : ℕ) → j < r → 192 ≤ get_or s j 0 → j + 2 ≤ r
  second-in j h l = ⊎_elim (λ k. let e : r - 1 ≡ j = omega arith in let z : get_or s j 0 < 192 = rw e at end.last in absurd (omega arith)) (λ k. k) (lt-or r (j + 2))

  third-in : (j : ℕ) → j + 2 ≤ r → 224 ≤ get_or s j 0 → j + 3 ≤ r
  third-in j h l = ⊎_elim (λ k. let e : r - 2 ≡ j = omega arith in let z : get_or s j 0 < 224 = rw e at end.earlier in absurd (omega arith)) (λ k. k) (lt-or r (j + 3))

  abbrev Rest : ℕ → Type 0
  Rest n = (j : ℕ) → i ≤ j → j ≤ r → r ≤ j + n → Edge s j → Walked common_of s j r

  by_one : (n : ℕ) → Rest n → (j : ℕ) → i ≤ j → j < r → r ≤ j + suc n → Edge s j → get_or s j 0 < 128 → Walked common_of s j r
  by_one n ih j a b c d h =
      let f = fit.each j a b in
      more {i = j} {c = get_or s j 0} {n = 1} (rw (drop1 s j (omega arith)) (one-common (get_or s j 0) (drop (j + 1) s) f.some h))
      (ih (j + 1) (omega arith) (omega arith) (omega arith) (edge_at s (j + 1) j (j - 1) (omega arith) (omega (arith, d.behind)) (omega arith) (omega (arith, d.last))))

  by_two : (n : ℕ) → Rest n → (j : ℕ) → i ≤ j → j < r → r ≤ j + suc n → 194 ≤ get_or s j 0 → get_or s j 0 < 224 → Walked common_of s j r
  by_two n ih j a b c h k =
      let l = second-in j b (omega arith) in
      let f = fit_at (j + 1) j (j - 1) (omega arith) (omega arith) (omega arith) (omega arith) in
      let x = f.second (omega arith) in
      more {i = j} {c = six (get_or s j 0 % 32) (get_or s (j + 1) 0)} {n = 2} (rw (drop2 s j (omega arith)) (two-common _ _ _ h k x.0 x.1))
      (ih (j + 2) (omega arith) l (omega arith) (edge_at s (j + 2) (j + 1) j (omega arith) (omega arith) x.1 k))

  by_three : (n : ℕ) → Rest n → (j : ℕ) → i ≤ j → j < r → r ≤ j + suc n → 224 ≤ get_or s j 0 → Walked common_of s j r
  by_three n ih j a b c h =
      let l = third-in j (second-in j b (omega arith)) h in
      let f = fit_at (j + 1) j (j - 1) (omega arith) (omega arith) (omega arith) (omega arith) in
      let g = fit_at (j + 2) (j + 1) j (omega arith) (omega arith) (omega arith) (omega arith) in
      let x = f.second (omega arith) in
      let y = g.third h in
      more {i = j} {c = six (six (get_or s j 0 % 16) (get_or s (j + 1) 0)) (get_or s (j + 2) 0)} {n = 3}
      (rw (drop3 s j (omega arith)) (three-common _ _ _ _ h (fit.each j a b).low x.0 x.1 y.0 y.1 f.long f.basic))
      (ih (j + 3) (omega arith) l (omega arith) (edge_at s (j + 3) (j + 2) (j + 1) (omega arith) (omega arith) y.1 (omega (arith, x.1))))

  by-fit : (n : ℕ) → Rest n
  by-fit zero j a b c d = let e : r ≡ j = omega arith in rw e none
  by-fit (suc n) j a b c d =
      ⊎_elim
      (λ l. ⊎_elim (λ h. by_one n (by-fit n) j a l c d h)
      (λ h. let f = fit.each j a l in let k = f.lead (f.free d.last d.earlier h) in
      ⊎_elim (λ m. by_two n (by-fit n) j a l c k m) (λ m. by_three n (by-fit n) j a l c m) (lt-or (get_or s j 0) 224)) (lt-or (get_or s j 0) 128))
      (λ l. let e : r ≡ j = omega arith in rw e none)
      (lt-or j r)

pub fitting-passed : (s : List ℕ) (i r e : ℕ) → i ≤ r → r ≤ e → e ≤ length s → Fitting s i e → Edge s i → Edge s r → Passed s i r
fitting-passed s i r e a b c f d end = record {
  on = a;
  within = omega arith;
  walked = by-fit s i r (record { each = λ k h l. f.each k h (omega arith) }) (omega arith) end r i (omega arith) a (omega arith) d;
}
