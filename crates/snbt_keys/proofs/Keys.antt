-- Laws of a run of keys: none yet, the same after more was written behind them, and one more put in.
-- Assumes nothing.
use Prim.Native.Nat.{ℕ, zero, suc, ◌+◌, ◌-◌, ◌≤◌, ◌<◌}
use mathlib.Core.List.{List, [], ◌∷◌, ◌++◌}
use mathlib.Core.Bool.{Bool, true, false, ◌||◌}
use mathlib.Core.Logic.{◌⊎◌, inl, inr}
use mathlib.Core.Path.{◌≡◌, refl, sym, ap, ◌∙◌}
use native.Mathlib.Omega.{arith}
use lib.ListN.{length, get_or, take, drop, length-take}
use lib.Seq.{take-take, take-add, drop-drop, take_at, drop_at}
use Rattle.form.specs.Numbers.{bytes_of, big_endian}
use Rattle.form.specs.Spans.{part, same}
use Rattle.form.proofs.Digits.{digits-length, value-digits-below}
use Rattle.form.proofs.Picks.{lt-or}
use Rattle.snbt_form.specs.Text.{known}
use Rattle.snbt_keys.proofs.Shifts.{place-front, put-before, put-here, put-behind, put-length}
use Rattle.snbt_keys.proofs.Names.{names-alike, names-parts, names-first, known-parts, known-first}
use Rattle.snbt_keys.specs.Keys.{size_at, name_at, names_in, below, Rising, FreeIn, put_in, Named}

-- ---- what stands in front

-- a span that ends at or before `at`
pub part-take : (l : List ℕ) (at a n : ℕ) → a + n ≤ at → part (take at l) a n ≡ part l a n
part-take l at zero n h = take-take n at l (omega arith)
part-take l zero (suc a) n h = absurd (omega arith)
part-take [] (suc at) (suc a) n h = refl
part-take (x ∷ l) (suc at) (suc a) n h = part-take l at a n (omega arith)

module _ (o o' : List ℕ) (at : ℕ) (front : take at o ≡ take at o') where
  part-front : (a n : ℕ) → a + n ≤ at → part o a n ≡ part o' a n
  part-front a n h = sym (part-take o at a n h) ∙ ap (λ l. part l a n) front ∙ part-take o' at a n h

  size-front : (p : ℕ) → p + 2 ≤ at → size_at o p ≡ size_at o' p
  size-front p h = ap big_endian (part-front p 2 h)

  pub name-front : (p : ℕ) → p + (2 + size_at o p) ≤ at → name_at o p ≡ name_at o' p
  unfolding name_at
  name-front p h = rw (← size-front p (omega arith)) (part-front (p + 2) (size_at o p) (omega arith))

-- ---- no key yet

pub rising_none : (o k : List ℕ) (base at : ℕ) → at ≤ length o → base ≤ length k → Rising o k base base at
rising_none o k base at h l =
    record {
      within = h;
      low = omega arith;
      high = l;
      ends = λ i p q. absurd (omega arith);
      rise = λ i j p q r. absurd (omega arith);
    }

-- ---- the same keys, where more was written behind them

module _ {o k : List ℕ} {base top at : ℕ} (run : Rising o k base top at) (o' k' : List ℕ) (front : take at o ≡ take at o') (places : take top k ≡ take top k') where
  same_place : (i : ℕ) → i < top → get_or k i 0 ≡ get_or k' i 0
  same_place i h = place-front k k' top places i h

  pub same_name : (i : ℕ) → base ≤ i → i < top → name_at o (get_or k i 0) ≡ name_at o' (get_or k' i 0)
  same_name i h l = rw (← same_place i l) (name-front o o' at front (get_or k i 0) (run.ends i h l))

  pub rising-same : {at' : ℕ} → at ≤ at' → at' ≤ length o' → Rising o' k' base top at'
  rising-same {at'} h l =
      record {
        within = l;
        low = run.low;
        high = omega (arith, run.high, simp length-take at (ap length places));
        ends = λ i p q. ends i p q;
        rise = λ i j p q r. rw (← same_name i p (omega arith), ← same_name j (omega arith) r) (run.rise i j p q r);
      }
    where
      ends : (i : ℕ) → base ≤ i → i < top → get_or k' i 0 + (2 + size_at o' (get_or k' i 0)) ≤ at'
      ends i p q =
          let e = run.ends i p q in
          rw (← same_place i q, ← size-front o o' at front (get_or k i 0) (omega arith)) (omega arith)

  pub names_same : names_in o k base (top - base) ≡ names_in o' k' base (top - base)
  names_same = names-alike o k base o' k' base (top - base) (λ i h. same_name (base + i) (omega arith) (omega arith))

-- ---- a name that was written with its length

pub named_put : (o : List ℕ) (p at : ℕ) (s : List ℕ) → length s < 65536 → part o p (2 + length s) ≡ bytes_of 2 (length s) ++ s → p + (2 + length s) ≤ at
    → Named o p at s
named_put o p at s h e l =
    let long : length (bytes_of 2 (length s)) ≡ 2 = digits-length 2 (length s) in
    let first : part o p 2 ≡ bytes_of 2 (length s) =
    sym (take-take 2 (2 + length s) (drop p o) (omega arith)) ∙ ap (take 2) e ∙ take_at (bytes_of 2 (length s)) s 2 long in
    let parts : part o p (2 + length s) ≡ part o p 2 ++ part o (p + 2) (length s) =
    take-add 2 (length s) (drop p o) ∙ ap (λ r. part o p 2 ++ take (length s) r) (drop-drop 2 p o) in
    record {
      size = ap big_endian first ∙ value-digits-below 2 (length s) h;
      is = sym (drop_at (part o p 2) (part o (p + 2) (length s)) 2 (ap length first ∙ long)) ∙ ap (drop 2) (sym parts ∙ e) ∙ drop_at (bytes_of 2 (length s)) s 2 long;
      ends = l;
    }

-- what stands there
pub named-name : {o : List ℕ} {p at : ℕ} {s : List ℕ} → Named o p at s → name_at o p ≡ s
unfolding name_at
named-name n = rw n.size n.is

-- ---- one key more

pub or-moved : (a b c : Bool) → (a || (c || b)) ≡ (c || (a || b))
or-moved true b true = refl
or-moved true b false = refl
or-moved false b true = refl
or-moved false b false = refl

-- what holds before an index, at it, and at each index above it
pub each : (P : ℕ → Type 0) (base i top : ℕ) → ((j : ℕ) → base ≤ j → j < i → P j) → P i → ((m : ℕ) → i ≤ m → m < top → P (m + 1))
    → (j : ℕ) → base ≤ j → j < top + 1 → P j
each P base i top f x g j h l = go (lt-or j i) (lt-or i j)
  where
    go : (j < i) ⊎ (i ≤ j) → (i < j) ⊎ (j ≤ i) → P j
    go (inl p) q = f j h p
    go (inr p) (inr q) = let e : j ≡ i = omega arith in rw e x
    go (inr p) (inl q) = let e : j ≡ j - 1 + 1 = omega arith in rw e (g (j - 1) (omega arith) (omega arith))

-- The key s, which belongs at index i, stands at place p behind the others, and its place was put in.
module _ {o k o' k' s : List ℕ} {base top at at' i p : ℕ} (run : Rising o k base top at) (free : FreeIn o k base top s i) (room : top < length k)
    (put : k' ≡ put_in k top i p) (front : take at o ≡ take at o') (name : Named o' p at' s) (behind : at ≤ p) (within : at' ≤ length o') where
  pub place-before : (j : ℕ) → j < i → get_or k' j 0 ≡ get_or k j 0
  place-before j h = rw put (put-before k top room i p j free.sides.high h)

  pub place_here : get_or k' i 0 ≡ p
  place_here = rw put (put-here k top room i p free.sides.high)

  pub place-behind : (j : ℕ) → i ≤ j → j < top → get_or k' (j + 1) 0 ≡ get_or k j 0
  place-behind j h l = rw put (put-behind k top room i p j h l)

  name-old : (j : ℕ) → base ≤ j → j < top → name_at o' (get_or k j 0) ≡ name_at o (get_or k j 0)
  name-old j h l = sym (name-front o o' at front (get_or k j 0) (run.ends j h l))

  pub name-before : (j : ℕ) → base ≤ j → j < i → name_at o' (get_or k' j 0) ≡ name_at o (get_or k j 0)
  name-before j h l = rw (place-before j l) (name-old j h (omega (arith, free.sides.high)))

  pub name-here : name_at o' (get_or k' i 0) ≡ s
  unfolding name_at
  name-here = rw place_here (named-name name)

  pub name-behind : (j : ℕ) → i ≤ j → j < top → name_at o' (get_or k' (j + 1) 0) ≡ name_at o (get_or k j 0)
  name-behind j h l = rw (place-behind j h l) (name-old j (omega (arith, free.sides.low)) l)

  place-ends : (j : ℕ) → base ≤ j → j < top + 1 → get_or k' j 0 + (2 + size_at o' (get_or k' j 0)) ≤ at'
  place-ends =
      each (λ j. get_or k' j 0 + (2 + size_at o' (get_or k' j 0)) ≤ at') base i top
      (λ j h l. rw (place-before j l) (old j h (omega (arith, free.sides.high))))
      (rw (place_here, name.size) name.ends)
      (λ j h l. rw (place-behind j h l) (old j (omega (arith, free.sides.low)) l))
    where
      old : (j : ℕ) → base ≤ j → j < top → get_or k j 0 + (2 + size_at o' (get_or k j 0)) ≤ at'
      old j h l =
          let e = run.ends j h l in
          rw (← size-front o o' at front (get_or k j 0) (omega arith)) (omega (arith, name.ends))

  place-rise : (a b : ℕ) → base ≤ a → a < b → b < top + 1 → below (name_at o' (get_or k' a 0)) (name_at o' (get_or k' b 0)) ≡ true
  place-rise a b h l m =
      each (λ a. (b : ℕ) → a < b → b < top + 1 → below (name_at o' (get_or k' a 0)) (name_at o' (get_or k' b 0)) ≡ true) base i top
      (λ a h q b l m.
      rw (name-before a h q)
      (each (λ b. a < b → below (name_at o (get_or k a 0)) (name_at o' (get_or k' b 0)) ≡ true) base i top
      (λ b h' q' l'. rw (name-before b h' q') (run.rise a b h l' (omega (arith, free.sides.high))))
      (λ l'. rw name-here (free.sides.before a h q))
      (λ n p r l'. rw (name-behind n p r) (run.rise a n h (omega arith) r))
      b (omega arith) m l))
      (λ b l m.
      rw name-here
      (each (λ b. i < b → below s (name_at o' (get_or k' b 0)) ≡ true) base i top
      (λ b h' q' l'. absurd (omega arith))
      (λ l'. absurd (omega arith))
      (λ n p r l'. rw (name-behind n p r) (free.sides.behind n p r))
      b (omega (arith, free.sides.low)) m l))
      (λ n p r b l m.
      rw (name-behind n p r)
      (each (λ b. n + 1 < b → below (name_at o (get_or k n 0)) (name_at o' (get_or k' b 0)) ≡ true) base i top
      (λ b h' q' l'. absurd (omega arith))
      (λ l'. absurd (omega arith))
      (λ n' p' r' l'. rw (name-behind n' p' r') (run.rise n n' (omega (arith, free.sides.low)) (omega arith) r'))
      b (omega (arith, free.sides.low)) m l))
      a h (omega arith) b l m

  pub rising-more : Rising o' k' base (top + 1) at'
  rising-more =
      record {
        within = within;
        low = omega (arith, run.low);
        high = rw (ap length put, put-length k top room i p free.sides.high) (omega arith);
        ends = place-ends;
        rise = place-rise;
      }

  pub known_more : (x : List ℕ) → known x (names_in o' k' base (top + 1 - base)) ≡ (same s x || known x (names_in o k base (top - base)))
  known_more x =
      let lo = free.sides.low in
      let hi = free.sides.high in
      let e : top + 1 - base ≡ (i - base) + (1 + (top - i)) = omega arith in
      let f : top - base ≡ (i - base) + (top - i) = omega arith in
      let g : base + (i - base) ≡ i = omega arith in
      let before : names_in o' k' base (i - base) ≡ names_in o k base (i - base) =
      names-alike o' k' base o k base (i - base) (λ j h. name-before (base + j) (omega arith) (omega arith)) in
      let behind : names_in o' k' (i + 1) (top - i) ≡ names_in o k i (top - i) =
      names-alike o' k' (i + 1) o k i (top - i)
      (λ j h. let q : i + 1 + j ≡ i + j + 1 = omega arith in rw q (name-behind (i + j) (omega arith) (omega arith))) in
      rw (
        e,
        f,
        names-parts o' k' base (i - base) (1 + (top - i)),
        names-parts o k base (i - base) (top - i),
        g,
        names-first o' k' i (top - i),
        name-here,
        before,
        behind,
        known-parts x (names_in o k base (i - base)) (s ∷ names_in o k i (top - i)),
        known-parts x (names_in o k base (i - base)) (names_in o k i (top - i)),
        known-first x s (names_in o k i (top - i)),
      )
      (or-moved (known x (names_in o k base (i - base))) (known x (names_in o k i (top - i))) (same s x))
