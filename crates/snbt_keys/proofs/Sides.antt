-- Laws of the search by halving: a key lies between what is below it and what it is below.
-- Assumes nothing.
use Prim.Native.Nat.{ℕ, ◌+◌, ◌-◌, ◌≤◌, ◌<◌}
use mathlib.Core.List.{List}
use mathlib.Core.Bool.{true, false}
use mathlib.Core.Logic.{◌⊎◌, inl, inr}
use mathlib.Core.Path.{◌≡◌, refl, sym, ap, ◌∙◌}
use native.Mathlib.Omega.{arith}
use lib.ListN.{get_or}
use Rattle.form.proofs.Picks.{lt-or}
use Rattle.form.specs.Spans.{same}
use Rattle.snbt_form.specs.Text.{known}
use Rattle.snbt_keys.proofs.Orders.{true-false, below_self, below-trans, below_apart, above_apart}
use Rattle.snbt_keys.proofs.Names.{known-here, known-not}
use Rattle.snbt_keys.specs.Keys.{name_at, names_in, below, Rising, Sides, FreeIn, SpotIs}
use Rattle.std.specs.Prelude.{Option, Some, None}

module _ {o k : List ℕ} {base top at : ℕ} (run : Rising o k base top at) (s : List ℕ) where
  module _ {a b m : ℕ} (sides : Sides o k base top s a b) (from : a ≤ m) (to : m < b) where
    -- the name in the middle is below the key: so are those before it
    pub sides-up : below (name_at o (get_or k m 0)) s ≡ true → Sides o k base top s (m + 1) b
    sides-up e =
        record {
          low = omega arith;
          order = omega arith;
          high = sides.high;
          before = λ j h l. go j h (lt-or j m) l;
          behind = sides.behind;
        }
      where
        go : (j : ℕ) → base ≤ j → (j < m) ⊎ (m ≤ j) → j < m + 1 → below (name_at o (get_or k j 0)) s ≡ true
        go j h (inl p) l = below-trans (name_at o (get_or k j 0)) (name_at o (get_or k m 0)) s (run.rise j m h p (omega arith)) e
        go j h (inr p) l = let q : j ≡ m = omega arith in rw q e

    -- the key is below the name in the middle: and below those behind it
    pub sides-down : below s (name_at o (get_or k m 0)) ≡ true → Sides o k base top s a m
    sides-down e =
        record {
          low = sides.low;
          order = from;
          high = omega arith;
          before = sides.before;
          behind = λ j h l. go j h (lt-or m j) l;
        }
      where
        go : (j : ℕ) → m ≤ j → (m < j) ⊎ (j ≤ m) → j < top → below s (name_at o (get_or k j 0)) ≡ true
        go j h (inl p) l = below-trans s (name_at o (get_or k m 0)) (name_at o (get_or k j 0)) e (run.rise m j (omega arith) p l)
        go j h (inr p) l = let q : j ≡ m = omega arith in rw q e

    -- it is the key
    pub sides-taken : name_at o (get_or k m 0) ≡ s → known s (names_in o k base (top - base)) ≡ true
    sides-taken e =
        let f : base + (m - base) ≡ m = omega arith in
        known-here o k base (top - base) s (m - base) (omega arith) (rw f e)

  -- nothing lies between
  pub sides-free : {a b : ℕ} → Sides o k base top s a b → b ≤ a → FreeIn o k base top s a
  sides-free {a} {b} sides h =
      record {
        new = known-not o k base (top - base) s (λ j l m. go j l (omega arith) (lt-or j a));
        sides = record {
          low = sides.low;
          order = omega arith;
          high = omega arith;
          before = sides.before;
          behind = λ j l m. sides.behind j (omega arith) m;
        };
      }
    where
      go : (j : ℕ) → base ≤ j → j < top → (j < a) ⊎ (a ≤ j) → same (name_at o (get_or k j 0)) s ≡ false
      go j l m (inl p) = below_apart (name_at o (get_or k j 0)) s (sides.before j l p)
      go j l m (inr p) = above_apart s (name_at o (get_or k j 0)) (sides.behind j (omega arith) m)

-- ---- one index

-- a key belongs at no index before another at which it belongs
sides-not : {o k : List ℕ} {base top : ℕ} {s : List ℕ} {i j : ℕ} → Sides o k base top s i i → Sides o k base top s j j → i < j → ⊥
sides-not {o} {k} {base} {top} {s} {i} {j} a b h =
    let n = name_at o (get_or k i 0) in
    true-false (sym (below-trans s n s (a.behind i (omega arith) (omega (arith, b.high))) (b.before i a.low h)) ∙ below_self s)

-- Two answers that the promise of `spot_of` allows are one.
pub one_spot : (o k : List ℕ) (base top : ℕ) (s : List ℕ) (r r' : Option ℕ) → SpotIs o k base top s r → SpotIs o k base top s r' → r ≡ r'
one_spot o k base top s None None a b = refl
one_spot o k base top s None (Some j) a b = true-false (sym a ∙ b.new)
one_spot o k base top s (Some i) None a b = true-false (sym b ∙ a.new)
one_spot o k base top s (Some i) (Some j) a b = go (lt-or i j) (lt-or j i)
  where
    go : (i < j) ⊎ (j ≤ i) → (j < i) ⊎ (i ≤ j) → Some i ≡ Some j
    go (inl h) z = absurd (sides-not a.sides b.sides h)
    go (inr h) (inl m) = absurd (sides-not b.sides a.sides m)
    go (inr h) (inr m) = let e : i ≡ j = omega arith in ap Some e
