-- Laws of what a comparison answers.
-- Assumes nothing.
use Prim.Native.Nat.{ℕ, ◌+◌, ◌^◌, ◌≤◌, ◌<◌}
use mathlib.Core.Bool.{Bool, true, false}
use mathlib.Core.List.{List}
use mathlib.Core.Path.{◌≡◌, refl, subst}
use native.Mathlib.Omega.{arith}
use lib.Dec.{ltb}
use borrow.Author.Tests.{ltb-true, ltb-false}
use lib.ListN.{length}
use Rattle.form.specs.Spans.{part}
use Rattle.nbt_siblings.specs.Names.{name_of}
use Rattle.form.specs.Numbers.{value}
use Rattle.nbt_siblings.specs.Links.{num, rank}
use Rattle.nbt_siblings.specs.Lists.{Told, Picked}
use Rattle.nbt_siblings.proofs.Numbers.{num-is}
use Rattle.std.specs.declared.cmp.Ordering.{Ordering}
use Rattle.std.specs.declared.cmp.Ordering.TheVariants.{Less, Equal, Greater}
use Rattle.nbt_siblings.specs.Orders.{Ordered}

shift : (k x y : ℕ) (r : Ordering) → Ordered x y r → Ordered (k + x) (k + y) r
shift k x y Less h = omega arith
shift k x y Equal h = omega arith
shift k x y Greater h = omega arith

-- what is left of both, where the rest differs by as much
pub ordered-rest : (x y u v : ℕ) (r : Ordering) → x + v ≡ y + u → Ordered u v r → Ordered x y r
ordered-rest x y u v Less e h = omega arith
ordered-rest x y u v Equal e h = omega arith
ordered-rest x y u v Greater e h = omega arith

-- an answer other than equal is of numbers that differ
pub ordered-other : (x y : ℕ) (r : Ordering) → Ordered x y r → (r ≡ Equal → ⊥) → x ≡ y → ⊥
ordered-other x y Less h n e = omega arith
ordered-other x y Equal h n e = n refl
ordered-other x y Greater h n e = omega arith

pub spans-num : (doc : List ℕ) (a n b m : ℕ) (r : Ordering) → a + n ≤ length doc → b + m ≤ length doc → n ≡ m
    → Ordered (value (part doc a n)) (value (part doc b n)) r → Ordered (num (part doc a n)) (num (part doc b m)) r
spans-num doc a n b m r la lb e h =
    subst (λ k. b + k ≤ length doc → Ordered (num (part doc a n)) (num (part doc b k)) r) e
    (λ l. rw (num-is doc a n la, num-is doc b n l) (shift (256 ^ n) (value (part doc a n)) (value (part doc b n)) r h)) lb

module _ (doc t : List ℕ) (i j : ℕ) (si : i < 4294967296) (sj : j < 4294967296) where
  pub rank_less : num (name_of doc t i) < num (name_of doc t j) → rank doc t i < rank doc t j
  unfolding rank
  rank_less h = omega arith

  pub rank-more : num (name_of doc t j) < num (name_of doc t i) → rank doc t j ≤ rank doc t i
  unfolding rank
  rank-more h = omega arith

  pub rank_same : num (name_of doc t i) ≡ num (name_of doc t j) → (b : Bool) → Told i j b → Told (rank doc t i) (rank doc t j) b
  unfolding rank
  rank_same h true l = omega arith
  rank_same h false l = omega arith

pub told : (i j : ℕ) → Told i j (ltb i j)
told i j = go (ltb i j) refl
  where
    go : (b : Bool) → ltb i j ≡ b → Told i j b
    go true e = ltb-true i j e
    go false e = ltb-false i j e

module _ (p q kx ky : ℕ) (hp : 0 < p) (hq : 0 < q) where
  pub picked-up : (up : Bool) → up ≡ true → (r : Bool) → Told kx ky r → Picked up p q kx ky r
  picked-up true e true h = (hp, λ l. omega arith)
  picked-up true e false h = (hq, λ l. omega arith)
  picked-up false e r h = absurd (let w : ◌≡◌ {A = ℕ} 0 1 = cc in omega arith)

  pub picked-down : (up : Bool) → up ≡ false → (r : Bool) → Told ky kx r → Picked up p q kx ky r
  picked-down false e true h = (hp, λ l. omega arith)
  picked-down false e false h = (hq, λ l. omega arith)
  picked-down true e r h = absurd (let w : ◌≡◌ {A = ℕ} 0 1 = cc in omega arith)
