-- Laws of the answers for both classes of marks, and of a table that is as before.
-- Assumes nothing.
use Prim.Native.Nat.{ℕ, ◌%◌, ◌≤◌, ◌<◌}
use mathlib.Core.Bool.{Bool, true, false}
use mathlib.Core.List.{List}
use mathlib.Core.Path.{◌≡◌, refl, sym, subst}
use mathlib.Core.Logic.{inl, inr}
use native.Mathlib.Omega.{arith}
use borrow.Author.Tests.{ltb-true, ltb-false, lt-ltb, le-ltb}
use lib.ListN.{length}
use lib.Dec.{ltb}
use Rattle.nbt_siblings.specs.declared.cells.Sought.{Sought}
use Rattle.nbt_siblings.specs.Names.{siblings}
use Rattle.nbt_siblings.specs.Links.{Mem}
use Rattle.nbt_siblings.specs.Lists.{Least, Family}
use Rattle.nbt_siblings.specs.Cells.{mark_at, Blank, FromOn, Halved, lesser_of, Joined, Ready}
use Rattle.nbt_siblings.proofs.Cases.{same_by}
use Rattle.nbt_siblings.proofs.Rows.{Beside, Repeats, siblings-below}

pub lesser-first : (a b : Sought) (x : ℕ) → a ≡ Sought.At x → b ≡ Sought.Nothing → Sought.At x ≡ lesser_of a b
lesser-first a b x e f = rw (e, f) refl

module _ (a b : Sought) (x y : ℕ) (e : a ≡ Sought.At x) (f : b ≡ Sought.At y) where
  pub lesser-left : x < y → Sought.At x ≡ lesser_of a b
  lesser-left h = rw (e, f, lesser_of, lt-ltb x y h) refl

  pub lesser-right : y ≤ x → Sought.At y ≡ lesser_of a b
  lesser-right h = rw (e, f, lesser_of, le-ltb x y h) refl

module _ (doc t : List ℕ) (first stop : ℕ) where
  both : (a b low : ℕ) → FromOn doc t first stop 0 a → FromOn doc t first stop 1 b → low ≤ a → low ≤ b → (z : ℕ) → Repeats doc t first stop z → low ≤ z
  unfolding FromOn
  both a b low f g la lb z m =
      same_by (mark_at doc t z % 2) 0
      (λ e. omega (arith, la, f z m e)) (λ n. omega (arith, lb, g z m (let e : mark_at doc t z % 2 ≡ 1 = omega (arith, n) in e)))

  below : (z : ℕ) → Repeats doc t first stop z → z ≤ stop
  below z m = omega (arith, siblings-below t stop stop first z m.here)

  joined : (a b : Sought) → Halved doc t first stop 0 a → Halved doc t first stop 1 b → Joined doc t first stop (lesser_of a b)
  joined Sought.Unknown b x y = tt
  joined Sought.Nothing Sought.Unknown x y = tt
  joined Sought.Nothing Sought.Nothing x y = record { is = inl refl; least = both stop stop stop x y (omega arith) (omega arith) }
  joined Sought.Nothing (Sought.At j) x y = record { is = inr y.0; least = both stop j j x y.1 (below j y.0) (omega arith) }
  joined (Sought.At i) Sought.Unknown x y = tt
  joined (Sought.At i) Sought.Nothing x y = record { is = inr x.0; least = both i stop i x.1 y (omega arith) (below i x.0) }
  joined (Sought.At i) (Sought.At j) x y = go (ltb i j) refl
    where
      go : (c : Bool) → ltb i j ≡ c → Joined doc t first stop (elim c [ true ↦ Sought.At i | false ↦ Sought.At j ])
      go true u = record { is = inr x.0; least = both i j i x.1 y.1 (omega arith) (omega (arith, ltb-true i j u)) }
      go false u = record { is = inr y.0; least = both i j j x.1 y.1 (omega (arith, ltb-false i j u)) (omega arith) }

  pub joined-two : {t' : List ℕ} (a b : Sought) {r : Sought} → t' ≡ t → Halved doc t first stop 0 a → Halved doc t' first stop 1 b → r ≡ lesser_of a b
      → Joined doc t first stop r
  joined-two a b e x y q =
      subst (λ s. Joined doc t first stop s) (sym q) (joined a b x (subst (λ u. Halved doc u first stop 1 b) e y))

-- ---- a table that is as before

module _ {t t' : List ℕ} (e : t' ≡ t) where
  pub ready-same : {doc : List ℕ} {first stop last : ℕ} → Ready doc t first stop last × Blank t first last → Ready doc t' first stop last × Blank t' first last
  ready-same p = rw e p

  pub family-same : {doc : List ℕ} {first stop n : ℕ} → Family doc t first stop × (n ≡ length (siblings t stop stop first)) × (0 < n)
      → Family doc t' first stop × (n ≡ length (siblings t' stop stop first)) × (0 < n)
  family-same p = rw e p

  pub least-same : {doc : List ℕ} (first : ℕ) {stop low : ℕ} → Least doc t' (λ z. Beside t' first stop z) stop low → Least doc t (λ z. Beside t first stop z) stop low
  least-same {doc = doc} first {stop = stop} {low = low} l = subst (λ u. Least doc u (λ z. Mem z (siblings u stop stop first)) stop low) e l
