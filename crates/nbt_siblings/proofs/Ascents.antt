-- Laws of names that rise from each record of a family to the next.
-- Assumes nothing.
use Prim.Native.Nat.{ℕ, ◌<◌}
use mathlib.Core.List.{List}
use mathlib.Core.Path.{◌≡◌, sym, subst}
use native.Mathlib.Omega.{arith}
use Rattle.nbt_siblings.specs.Names.{name_of, end_of}
use Rattle.nbt_siblings.specs.Links.{num, Fit}
use Rattle.nbt_siblings.specs.Lists.{Family}
use Rattle.nbt_siblings.proofs.Rows.{Beside}
use Rattle.nbt_siblings.proofs.Places.{family-low, place-fit, place-by, place-next, Trying, trying_start, trying-next}

-- the names before that of record i are lesser, and none of them stands twice
pub record Climbing (doc t : List ℕ) (first stop i : ℕ) : Type 0 where
  pub tried : Trying doc t first stop i
  pub below : i < stop → (w : ℕ) → Beside t first stop w → w < i → num (name_of doc t w) < num (name_of doc t i)

module _ {doc t : List ℕ} {first stop : ℕ} (fam : Family doc t first stop) where
  pub climbing-start : Climbing doc t first stop first
  climbing-start = record { tried = trying_start fam; below = λ h w m l. absurd (omega (arith, l, family-low fam w m)) }

  module _ {i : ℕ} (c : Climbing doc t first stop i) (h : i < stop) (next : ℕ) (e : next ≡ end_of t i) where
    pub climbing-fits : next < stop → Fit doc t next
    climbing-fits l = subst (λ k. Fit doc t k) (sym e) (place-fit fam (place-next fam c.tried.place h) (omega (arith, e, l)))

    pub climbing-next : (next < stop → num (name_of doc t i) < num (name_of doc t next)) → Climbing doc t first stop next
    climbing-next up = record {
      tried = trying-next fam c.tried h (λ a. omega (arith, c.below h a.w a.there a.earlier, a.twins)) next e;
      below = λ l w m k. place-by fam c.tried.place h (num (name_of doc t w) < num (name_of doc t next)) w m
          (λ b. omega (arith, c.below h w m b, up l)) (λ q. subst (λ y. num (name_of doc t y) < num (name_of doc t next)) (sym q) (up l))
          (λ d. absurd (omega (arith, d, k, e)));
    }
