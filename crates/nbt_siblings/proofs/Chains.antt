-- The records of a family sorted as a list: what the last pass over the list answers is the family's answer.
-- Assumes nothing.
use Prim.Native.Nat.{ℕ, ◌<◌}
use mathlib.Core.Bool.{true}
use mathlib.Core.List.{List}
use mathlib.Core.Path.{◌≡◌, sym, ap, subst, ◌∙◌}
use mathlib.Core.Logic.{inl, inr, ⊎_elim}
use native.Mathlib.Omega.{arith}
use lib.ListN.{length}
use Rattle.nbt_siblings.specs.Names.{name_of, end_of, siblings}
use Rattle.nbt_siblings.specs.Links.{num, rank, link, Mem, walk}
use Rattle.nbt_siblings.specs.Lists.{Row, Sorts, Chained, Again, Least, Unlinked, Family}
use Rattle.nbt_siblings.proofs.Tables.{Listed, agree-name, agree-rank, agree-fit, agree-more}
use Rattle.nbt_siblings.proofs.Merges.{sorted_ext}
use Rattle.nbt_siblings.proofs.Rows.{Beside, siblings-few, siblings-walk, siblings-below}

-- an earlier twin among some is one among others, in a table with the same names
again-in : {doc t t₁ : List ℕ} {U X : ℕ → Type 0} → ((z : ℕ) → num (name_of doc t₁ z) ≡ num (name_of doc t z)) → ((z : ℕ) → X z → U z)
    → (z : ℕ) → Again doc t₁ X z → Again doc t U z
again-in same to z a = record {
  here = to z a.here;
  w = a.w;
  there = to a.w a.there;
  earlier = a.earlier;
  twins = sym (same a.w) ∙ a.twins ∙ same z;
}

module _ {doc t : List ℕ} {first stop n : ℕ} (f : Family doc t first stop × (n ≡ length (siblings t stop stop first)) × (0 < n)) where
  row_is : walk (end_of t) first n ≡ siblings t stop stop first
  row_is = ap (walk (end_of t) first) f.1 ∙ sym (siblings-walk t stop stop first)

  to : (z : ℕ) → Mem z (walk (end_of t) first n) → Beside t first stop z
  to z m = subst (λ w. Mem z w) row_is m

  pub family-row : Row doc t first n
  family-row = record {
    some = f.2;
    few = omega (arith, f.1, siblings-few t stop stop first, f.0.small);
    fit = λ z m. f.0.fit z (to z m);
    on = λ z m. f.0.on z (to z m);
  }

  module _ {t₁ : List ℕ} {head next : ℕ} (s : Sorts doc t t₁ first n true head next) where
    only : (z : ℕ) → Listed t₁ head n z → Beside t first stop z
    only z m = to z (s.lists.only z m)

    pub family-chain : Chained doc t₁ head n stop
    family-chain = record {
      some = f.2;
      sorted = sorted_ext true (rank doc t) (rank doc t₁) (walk (link t₁) head n) (λ z. sym (agree-rank s.lists.agree doc z)) s.lists.sorted;
      fit = λ z m. agree-fit s.lists.agree doc z (f.0.fit z (only z m));
      below = λ z m. siblings-below t stop stop first z (only z m);
    }

    module _ {t₂ : List ℕ} {low : ℕ} (u : Unlinked doc t₁ t₂ head n stop low) where
      pub family-table : t₂ ≡ t
      family-table = u.clean t (agree-more s.lists.agree s.lists.all) (λ z m. f.0.free z (only z m))

      same : (z : ℕ) → num (name_of doc t₁ z) ≡ num (name_of doc t z)
      same z = ap num (agree-name s.lists.agree doc z)

      pub family-least : Least doc t (λ w. Beside t first stop w) stop low
      family-least = record {
        is = ⊎_elim (λ e. inl e) (λ a. inr (again-in same only low a)) u.low_is.is;
        least = λ z a. u.low_is.least z (again-in (λ w. sym (same w)) (λ w m. s.lists.all w (subst (λ l. Mem w l) (sym row_is) m)) z a);
      }
