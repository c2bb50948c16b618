-- Laws of the classes seen: the same name has the same class, so a record whose class was not seen has no earlier twin.
-- Assumes nothing.
use Prim.Native.Nat.{ℕ, ◌<◌}
use mathlib.Core.Bool.{Bool, true, false}
use mathlib.Core.List.{List}
use mathlib.Core.Path.{◌≡◌, sym, ap, ◌∙◌}
use native.Mathlib.Omega.{arith}
use lib.ListN.{length, get_or, set, length-set}
use lib.Seq.{get_or-set_same, get_or-set_other}
use Rattle.nbt_siblings.specs.Names.{end_of}
use Rattle.nbt_siblings.specs.Lists.{Family}
use Rattle.nbt_siblings.specs.Cells.{class_of, class_at, Fresh}
use Rattle.nbt_siblings.proofs.Cases.{same_by}
use Rattle.nbt_siblings.proofs.Numbers.{names_same}
use Rattle.nbt_siblings.proofs.Rows.{Beside, Repeats}
use Rattle.nbt_siblings.proofs.Places.{family-low, Place, place-by}

-- the classes of the records before record i are marked
pub record Seen (doc t : List ℕ) (first stop : ℕ) (seen : List Bool) (i : ℕ) : Type 0 where
  pub len : length seen ≡ 128
  pub all : (w : ℕ) → Beside t first stop w → w < i → get_or seen (class_at doc t w) false ≡ true

pub seen-fresh : {doc t : List ℕ} {first stop : ℕ} {seen : List Bool} {i c : ℕ} → Seen doc t first stop seen i → c ≡ class_at doc t i → get_or seen c false ≡ false
    → Fresh doc t first stop i
unfolding Fresh
seen-fresh {seen = seen} s is e w m h q =
    let z : ◌≡◌ {A = Bool} true false = sym (s.all w m h) ∙ ap (λ k. get_or seen k false) (q ∙ sym is) ∙ e in
    let y : ◌≡◌ {A = ℕ} 0 1 = cc in omega arith

module _ {doc t : List ℕ} {first stop : ℕ} (fam : Family doc t first stop) where
  pub fresh-alone : ((j : ℕ) → get_or doc j 0 < 256) → (i : ℕ) → Fresh doc t first stop i → Repeats doc t first stop i → ⊥
  unfolding Fresh
  fresh-alone bytes i f a =
      f a.w a.there a.earlier (ap class_of (names_same bytes (fam.fit a.w a.there) (fam.fit i a.here) a.twins))

  pub seen_start : (seen : List Bool) → length seen ≡ 128 → Seen doc t first stop seen first
  seen_start seen e = record { len = e; all = λ w m h. absurd (omega (arith, h, family-low fam w m)) }

  module _ {seen : List Bool} {i : ℕ} (s : Seen doc t first stop seen i) {c : ℕ} (is : c ≡ class_at doc t i) where
    pub seen_next : Place t first stop i → i < stop → c < 128 → (k : ℕ) → k ≡ end_of t i → Seen doc t first stop (set seen c true) k
    seen_next p h b k q = record {
      len = length-set seen c true ∙ s.len;
      all = λ w m l. same_by (class_at doc t w) c
          (λ e. ap (λ j. get_or (set seen c true) j false) e ∙ get_or-set_same seen c true false (omega (arith, b, s.len)))
          (λ e. get_or-set_other seen c (class_at doc t w) true false e
          ∙ place-by fam p h (get_or seen (class_at doc t w) false ≡ true) w m (s.all w m)
          (λ f. absurd (e (ap (class_at doc t) f ∙ sym is))) (λ f. absurd (omega (arith, f, l, q))));
    }
