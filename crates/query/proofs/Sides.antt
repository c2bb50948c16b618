-- Records side by side, taken apart: the first with those in it, and those after it; and that the words say which they are.
-- Assumes nothing.
use Prim.Native.Nat.{ℕ, ◌+◌, ◌≤◌, ◌<◌}
use mathlib.Core.Path.{◌≡◌, refl, sym}
use mathlib.Core.Logic.{◌⊎◌, inl, inr}
use mathlib.Core.List.{List}
use mathlib.Core.Bool.{false}
use native.Mathlib.Omega.{arith}
use lib.Dec.{eqb}
use Rattle.form.specs.Table.{Head, Forest, none, node, size, word, holds}
use Rattle.form.specs.Tables.{Fair, LeafIs, ContainerIs}
use Rattle.form.specs.Records.{Stands, Sits}
use Rattle.form.proofs.Table.{size_none}
use Rattle.form.proofs.Tables.{sits-first, sits-inner, sits-later, fair-name, fair-first, fair-inner, fair-later, same-forest}
use Rattle.query.specs.Sides.{Side}

-- The first of some records: its words, those in it, and those after it.
pub record First (d : ℕ) (t : List ℕ) (i end : ℕ) (f : Forest) : Type 0 where
  pub head : Head
  pub inner : Side d t (i + 1) (word t i 7)
  pub later : Side d t (word t i 7) end
  pub is : f ≡ node head inner.forest later.forest
  pub stands : Stands t i head (i + 1 + size inner.forest)
  pub within : head.name + head.name_length ≤ d
  pub bare : holds (word t i 0) ≡ false → inner.forest ≡ none
  pub on : i < word t i 7
  pub to : word t i 7 ≤ end

module _ (d : ℕ) (t : List ℕ) (i end : ℕ) where
  -- Only a container holds records.
  bare-is : (h : Head) (inner : Forest) → LeafIs d h inner ⊎ ContainerIs h inner → holds h.kind ≡ false → inner ≡ none
  bare-is h inner (inl l) e = l.bare
  bare-is h inner (inr k) e = let x = k.kind in absurd (let z : ◌≡◌ {A = ℕ} 0 1 = cc in omega arith)

  -- A record whose number is below the end is the first of them.
  pub first : (s : Side d t i end) → i < end → First d t i end s.forest
  first s lt = go s.forest s.sits s.fair s.ends
    where
      go : (f : Forest) → Sits t i f → Fair d s.element f → i + size f ≡ end → First d t i end f
      go none a b e = absurd (omega (arith, size_none))
      go (node h inner later) a b e =
          let st = sits-first t i h inner later a in
          let ends : word t i 7 ≡ i + 1 + size inner = st.end in
          let all : size (node h inner later) ≡ 1 + size inner + size later = unfold size in refl in
          record {
            head = h;
            inner = record { forest = inner; element = eqb h.kind 9; sits = sits-inner t i h inner later a; fair = fair-inner d s.element h inner later b; ends = sym ends };
            later = record { forest = later; element = s.element; sits = rw ends (sits-later t i h inner later a); fair = fair-later d s.element h inner later b; ends = omega arith };
            is = refl;
            stands = st;
            within = (fair-name d s.element h inner later b).within;
            bare = λ x. bare-is h inner (fair-first d s.element h inner later b) (rw st.kind at x);
            on = omega arith;
            to = omega arith;
          }

  -- No record is left.
  pub side-none : (s : Side d t i end) → end ≤ i → s.forest ≡ none
  unfolding size
  side-none s le = go s.forest s.ends
    where
      go : (f : Forest) → i + size f ≡ end → f ≡ none
      go none e = refl
      go (node h inner later) e = absurd (omega arith)

  -- The words say which records they are.
  pub one_side : (d' : ℕ) (s : Side d t i end) (s' : Side d' t i end) → s.forest ≡ s'.forest
  one_side d' s s' =
      let a = s.ends in
      let b = s'.ends in
      same-forest t i s.forest s'.forest s.sits s'.sits (omega arith)
