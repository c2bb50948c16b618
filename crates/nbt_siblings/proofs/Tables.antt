-- Laws of tables whose records are linked.
-- Assumes nothing.
use Prim.Native.Nat.{ℕ, ◌+◌, ◌*◌, ◌≤◌}
use mathlib.Core.Bool.{Bool, true, false, ◌||◌}
use mathlib.Core.List.{List}
use mathlib.Core.Path.{◌≡◌, refl, sym, ap, subst, ◌∙◌}
use mathlib.Core.Logic.{◌⊎◌, ⊎_elim}
use native.Mathlib.Omega.{arith}
use borrow.Author.Tests.{eq-eqb, ne_eqb}
use lib.ListN.{length, get_or, length-set}
use lib.Seq.{get_or-set_same, get_or-set_other, ext_get_or}
use lib.Dec.{eqb}
use Rattle.nbt_siblings.specs.Names.{name_of, end_of}
use Rattle.nbt_siblings.specs.Links.{rank, slot_of, link, linked, Mem, walk, Agree, Fit}
use Rattle.nbt_siblings.proofs.Cases.{same_by}
use Rattle.nbt_siblings.proofs.Walks.{walk-ext}

-- a record is on the list of n that begins with `head`
abbrev pub Listed : List ℕ → ℕ → ℕ → ℕ → Type 0
Listed t head n z = Mem z (walk (link t) head n)

pub slot-range : (t : List ℕ) (i : ℕ) → (9 * i + 3 ≤ slot_of t i) × (slot_of t i ≤ 9 * i + 6)
unfolding slot_of
slot-range t i = go (eqb (get_or t (9 * i) 0) 9 || eqb (get_or t (9 * i) 0) 10)
  where
    go : (b : Bool) → (9 * i + 3 ≤ elim b [ true ↦ 9 * i + 3 | false ↦ 9 * i + 6 ]) × (elim b [ true ↦ 9 * i + 3 | false ↦ 9 * i + 6 ] ≤ 9 * i + 6)
    go true = (omega arith, omega arith)
    go false = (omega arith, omega arith)

pub slot_held : (t : List ℕ) (i : ℕ) → get_or t (9 * i) 0 ≡ 9 → 9 * i + 3 ≡ slot_of t i
unfolding slot_of
slot_held t i h = rw (slot_of, eq-eqb (get_or t (9 * i) 0) 9 h) refl

pub slot-held2 : (t : List ℕ) (i : ℕ) → (get_or t (9 * i) 0 ≡ 9 → ⊥) → get_or t (9 * i) 0 ≡ 10 → 9 * i + 3 ≡ slot_of t i
unfolding slot_of
slot-held2 t i n h = rw (slot_of, ne_eqb (get_or t (9 * i) 0) 9 n, eq-eqb (get_or t (9 * i) 0) 10 h) refl

pub slot-plain : (t : List ℕ) (i : ℕ) → (get_or t (9 * i) 0 ≡ 9 → ⊥) → (get_or t (9 * i) 0 ≡ 10 → ⊥) → 9 * i + 6 ≡ slot_of t i
unfolding slot_of
slot-plain t i n h = rw (slot_of, ne_eqb (get_or t (9 * i) 0) 9 n, ne_eqb (get_or t (9 * i) 0) 10 h) refl

-- a record's kind, as the code reads it
pub kind_is : (t : List ℕ) (i r : ℕ) → r ≡ get_or t (9 * i + 0) 0 → get_or t (9 * i) 0 ≡ r
kind_is t i r e = ap (λ k. get_or t k 0) (let q : 9 * i ≡ 9 * i + 0 = omega arith in q) ∙ sym e

-- ---- tables that agree but for links

module _ {t₀ t : List ℕ} {U : ℕ → Type 0} (g : Agree t₀ t U) where
  low : (j k : ℕ) → k ≤ 2 → get_or t (9 * j + k) 0 ≡ get_or t₀ (9 * j + k) 0
  low j k h = g.at (9 * j + k) (λ i u e. omega (arith, slot-range t₀ i))

  pub agree-end : (j : ℕ) → end_of t j ≡ end_of t₀ j
  agree-end j = g.at (9 * j + 7) (λ i u e. omega (arith, slot-range t₀ i))

  kind : (j : ℕ) → get_or t (9 * j) 0 ≡ get_or t₀ (9 * j) 0
  kind j = g.at (9 * j) (λ i u e. omega (arith, slot-range t₀ i))

  agree-slot : (j : ℕ) → slot_of t j ≡ slot_of t₀ j
  unfolding slot_of
  agree-slot j = ap {B = ℕ} (λ k. elim (eqb k 9 || eqb k 10) [ true ↦ 9 * j + 3 | false ↦ 9 * j + 6 ]) (kind j)

  pub agree-name : (doc : List ℕ) (j : ℕ) → name_of doc t j ≡ name_of doc t₀ j
  unfolding name_of
  agree-name doc j = rw (low j 1 (omega arith), low j 2 (omega arith)) refl

  pub agree-rank : (doc : List ℕ) (j : ℕ) → rank doc t j ≡ rank doc t₀ j
  unfolding rank
  agree-rank doc j = rw (agree-name doc j) refl

  pub agree-fit : (doc : List ℕ) (j : ℕ) → Fit doc t₀ j → Fit doc t j
  agree-fit doc j f = record {
    room = omega (arith, f.room, g.len);
    within = omega (arith, f.within, low j 1 (omega arith), low j 2 (omega arith));
    small = f.small;
  }

  pub agree-link : (j : ℕ) → (U j → ⊥) → link t j ≡ link t₀ j
  unfolding link
  agree-link j n =
      rw (agree-slot j)
      (g.at (slot_of t₀ j) (λ i u e. n (subst U (let s : i ≡ j = omega (arith, slot-range t₀ i, slot-range t₀ j) in s) u)))

pub agree-self : (t : List ℕ) (U : ℕ → Type 0) → Agree t t U
agree-self t U = record { len = refl; at = λ p h. refl }

pub agree_trans : {t₀ t t' : List ℕ} {U X Y : ℕ → Type 0} → Agree t₀ t U → Agree t t' X → ((z : ℕ) → U z → Y z) → ((z : ℕ) → X z → Y z) → Agree t₀ t' Y
agree_trans g h u v = record {
  len = h.len ∙ g.len;
  at = λ p n. h.at p (λ i w e. n i (v i w) (e ∙ agree-slot g i)) ∙ g.at p (λ i w e. n i (u i w) e);
}

pub agree-more : {t₀ t : List ℕ} {U X : ℕ → Type 0} → Agree t₀ t U → ((z : ℕ) → U z → X z) → Agree t₀ t X
agree-more g u = record { len = g.len; at = λ p n. g.at p (λ i w e. n i (u i w) e) }

-- links that are as they were: the tables are the same
pub agree_same : {t₀ t : List ℕ} {U : ℕ → Type 0} → Agree t₀ t U → ((z : ℕ) → U z → link t z ≡ link t₀ z) → t ≡ t₀
unfolding link
agree_same {t₀ = t₀} {t = t} g h =
    ext_get_or 0 t t₀ g.len
    (λ p l. same_by (get_or t p 0) (get_or t₀ p 0) (λ e. e)
    (λ n. g.at p (λ i u e. n (ap (λ q. get_or t q 0) (e ∙ sym (agree-slot g i)) ∙ h i u ∙ ap (λ q. get_or t₀ q 0) (sym e)))))

-- ---- one link

module _ (t : List ℕ) (i v : ℕ) where
  pub linked-agree : Agree t (linked t i v) (λ z. z ≡ i)
  unfolding linked
  linked-agree = record {
    len = length-set t (slot_of t i) v;
    at = λ p n. get_or-set_other t (slot_of t i) p v 0 (λ e. n i refl e);
  }

  pub linked-other : (j : ℕ) → (j ≡ i → ⊥) → link (linked t i v) j ≡ link t j
  linked-other j n = agree-link linked-agree j n

  slot-set : 9 * i + 9 ≤ length t → get_or (linked t i v) (slot_of t i) 0 ≡ v
  unfolding linked
  slot-set h = get_or-set_same t (slot_of t i) v 0 (omega (arith, slot-range t i))

  pub linked-same : 9 * i + 9 ≤ length t → link (linked t i v) i ≡ v
  unfolding link
  linked-same h = rw (agree-slot linked-agree i) (slot-set h)

  -- a walk that does not meet the record
  pub linked-walk : (a n : ℕ) → (Listed t a n i → ⊥) → walk (link (linked t i v)) a n ≡ walk (link t) a n
  linked-walk a n h =
      sym (walk-ext (link t) (link (linked t i v)) n a (λ z m. sym (linked-other z (λ e. h (subst (λ w. Listed t a n w) e m)))))

-- a link set back to what it was
pub agree-back : {t₀ t : List ℕ} {U X : ℕ → Type 0} (i v : ℕ) → Agree t₀ t U → ((z : ℕ) → U z → (z ≡ i) ⊎ X z) → link t₀ i ≡ v → 9 * i + 9 ≤ length t₀
    → Agree t₀ (linked t i v) X
unfolding linked link
agree-back {t₀ = t₀} {t = t} i v g s e h = record {
  len = length-set t (slot_of t i) v ∙ g.len;
  at = λ p n. same_by p (slot_of t i)
      (λ q. rw q (get_or-set_same t (slot_of t i) v 0 (omega (arith, slot-range t i, g.len)) ∙ sym e ∙ ap (λ k. get_or t₀ k 0) (sym (agree-slot g i))))
      (λ f. get_or-set_other t (slot_of t i) p v 0 f
      ∙ g.at p (λ j u q. ⊎_elim (λ r. f (q ∙ sym (agree-slot g j) ∙ ap (slot_of t) r)) (λ w. n j w q) (s j u)));
}
