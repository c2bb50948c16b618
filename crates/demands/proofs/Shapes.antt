-- Fair records that stand for the same tags differ in their places alone: by recursion on the records.
-- Assumes nothing.
use Prim.Native.Nat.{ℕ, ◌+◌, ◌*◌, ◌≤◌, ◌<◌}
use mathlib.Core.Bool.{Bool, true, false}
use mathlib.Core.Logic.{◌⊎◌, inl, inr}
use mathlib.Core.List.{List}
use mathlib.Core.Path.{◌≡◌, refl, sym, ap, subst, ◌∙◌}
use native.Mathlib.Omega.{arith}
use lib.Dec.{eqb}
use borrow.Author.Tests.{eq-eqb, ne_eqb}
use lib.ListN.{length}
use Rattle.form.specs.Form.{Form}
use Rattle.form.specs.Answer.{pick}
use Rattle.form.specs.Spans.{part}
use Rattle.form.specs.Tree.{Tag, Tags, Entries, byte_array, string, list, compound, int_array, long_array, kind_of}
use Rattle.form.specs.Table.{Head, Forest, none, node, width, width_of, holds, is_array, ints_at, value_by, tags_of, entries_of}
use Rattle.form.specs.Tables.{LeafIs, ContainerIs, NameIs, Fair, first_kind}
use Rattle.form.proofs.Spans.{part_length}
use Rattle.form.proofs.Picks.{differ}
use Rattle.form.proofs.Leaves.{LeafSort, number, string as text, array, leaf-sort, array_kind, held-kind, fits-held}
use Rattle.form.proofs.Values.{ints-count, kind_is, fair-kind}
use Rattle.demands.specs.Rescue.{SameBut}

-- as many side by side, and a first of the same kind
same_width : (f g : Forest) → SameBut f g → width f ≡ width g
unfolding SameBut width
same_width none g e = ap width (sym e)
same_width (node h inner later) g (i, inside, rest, e, k, l, z, c, t, a, b) = omega (arith, same_width later rest b, ap width e)

same_first : (f g : Forest) → SameBut f g → first_kind f ≡ first_kind g
unfolding SameBut first_kind
same_first none g e = ap first_kind (sym e)
same_first (node h inner later) g (i, inside, rest, e, k, l, z, c, t, a, b) = k ∙ ap first_kind (sym e)

-- the value of a string, of an array, of a list and of a compound
module _ (form : Form) (doc : List ℕ) (h : Head) (ts : Tags) (es : Entries) where
  as-string : h.kind ≡ 8 → value_by form doc h ts es ≡ string (part doc h.start h.size)
  unfolding value_by
  as-string e = rw e refl

  as-list : h.kind ≡ 9 → value_by form doc h ts es ≡ list ts
  unfolding value_by
  as-list e = rw e refl

  as-compound : h.kind ≡ 10 → value_by form doc h ts es ≡ compound es
  unfolding value_by
  as-compound e = rw e refl

  as_bytes : h.kind ≡ 7 → value_by form doc h ts es ≡ byte_array (ints_at form doc 1 h.count h.start)
  unfolding value_by
  as_bytes e = rw e refl

  as_ints : h.kind ≡ 11 → value_by form doc h ts es ≡ int_array (ints_at form doc 4 h.count h.start)
  unfolding value_by
  as_ints e = rw e refl

  as-longs : h.kind ≡ 12 → value_by form doc h ts es ≡ long_array (ints_at form doc 8 h.count h.start)
  unfolding value_by
  as-longs e = rw e refl

-- an array's kind is above 6, and no string's
array-range : (k : ℕ) → is_array k ≡ true → (6 < k) × (k ≡ 8 → ⊥)
array-range k e = array_kind (λ k. (6 < k) × (k ≡ 8 → ⊥)) k e (omega arith, λ z. omega arith) (omega arith, λ z. omega arith) (omega arith, λ z. omega arith)

module _ (form : Form) (doc₁ doc₂ : List ℕ) where
  abbrev tag₁ : Head → Forest → Tag
  tag₁ h inner = value_by form doc₁ h (tags_of form doc₁ inner) (entries_of form doc₁ inner)

  abbrev tag₂ : Head → Forest → Tag
  tag₂ h inner = value_by form doc₂ h (tags_of form doc₂ inner) (entries_of form doc₂ inner)

  -- ---- what holds no records

  module _ (h i : Head) (inner inside : Forest) (k : h.kind ≡ i.kind) (e : tag₁ h inner ≡ tag₂ i inside) where
    -- arrays of one value have one count
    array_count : is_array h.kind ≡ true → h.count ≡ i.count
    array_count a =
        array_kind (λ q. h.kind ≡ q → h.count ≡ i.count) h.kind a
        (λ z. let same : byte_array (ints_at form doc₁ 1 h.count h.start) ≡ byte_array (ints_at form doc₂ 1 i.count i.start) =
        sym (as_bytes form doc₁ h _ _ z) ∙ e ∙ as_bytes form doc₂ i _ _ (sym k ∙ z) in counts 1 (cc))
        (λ z. let same : int_array (ints_at form doc₁ 4 h.count h.start) ≡ int_array (ints_at form doc₂ 4 i.count i.start) =
        sym (as_ints form doc₁ h _ _ z) ∙ e ∙ as_ints form doc₂ i _ _ (sym k ∙ z) in counts 4 (cc))
        (λ z. let same : long_array (ints_at form doc₁ 8 h.count h.start) ≡ long_array (ints_at form doc₂ 8 i.count i.start) =
        sym (as-longs form doc₁ h _ _ z) ∙ e ∙ as-longs form doc₂ i _ _ (sym k ∙ z) in counts 8 (cc))
        refl
      where
        counts : (w : ℕ) → ints_at form doc₁ w h.count h.start ≡ ints_at form doc₂ w i.count i.start → h.count ≡ i.count
        counts w q = sym (ints-count form doc₁ w h.count h.start) ∙ ap length q ∙ ints-count form doc₂ w i.count i.start

    -- strings of one value have one length
    string-size : h.kind ≡ 8 → h.start + h.size ≤ length doc₁ → i.start + i.size ≤ length doc₂ → h.size ≡ i.size
    string-size z l m =
        let same : string (part doc₁ h.start h.size) ≡ string (part doc₂ i.start i.size) = sym (as-string form doc₁ h _ _ z) ∙ e ∙ as-string form doc₂ i _ _ (sym k ∙ z) in
        let q : part doc₁ h.start h.size ≡ part doc₂ i.start i.size = cc in
        sym (part_length doc₁ h.start h.size l) ∙ ap length q ∙ part_length doc₂ i.start i.size m

    leaf-same : LeafIs (length doc₁) h inner → LeafIs (length doc₂) i inside → (h.size ≡ i.size) × (h.count ≡ i.count)
    leaf-same f g = go (leaf-sort h.kind h.size h.count f.fits) (leaf-sort i.kind i.size i.count g.fits)
      where
        go : LeafSort h.kind h.size h.count → LeafSort i.kind i.size i.count → (h.size ≡ i.size) × (h.count ≡ i.count)
        go (number lo hi s c) (number lo' hi' s' c') = (s ∙ ap width_of k ∙ sym s', c ∙ sym c')
        go (number lo hi s c) (text k' c') = absurd (omega arith)
        go (number lo hi s c) (array a s') = absurd (omega (arith, (array-range i.kind a).0))
        go (text k' c) (number lo hi s c') = absurd (omega arith)
        go (text k' c) (text k'' c') = (string-size k' f.body g.body, c ∙ sym c')
        go (text k' c) (array a s') = absurd ((array-range i.kind a).1 (sym k ∙ k'))
        go (array a s) (number lo hi s' c') = absurd (omega (arith, (array-range h.kind a).0))
        go (array a s) (text k' c') = absurd ((array-range h.kind a).1 (k ∙ k'))
        go (array a s) (array a' s') = let n = array_count a in (s ∙ (λ j. n j * width_of (k j)) ∙ sym s', n)

  -- ---- records side by side

  -- they stand for the same tags: as elements of a list (l), or as entries of a compound
  abbrev pub Stand : Bool → Forest → Forest → Type 0
  Stand true f g = tags_of form doc₁ f ≡ tags_of form doc₂ g
  Stand false f g = entries_of form doc₁ f ≡ entries_of form doc₂ g

  record Parts (h i : Head) (inner inside later rest : Forest) (l : Bool) : Type 0 where
    tag : tag₁ h inner ≡ tag₂ i inside
    name : h.name_length ≡ i.name_length
    after : Stand l later rest

  parts : (l : Bool) (h i : Head) (inner inside later rest : Forest) → NameIs (length doc₁) l h → NameIs (length doc₂) l i → Stand l (node h inner later) (node i inside rest)
      → Parts h i inner inside later rest l
  unfolding tags_of
  parts true h i inner inside later rest n m e = record { tag = cc; name = (n.nameless refl).1 ∙ sym (m.nameless refl).1; after = cc }
  parts false h i inner inside later rest n m e =
      let q : part doc₁ h.name h.name_length ≡ part doc₂ i.name i.name_length = cc in
      record { tag = cc; name = sym (part_length doc₁ h.name h.name_length n.within) ∙ ap length q ∙ part_length doc₂ i.name i.name_length m.within; after = cc }

  none_or : (l : Bool) (h : Head) (inner later : Forest) → Stand l (node h inner later) none → ⊥
  unfolding tags_of
  none_or true h inner later e = let z : ◌≡◌ {A = ℕ} 0 1 = cc in omega arith
  none_or false h inner later e = let z : ◌≡◌ {A = ℕ} 0 1 = cc in omega arith

  or-none : (l : Bool) (h : Head) (inner later : Forest) → Stand l none (node h inner later) → ⊥
  unfolding tags_of
  or-none true h inner later e = let z : ◌≡◌ {A = ℕ} 0 1 = cc in omega arith
  or-none false h inner later e = let z : ◌≡◌ {A = ℕ} 0 1 = cc in omega arith

  -- one record: its size, count and list kind, and what is in it
  record SameInside (h i : Head) (inner inside : Forest) : Type 0 where
    size : h.size ≡ i.size
    count : h.count ≡ i.count
    listed : h.list_kind ≡ i.list_kind
    within : SameBut inner inside

  mixed : (d : ℕ) (h : Head) (inner : Forest) → LeafIs d h inner → holds h.kind ≡ true → ⊥
  mixed d h inner f e = differ (sym f.fits ∙ fits-held h.kind h.size h.count e)

  inside-same : (h i : Head) (inner inside : Forest) → h.kind ≡ i.kind → tag₁ h inner ≡ tag₂ i inside
      → LeafIs (length doc₁) h inner ⊎ ContainerIs h inner → LeafIs (length doc₂) i inside ⊎ ContainerIs i inside
      → (Stand true inner inside → h.kind ≡ 9 → SameBut inner inside) → (Stand false inner inside → h.kind ≡ 10 → SameBut inner inside) → SameInside h i inner inside
  unfolding SameBut
  inside-same h i inner inside k e (inl f) (inl g) tags names =
      let s = leaf-same h i inner inside k e f g in
      record { size = s.0; count = s.1; listed = f.plain ∙ sym g.plain; within = subst (λ x. SameBut x inside) (sym f.bare) g.bare }
  inside-same h i inner inside k e (inl f) (inr c) tags names = absurd (mixed (length doc₁) h inner f (ap holds k ∙ c.kind))
  inside-same h i inner inside k e (inr c) (inl g) tags names = absurd (mixed (length doc₂) i inside g (ap holds (sym k) ∙ c.kind))
  inside-same h i inner inside k e (inr c) (inr b) tags names = go (held-kind h.kind c.kind)
    where
      given : SameBut inner inside → SameInside h i inner inside
      given s = record {
        size = c.long ∙ sym b.long;
        count = c.count ∙ same_width inner inside s ∙ sym b.count;
        listed = c.listed ∙ (λ j. pick (eqb (k j) 9) (same_first inner inside s j) 0) ∙ sym b.listed;
        within = s;
      }

      go : (h.kind ≡ 9) ⊎ (h.kind ≡ 10) → SameInside h i inner inside
      go (inl z) =
          let same : list (tags_of form doc₁ inner) ≡ list (tags_of form doc₂ inside) =
          sym (as-list form doc₁ h (tags_of form doc₁ inner) (entries_of form doc₁ inner) z) ∙ e ∙ as-list form doc₂ i (tags_of form doc₂ inside) (entries_of form doc₂ inside) (sym k ∙ z) in
          given (tags (cc) z)
      go (inr z) =
          let same : compound (entries_of form doc₁ inner) ≡ compound (entries_of form doc₂ inside) =
          sym (as-compound form doc₁ h (tags_of form doc₁ inner) (entries_of form doc₁ inner) z) ∙ e ∙ as-compound form doc₂ i (tags_of form doc₂ inside) (entries_of form doc₂ inside) (sym k ∙ z) in
          given (names (cc) z)

  one-kind : (h i : Head) (inner inside : Forest) → LeafIs (length doc₁) h inner ⊎ ContainerIs h inner → LeafIs (length doc₂) i inside ⊎ ContainerIs i inside
      → tag₁ h inner ≡ tag₂ i inside → h.kind ≡ i.kind
  one-kind h i inner inside s t e =
      let a = fair-kind (length doc₁) h inner s in
      let b = fair-kind (length doc₂) i inside t in
      sym (kind_is form doc₁ h (tags_of form doc₁ inner) (entries_of form doc₁ inner) a.0 a.1) ∙ ap kind_of e
      ∙ kind_is form doc₂ i (tags_of form doc₂ inside) (entries_of form doc₂ inside) b.0 b.1

  pub same-but : (l : Bool) (f g : Forest) → Fair (length doc₁) l f → Fair (length doc₂) l g → Stand l f g → SameBut f g
  unfolding SameBut Fair
  same-but l none none a b e = refl
  same-but l none (node i inside rest) a b e = absurd (or-none l i inside rest e)
  same-but l (node h inner later) none a b e = absurd (none_or l h inner later e)
  same-but l (node h inner later) (node i inside rest) a b e =
      let p = parts l h i inner inside later rest a.0 b.0 e in
      let k = one-kind h i inner inside a.1 b.1 p.tag in
      let s = inside-same h i inner inside k p.tag a.1 b.1
      (λ t z. same-but true inner inside (subst (λ q. Fair (length doc₁) q inner) (eq-eqb h.kind 9 z) a.2) (subst (λ q. Fair (length doc₂) q inside) (eq-eqb i.kind 9 (sym k ∙ z)) b.2) t)
      (λ t z. same-but false inner inside (subst (λ q. Fair (length doc₁) q inner) (ne_eqb h.kind 9 (λ y. omega arith)) a.2)
      (subst (λ q. Fair (length doc₂) q inside) (ne_eqb i.kind 9 (λ y. omega arith)) b.2) t) in
      (i, inside, rest, refl, k, p.name, s.size, s.count, s.listed, s.within, same-but l later rest a.3 b.3 p.after)
