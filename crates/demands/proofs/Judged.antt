-- Fair records are judged fine exactly where the tags that they stand for keep the rules: by recursion on the records, both ways.
-- Assumes nothing.
use Prim.Native.Nat.{ℕ, ◌+◌, ◌-◌, ◌*◌, ◌≤◌, ◌<◌, max}
use mathlib.Core.Bool.{Bool, true, false, not, ◌||◌}
use mathlib.Core.Logic.{◌⊎◌, inl, inr}
use mathlib.Core.List.{List, []}
use mathlib.Core.Path.{◌≡◌, refl, sym, ap, subst, ◌∙◌}
use native.Mathlib.Omega.{arith}
use lib.Dec.{ltb, leb, eqb}
use borrow.Author.Tests.{ltb-true, lt-ltb, leb-true, le-leb, eqb-true, eqb-false, eq-eqb, ne_eqb, not-true}
use lib.ListN.{length}
use Rattle.form.specs.Form.{Way, stays}
use Rattle.form.specs.Answer.{Out, got, no, guard, ◌>>◌, document_limit, record_limit, depth_limit, string_limit, long_string}
use Rattle.form.specs.Spans.{part}
use Rattle.form.specs.Decoding.{verdict_by, walk, well_formed_in}
use Rattle.form.specs.Turned.{recoded, Carried}
use Rattle.form.specs.Tree.{Tag, Tags, Entries, list, compound, kind_of, tag_count, tags_count, entries_count, depth, tags_depth}
use Rattle.form.specs.Tree.{entries_depth, TextIn, has_entry, OneKind, Alike, ValidBy, ValidTagsBy, ValidEntriesBy, LawfulBy}
use Rattle.form.specs.Table.{Head, Forest, none, node, size, ◌⊕◌, width_of, holds, value_by, tags_of, entries_of, value_of}
use Rattle.form.specs.Tables.{Fair, LeafIs, ContainerIs, NameIs, first_kind, leaf_fits}
use Rattle.form.specs.Reading.{has_name}
use Rattle.form.specs.Writing.{string_fine, payload_fine, judged}
use Rattle.form.proofs.Orders.{value-bytes}
use Rattle.form.proofs.Answer.{got-no, guard-got}
use Rattle.form.proofs.Answers.{Answers, Any, then-answers, got-answers, no-answers}
use Rattle.form.proofs.Spans.{part_length}
use Rattle.form.proofs.Picks.{differ}
use Rattle.form.proofs.Table.{width-le-size}
use Rattle.form.proofs.EachKind.{by_kind}
use Rattle.form.proofs.Leaves.{LeafSort, number, string, array, leaf-sort, array_kind, held-kind, fits-held}
use Rattle.form.proofs.Strings.{well_formed-iff}
use Rattle.form.proofs.Turned.{recoded-bound}
use Rattle.form.proofs.Values.{int-fits, ints-fit, ints-count, kind_is, fair-kind, many_is}
use Rattle.form.proofs.Writing.{string-good, payload-string, payload-other}
use Rattle.demands.specs.Reading.{Bytes}
use Rattle.demands.proofs.Sound.{alike}
use Rattle.demands.proofs.Names.{Apart, apart_none, apart-new, apart_more, apart-back}

-- ---- chains of tests

-- A chain that is accepted: its first step is, and so is the rest.
pub then-got : {A : Type 0} (u : Out (Unit {0})) (r : Out A) {a : A} → (u >> r) ≡ got a → (u ≡ got tt) × (r ≡ got a)
then-got (got tt) r e = (refl, e)
then-got (no n p) r e = absurd (got-no (sym e))

guard-true : (t : Bool) (n p : ℕ) → guard t n p ≡ got tt → t ≡ true
guard-true true n p e = refl
guard-true false n p e = absurd (got-no (sym e))

module _ (way : Way) (doc : List ℕ) where
  -- ---- strings

  string-text : (start len n : ℕ) → start + len ≤ length doc → string_fine way doc start len n ≡ got tt → Carried way (part doc start len)
  unfolding string_fine
  string-text start len n w e =
      let a = guard-got (leb len string_limit) _ _ _ e in
      let b = guard-got (well_formed_in way.from.strings (part doc start len)) _ _ _ a.1 in
      let good = (well_formed-iff way.from.strings (part doc start len)).0 b.0 in
      let grown = leb-true (length (recoded way (part doc start len))) string_limit (guard-true _ _ _ b.1) in
      ((good, omega (arith, leb-true len string_limit a.0, part_length doc start len w)), grown)

  text-string : (start len n : ℕ) → start + len ≤ length doc → Carried way (part doc start len) → string_fine way doc start len n ≡ got tt
  text-string start len n w t =
      string-good way doc start len n (omega (arith, t.0.1, part_length doc start len w)) ((well_formed-iff way.from.strings (part doc start len)).1 t.0.0) t.1

  -- ---- leaves

  module _ (h : Head) (ts : Tags) (es : Entries) where
    abbrev pub value : Tag
    value = value_by way.from doc h ts es

    -- what holds no records has no depth, and is one tag
    leaf-flat : 0 < h.kind → h.kind ≤ 12 → holds h.kind ≡ false → (depth value ≡ 0) × (tag_count value ≡ 1)
    unfolding value_by depth tag_count
    leaf-flat lo hi n =
        by_kind (λ k. h.kind ≡ k → holds k ≡ false → (depth value ≡ 0) × (tag_count value ≡ 1))
        (λ e z. rw e (refl, refl)) (λ e z. rw e (refl, refl)) (λ e z. rw e (refl, refl)) (λ e z. rw e (refl, refl)) (λ e z. rw e (refl, refl)) (λ e z. rw e (refl, refl))
        (λ e z. rw e (refl, refl)) (λ e z. rw e (refl, refl)) (λ e z. differ z) (λ e z. differ z) (λ e z. rw e (refl, refl)) (λ e z. rw e (refl, refl))
        h.kind lo hi refl n

    -- and is valid, where a string is well formed
    leaf-valid : Bytes doc → length doc ≤ document_limit → h.start + h.size ≤ length doc → leaf_fits h.kind h.size h.count ≡ true
        → (h.kind ≡ 8 → Carried way (part doc h.start h.size)) → ValidBy (Carried way) value
    unfolding value_by ValidBy width_of
    leaf-valid bytes few w f t = go (leaf-sort h.kind h.size h.count f)
      where
        go : LeafSort h.kind h.size h.count → ValidBy (Carried way) value
        go (number lo hi s c) =
            by_kind (λ k. h.kind ≡ k → h.size ≡ width_of k → ValidBy (Carried way) value)
            (λ e s. rw e (int-fits way.from doc bytes 1 h.start (omega arith) (omega arith))) (λ e s. rw e (int-fits way.from doc bytes 2 h.start (omega arith) (omega arith)))
            (λ e s. rw e (int-fits way.from doc bytes 4 h.start (omega arith) (omega arith))) (λ e s. rw e (int-fits way.from doc bytes 8 h.start (omega arith) (omega arith)))
            (λ e s. rw e (value-bytes way.from.order doc bytes h.start 4 (omega arith)).1) (λ e s. rw e (value-bytes way.from.order doc bytes h.start 8 (omega arith)).1)
            (λ e s. absurd (omega arith)) (λ e s. absurd (omega arith)) (λ e s. absurd (omega arith)) (λ e s. absurd (omega arith)) (λ e s. absurd (omega arith)) (λ e s. absurd (omega arith))
            h.kind lo (omega arith) refl s
        go (string k c) = rw k (t k)
        go (array a s) =
            array_kind (λ k. h.kind ≡ k → h.size ≡ h.count * width_of k → ValidBy (Carried way) value) h.kind a
            (λ e s. rw e (ints-fit way.from doc bytes 1 h.count h.start (omega arith) (omega (arith, s, w)), omega (arith, ints-count way.from doc 1 h.count h.start, s, w, few)))
            (λ e s. rw e (ints-fit way.from doc bytes 4 h.count h.start (omega arith) (omega (arith, s, w)), omega (arith, ints-count way.from doc 4 h.count h.start, s, w, few)))
            (λ e s. rw e (ints-fit way.from doc bytes 8 h.count h.start (omega arith) (omega (arith, s, w)), omega (arith, ints-count way.from doc 8 h.count h.start, s, w, few)))
            refl s

    -- a valid string is well formed
    valid-text : ValidBy (Carried way) value → h.kind ≡ 8 → Carried way (part doc h.start h.size)
    unfolding value_by ValidBy
    valid-text v e = rw e at v

    -- what a list and a compound stand for
    value-list : h.kind ≡ 9 → value ≡ list ts
    unfolding value_by
    value-list e = rw e refl

    pub value-compound : h.kind ≡ 10 → value ≡ compound es
    unfolding value_by
    value-compound e = rw e refl

  -- ---- what is said of records side by side

  -- The tags that they stand for keep the rules: as elements of a list of kind k, or as entries after earlier ones.
  abbrev pub Kept : ℕ → Bool → ℕ → Forest → Forest → Type 0
  Kept left true k earlier f = ValidTagsBy (Carried way) (tags_of way.from doc f) × OneKind k (tags_of way.from doc f) × (tags_depth (tags_of way.from doc f) ≤ left)
  Kept left false k earlier f = ValidEntriesBy (Carried way) (entries_of way.from doc f) × Apart doc earlier (entries_of way.from doc f) × (entries_depth (entries_of way.from doc f) ≤ left)

  kept-none : (left : ℕ) (l : Bool) (k : ℕ) (earlier : Forest) → Kept left l k earlier none
  unfolding ValidBy OneKind depth tags_of has_entry
  kept-none left true k earlier = (tt, tt, omega arith)
  kept-none left false k earlier = (tt, λ x e. refl, omega arith)

  -- What is said of a record and of those in it.
  record Inside (left : ℕ) (h : Head) (inner : Forest) : Type 0 where
    deep : holds h.kind ≡ true → 0 < left
    text : h.kind ≡ 8 → Carried way (part doc h.start h.size)
    held : Kept (left - 1) (eqb h.kind 9) h.list_kind none inner

  module _ (left : ℕ) (h : Head) (inner : Forest) where
    abbrev tag : Tag
    tag = value_by way.from doc h (tags_of way.from doc inner) (entries_of way.from doc inner)

    held-valid : size inner ≤ record_limit → ContainerIs h inner → Inside left h inner → ValidBy (Carried way) tag × (depth tag ≤ left)
    unfolding ValidBy depth
    held-valid s c i = go (held-kind h.kind c.kind)
      where
        go : (h.kind ≡ 9) ⊎ (h.kind ≡ 10) → ValidBy (Carried way) tag × (depth tag ≤ left)
        go (inl e) =
            let k : Kept (left - 1) true h.list_kind none inner = rw (eq-eqb h.kind 9 e) at i.held in
            let d = i.deep c.kind in
            rw (value-list h (tags_of way.from doc inner) (entries_of way.from doc inner) e)
            ((alike h.list_kind (tags_of way.from doc inner) k.1, omega (arith, many_is way.from doc inner, width-le-size inner), k.0), omega (arith, k.2, d))
        go (inr e) =
            let k : Kept (left - 1) false h.list_kind none inner = rw (ne_eqb h.kind 9 (λ q. omega arith)) at i.held in
            let d = i.deep c.kind in
            rw (value-compound h (tags_of way.from doc inner) (entries_of way.from doc inner) e) (k.0, omega (arith, k.2, d))

    inside-valid : Bytes doc → length doc ≤ document_limit → size inner ≤ record_limit → LeafIs (length doc) h inner ⊎ ContainerIs h inner → Inside left h inner
        → ValidBy (Carried way) tag × (depth tag ≤ left)
    inside-valid bytes few s (inl f) i = (
      leaf-valid h (tags_of way.from doc inner) (entries_of way.from doc inner) bytes few f.body f.fits i.text,
      omega (
        arith,
        (leaf-flat h (tags_of way.from doc inner) (entries_of way.from doc inner) (fair-kind (length doc) h inner (inl f)).0
            (fair-kind (length doc) h inner (inl f)).1 (plain (holds h.kind) refl)).0,
      ),
    )
      where
        plain : (b : Bool) → holds h.kind ≡ b → b ≡ false
        plain false e = refl
        plain true e = differ (sym f.fits ∙ fits-held h.kind h.size h.count e)
    inside-valid bytes few s (inr c) i = held-valid s c i

    -- and back
    kinds-one : (l : Bool) (f : Forest) → Fair (length doc) l f → Alike (tags_of way.from doc f) → OneKind (first_kind f) (tags_of way.from doc f)
    unfolding OneKind tags_of first_kind Fair
    kinds-one l none w a = tt
    kinds-one l (node g i later) w a =
        let r = fair-kind (length doc) g i w.1 in
        let k = kind_is way.from doc g (tags_of way.from doc i) (entries_of way.from doc i) r.0 r.1 in
        (k, rw k at a)

    valid-held : Fair (length doc) (eqb h.kind 9) inner → ContainerIs h inner → ValidBy (Carried way) tag → depth tag ≤ left → Inside left h inner
    unfolding ValidBy depth
    valid-held w c v d = go (held-kind h.kind c.kind)
      where
        go : (h.kind ≡ 9) ⊎ (h.kind ≡ 10) → Inside left h inner
        go (inl e) =
            let q = value-list h (tags_of way.from doc inner) (entries_of way.from doc inner) e in
            let u : ValidBy (Carried way) (list (tags_of way.from doc inner)) = rw q at v in
            let m : depth (list (tags_of way.from doc inner)) ≤ left = rw q at d in
            let k : h.list_kind ≡ first_kind inner = c.listed ∙ rw e refl in
            record {
              deep = λ z. omega arith;
              text = λ z. absurd (omega arith);
              held = rw (eq-eqb h.kind 9 e, k) (u.2, kinds-one (eqb h.kind 9) inner w u.0, omega arith);
            }
        go (inr e) =
            let q = value-compound h (tags_of way.from doc inner) (entries_of way.from doc inner) e in
            let u : ValidBy (Carried way) (compound (entries_of way.from doc inner)) = rw q at v in
            let m : depth (compound (entries_of way.from doc inner)) ≤ left = rw q at d in
            record {
              deep = λ z. omega arith;
              text = λ z. absurd (omega arith);
              held = rw (ne_eqb h.kind 9 (λ z. omega arith)) (u, apart_none doc (entries_of way.from doc inner), omega arith);
            }

    valid-inside : Fair (length doc) (eqb h.kind 9) inner → LeafIs (length doc) h inner ⊎ ContainerIs h inner → ValidBy (Carried way) tag → depth tag ≤ left → Inside left h inner
    valid-inside w (inl f) v d = record {
      deep = λ e. differ (sym f.fits ∙ fits-held h.kind h.size h.count e);
      text = valid-text h (tags_of way.from doc inner) (entries_of way.from doc inner) v;
      held = rw f.bare (kept-none (left - 1) (eqb h.kind 9) h.list_kind none);
    }
    valid-inside w (inr c) v d = valid-held w c v d

  -- ---- the tests of one record

  deep-test : (k left : ℕ) → (not (holds k) || ltb 0 left) ≡ true → holds k ≡ true → 0 < left
  deep-test k left e h = ltb-true 0 left (sym (ap (λ b. not b || ltb 0 left) h) ∙ e)

  test-deep : (k left : ℕ) → (holds k ≡ true → 0 < left) → (not (holds k) || ltb 0 left) ≡ true
  test-deep k left f = go (holds k) refl
    where
      go : (b : Bool) → holds k ≡ b → (not b || ltb 0 left) ≡ true
      go true e = lt-ltb 0 left (f e)
      go false e = refl

  payload-text : (h : Head) (n : ℕ) → h.start + h.size ≤ length doc → payload_fine way doc h n ≡ got tt → h.kind ≡ 8 → Carried way (part doc h.start h.size)
  payload-text h n w e k = string-text h.start h.size n w (sym (payload-string way doc h n k) ∙ e)

  text-payload : (h : Head) (n : ℕ) → h.start + h.size ≤ length doc → (h.kind ≡ 8 → Carried way (part doc h.start h.size)) → payload_fine way doc h n ≡ got tt
  text-payload h n w t = go (eqb h.kind 8) refl
    where
      go : (b : Bool) → eqb h.kind 8 ≡ b → payload_fine way doc h n ≡ got tt
      go true e = let k = eqb-true h.kind 8 e in payload-string way doc h n k ∙ text-string h.start h.size n w (t k)
      go false e = payload-other way doc h n (eqb-false h.kind 8 e)

  body-in : (h : Head) (inner : Forest) → LeafIs (length doc) h inner ⊎ ContainerIs h inner → h.start + h.size ≤ length doc
  body-in h inner (inl f) = f.body
  body-in h inner (inr c) = omega (arith, c.start, c.long)

  -- ---- records side by side

  module _ (left : ℕ) (k : ℕ) (earlier : Forest) (h : Head) (inner later : Forest) where
    abbrev name : List ℕ
    name = part doc h.name h.name_length

    abbrev this : Tag
    this = value_by way.from doc h (tags_of way.from doc inner) (entries_of way.from doc inner)

    -- one record more
    kept-node : (l : Bool) → kind_of this ≡ h.kind → Carried way name → (l || not (has_name doc name earlier)) ≡ true → (not l || eqb h.kind k) ≡ true
        → ValidBy (Carried way) this × (depth this ≤ left)
        → Kept left l k (earlier ⊕ node h inner none) later → Kept left l k earlier (node h inner later)
    unfolding ValidBy OneKind depth tags_of
    kept-node true q t a b v r = ((v.0, r.0), (q ∙ eqb-true h.kind k b, r.1), omega (arith, v.1, r.2))
    kept-node false q t a b v r =
        let z = apart-back doc earlier h inner name refl this (entries_of way.from doc later) (not-true _ a) r.1 in
        ((t, z.1, v.0, r.0), z.0, omega (arith, v.1, r.2))

    -- and back
    pub record Nodes (l : Bool) : Type 0 where
      pub text : l ≡ false → Carried way name
      pub new : (l || not (has_name doc name earlier)) ≡ true
      pub kind : (not l || eqb h.kind k) ≡ true
      pub valid : ValidBy (Carried way) this
      pub deep : depth this ≤ left
      pub rest : Kept left l k (earlier ⊕ node h inner none) later

    node_kept : (l : Bool) → kind_of this ≡ h.kind → Kept left l k earlier (node h inner later) → Nodes l
    unfolding ValidBy OneKind depth tags_of
    node_kept true q r = record {
      text = λ e. differ e;
      new = refl;
      kind = eq-eqb h.kind k (sym q ∙ r.1.0);
      valid = r.0.0;
      deep = omega (arith, r.2);
      rest = (r.0.1, r.1.1, omega (arith, r.2));
    }
    node_kept false q r = record {
      text = λ e. r.0.0;
      new = ap not (apart-new doc earlier name this (entries_of way.from doc later) r.1);
      kind = refl;
      valid = r.0.2;
      deep = omega (arith, r.2);
      rest = (r.0.3, apart_more doc earlier h inner name refl this (entries_of way.from doc later) r.0.1 r.1, omega (arith, r.2));
    }

  -- Records that are judged fine keep the rules.
  pub fine-kept : Bytes doc → length doc ≤ document_limit → (left : ℕ) (l : Bool) (k : ℕ) (earlier : Forest) (n : ℕ) (f : Forest) → Fair (length doc) l f → size f ≤ record_limit
      → judged way doc left l k earlier n f ≡ got tt → Kept left l k earlier f
  unfolding judged Fair size
  fine-kept bytes few left l k earlier n none w s e = kept-none left l k earlier
  fine-kept bytes few left l k earlier n (node h inner later) w s e =
      let a = then-got (string_fine way doc h.name h.name_length n) _ e in
      let b = guard-got (l || not (has_name doc (part doc h.name h.name_length) earlier)) _ _ _ a.1 in
      let c = guard-got (not (holds h.kind) || ltb 0 left) _ _ _ b.1 in
      let d = guard-got (not l || eqb h.kind k) _ _ _ c.1 in
      let p = then-got (payload_fine way doc h n) _ d.1 in
      let i = then-got (judged way doc (left - 1) (eqb h.kind 9) h.list_kind none (n + 1) inner) _ p.1 in
      let g = fair-kind (length doc) h inner w.1 in
      let inside : Inside left h inner = record {
        deep = deep-test h.kind left c.0;
        text = payload-text h n (body-in h inner w.1) p.0;
        held = fine-kept bytes few (left - 1) (eqb h.kind 9) h.list_kind none (n + 1) inner w.2 (omega arith) i.0;
      } in
      kept-node left k earlier h inner later l (kind_is way.from doc h (tags_of way.from doc inner) (entries_of way.from doc inner) g.0 g.1)
      (string-text h.name h.name_length n w.0.within a.0) b.0 d.0
      (inside-valid left h inner bytes few (omega arith) w.1 inside)
      (fine-kept bytes few left l k (earlier ⊕ node h inner none) (n + 1 + size inner) later w.3 (omega arith) i.1)

  -- An element of a list has no name, which is well formed.
  nameless : (l : Bool) (h : Head) (n : ℕ) → NameIs (length doc) l h → (l ≡ false → Carried way (part doc h.name h.name_length)) → string_fine way doc h.name h.name_length n ≡ got tt
  unfolding verdict_by walk
  nameless true h n w t = let z = w.nameless refl in rw z.1 (string-good way doc h.name 0 n (omega arith) refl (omega (arith, recoded-bound way [])))
  nameless false h n w t = text-string h.name h.name_length n w.within (t refl)

  -- Records that keep the rules are judged fine.
  pub kept_fine : (left : ℕ) (l : Bool) (k : ℕ) (earlier : Forest) (n : ℕ) (f : Forest) → Fair (length doc) l f
      → Kept left l k earlier f → judged way doc left l k earlier n f ≡ got tt
  unfolding judged Fair size
  kept_fine left l k earlier n none w r = refl
  kept_fine left l k earlier n (node h inner later) w r =
      let g = fair-kind (length doc) h inner w.1 in
      let x = node_kept left k earlier h inner later l (kind_is way.from doc h (tags_of way.from doc inner) (entries_of way.from doc inner) g.0 g.1) r in
      let i = valid-inside left h inner w.2 w.1 x.valid x.deep in
      rw (
        nameless l h n w.0 x.text,
        x.new,
        test-deep h.kind left i.deep,
        x.kind,
        text-payload h n (body-in h inner w.1) i.text,
        kept_fine (left - 1) (eqb h.kind 9) h.list_kind none (n + 1) inner w.2 i.held,
        kept_fine left l k (earlier ⊕ node h inner none) (n + 1 + size inner) later w.3 x.rest,
      )
      refl

  -- ---- how many tags

  pub record Counted (f : Forest) : Type 0 where
    pub tags : tags_count (tags_of way.from doc f) ≡ size f
    pub entries : entries_count (entries_of way.from doc f) ≡ size f

  counted-one : (h : Head) (inner : Forest) → LeafIs (length doc) h inner ⊎ ContainerIs h inner → Counted inner
      → tag_count (value_by way.from doc h (tags_of way.from doc inner) (entries_of way.from doc inner)) ≡ 1 + size inner
  unfolding tag_count size
  counted-one h inner (inl f) c =
      let g = fair-kind (length doc) h inner (inl f) in
      omega (arith, (leaf-flat h (tags_of way.from doc inner) (entries_of way.from doc inner) g.0 g.1 (plain (holds h.kind) refl)).1, ap size f.bare)
    where
      plain : (b : Bool) → holds h.kind ≡ b → b ≡ false
      plain false e = refl
      plain true e = differ (sym f.fits ∙ fits-held h.kind h.size h.count e)
  counted-one h inner (inr c) r = go (held-kind h.kind c.kind)
    where
      go : (h.kind ≡ 9) ⊎ (h.kind ≡ 10) → tag_count (value_by way.from doc h (tags_of way.from doc inner) (entries_of way.from doc inner)) ≡ 1 + size inner
      go (inl e) = rw (value-list h (tags_of way.from doc inner) (entries_of way.from doc inner) e) (omega (arith, r.tags))
      go (inr e) = rw (value-compound h (tags_of way.from doc inner) (entries_of way.from doc inner) e) (omega (arith, r.entries))

  -- There is a tag for each record.
  pub counted : (l : Bool) (f : Forest) → Fair (length doc) l f → Counted f
  unfolding Fair tag_count tags_of size
  counted l none w = record { tags = refl; entries = refl }
  counted l (node h inner later) w =
      let o = counted-one h inner w.1 (counted (eqb h.kind 9) inner w.2) in
      let r = counted l later w.3 in
      record { tags = omega (arith, o, r.tags); entries = omega (arith, o, r.entries) }

  -- ---- the root

  module _ (h : Head) (inner : Forest) (ten : h.kind ≡ 10) (w : Fair (length doc) false (node h inner none)) where
    -- A root that is judged fine stands for a document that keeps the rules.
    pub root-lawful : Bytes doc → length doc ≤ document_limit → size (node h inner none) ≤ record_limit
        → judged way doc depth_limit false 0 none 0 (node h inner none) ≡ got tt → LawfulBy (Carried way) (value_of way.from doc h inner)
    unfolding ValidBy depth entries_of
    root-lawful bytes few s e =
        let r = fine-kept bytes few depth_limit false 0 none 0 (node h inner none) w s e in
        let q = value-compound h (tags_of way.from doc inner) (entries_of way.from doc inner) ten in
        let v : ValidBy (Carried way) (compound (entries_of way.from doc inner)) = rw q at r.0.2 in
        let d : depth (compound (entries_of way.from doc inner)) ≤ depth_limit =
        rw q at (least (depth (value_by way.from doc h (tags_of way.from doc inner) (entries_of way.from doc inner))) r.2) in
        record { name = r.0.0; valid = v; depth_le = d }
      where
        least : (a : ℕ) → max a 0 ≤ depth_limit → a ≤ depth_limit
        least a l = omega arith

    -- One that stands for such a document keeps them.
    pub root_kept : LawfulBy (Carried way) (value_of way.from doc h inner) → Kept depth_limit false 0 none (node h inner none)
    unfolding ValidBy depth entries_of has_entry
    root_kept l =
        let q = value-compound h (tags_of way.from doc inner) (entries_of way.from doc inner) ten in
        let v : ValidBy (Carried way) (value_by way.from doc h (tags_of way.from doc inner) (entries_of way.from doc inner)) = rw q l.valid in
        let d : depth (value_by way.from doc h (tags_of way.from doc inner) (entries_of way.from doc inner)) ≤ depth_limit = rw q l.depth_le in
        ((l.name, refl, v, tt), apart_none doc (entries_of way.from doc (node h inner none)), omega (arith, d))

    -- And is judged fine.
    pub lawful-root : LawfulBy (Carried way) (value_of way.from doc h inner) → judged way doc depth_limit false 0 none 0 (node h inner none) ≡ got tt
    lawful-root l = kept_fine depth_limit false 0 none 0 (node h inner none) w (root_kept l)

-- ---- what is only too long

module _ (way : Way) (doc : List ℕ) where
  -- A string that is well formed in its own form is refused with 12 alone.
  text-long : (start len n : ℕ) → start + len ≤ length doc → TextIn way.from (part doc start len) → Answers (λ m p. m ≡ long_string) Any (string_fine way doc start len n)
  unfolding string_fine
  text-long start len n w t =
      rw (le-leb len string_limit (omega (arith, t.1, part_length doc start len w)), (well_formed-iff way.from.strings (part doc start len)).1 t.0)
      (go (leb (length (recoded way (part doc start len))) string_limit))
    where
      go : (b : Bool) → Answers {A = Unit {0}} (λ m p. m ≡ long_string) Any (guard b long_string n)
      go true = got-answers tt
      go false = no-answers n refl

  -- So is a name; an element of a list has none.
  name-long : (l : Bool) (h : Head) (n : ℕ) → NameIs (length doc) l h → (l ≡ false → TextIn way.from (part doc h.name h.name_length))
      → Answers (λ m p. m ≡ long_string) Any (string_fine way doc h.name h.name_length n)
  name-long true h n w t = subst (Answers (λ m p. m ≡ long_string) Any) (sym (nameless way doc true h n w (λ e. differ e))) (got-answers tt)
  name-long false h n w t = text-long h.name h.name_length n w.within (t refl)

  -- And a payload.
  payload-long : (h : Head) (n : ℕ) → h.start + h.size ≤ length doc → (h.kind ≡ 8 → TextIn way.from (part doc h.start h.size))
      → Answers (λ m p. m ≡ long_string) Any (payload_fine way doc h n)
  payload-long h n w t = go (eqb h.kind 8) refl
    where
      go : (b : Bool) → eqb h.kind 8 ≡ b → Answers (λ m p. m ≡ long_string) Any (payload_fine way doc h n)
      go true e =
          let k = eqb-true h.kind 8 e in
          subst (Answers (λ m p. m ≡ long_string) Any) (sym (payload-string way doc h n k)) (text-long h.start h.size n w (t k))
      go false e = subst (Answers (λ m p. m ≡ long_string) Any) (sym (payload-other way doc h n (eqb-false h.kind 8 e))) (got-answers tt)

  -- Records that keep the rules of their own form are refused with 12 alone.
  kept-long : (left : ℕ) (l : Bool) (k : ℕ) (earlier : Forest) (n : ℕ) (f : Forest) → Fair (length doc) l f → Kept (stays way.from) doc left l k earlier f
      → Answers (λ m p. m ≡ long_string) Any (judged way doc left l k earlier n f)
  unfolding judged Fair size
  kept-long left l k earlier n none w r = got-answers tt
  kept-long left l k earlier n (node h inner later) w r =
      let own = stays way.from in
      let g = fair-kind (length doc) h inner w.1 in
      let kind = kind_is way.from doc h (tags_of way.from doc inner) (entries_of way.from doc inner) g.0 g.1 in
      let x = node_kept own doc left k earlier h inner later l kind r in
      let i = valid-inside own doc left h inner w.2 w.1 x.valid x.deep in
      rw (x.new, test-deep own doc h.kind left i.deep, x.kind)
      (then-answers (string_fine way doc h.name h.name_length n) _ (name-long l h n w.0 (λ e. (x.text e).0))
      (λ _. then-answers (payload_fine way doc h n) _ (payload-long h n (body-in own doc h inner w.1) (λ e. (i.text e).0))
      (λ _. then-answers (judged way doc (left - 1) (eqb h.kind 9) h.list_kind none (n + 1) inner) _
      (kept-long (left - 1) (eqb h.kind 9) h.list_kind none (n + 1) inner w.2 i.held)
      (λ _. kept-long left l k (earlier ⊕ node h inner none) (n + 1 + size inner) later w.3 x.rest))))

  -- A root whose document keeps the rules of its own form is.
  pub root-long : (h : Head) (inner : Forest) → h.kind ≡ 10 → Fair (length doc) false (node h inner none) → LawfulBy (Carried (stays way.from)) (value_of way.from doc h inner)
      → Answers (λ m p. m ≡ long_string) Any (judged way doc depth_limit false 0 none 0 (node h inner none))
  root-long h inner ten w l = kept-long depth_limit false 0 none 0 (node h inner none) w (root_kept (stays way.from) doc h inner ten w l)
