-- The bytes of records are the layout of what they stand for, in the form that is written: of a leaf its numbers or its string as that form
-- has them, of a list and a compound the bytes of the records in it.
-- Assumes nothing.
use Prim.Native.Nat.{ℕ, ◌+◌, ◌*◌, ◌≤◌, ◌<◌, ◌%◌, max}
use mathlib.Core.Bool.{Bool, true, false}
use mathlib.Core.Logic.{◌⊎◌, inl, inr}
use mathlib.Core.List.{List, [], ◌∷◌, ◌++◌, append_assoc}
use mathlib.Core.Path.{◌≡◌, refl, sym, ap, ◌∙◌}
use native.Mathlib.Omega.{arith}
use native.Mathlib.Decide.{dec_lt}
use borrow.Author.Tests.{eq-eqb, ne_eqb}
use lib.ListN.{length, get_or, get_or-eq_default}
use lib.Dec.{eqb}
use Rattle.form.specs.Form.{Way}
use Rattle.form.specs.Numbers.{digits, number_in, bytes_in, bytes_of, signed_of}
use Rattle.form.specs.Spans.{part}
use Rattle.form.specs.Tree.{Tag, Tags, Entries, nil, more, kind_of, many}
use Rattle.form.specs.Turned.{recoded, map_tag, map_tags, map_entries, turned}
use Rattle.form.specs.Layout.{int_bytes_in, ints_bytes_in, list_id, payload_in, element_bytes_in, entry_bytes_in, layout_in}
use Rattle.form.specs.Table.{Head, Forest, none, node, width_of, is_array, ints_at, value_by, tags_of, entries_of, value_of}
use Rattle.form.specs.Tables.{Fair, LeafIs, ContainerIs, first_kind, leaf_fits}
use Rattle.form.proofs.EachKind.{by_kind}
use Rattle.form.proofs.Leaves.{LeafSort, number, string as text, array, leaf-sort, array_kind, held-kind, fits-held}
use Rattle.form.proofs.Turned.{map-kind, map-many}
use Rattle.form.proofs.Values.{ints-count, kind_is, fair-kind, many_is}
use Rattle.recode.specs.Steps.{numbers}
use Rattle.recode.proofs.There.{number-there, numbers-there, int-there}
use Rattle.nbt_judging.specs.Pieces.{element_width, text_bytes, name_bytes, leaf_bytes, list_bytes, body_bytes, laid}
use Rattle.nbt_judging.proofs.Bytes.{width_some, width-fixed, width-array, count-array, count-fixed, name-entry, leaf-text, leaf-numbers, body-list, body-compound, body-leaf, laid_one}

-- A number below 256 is one byte.
byte-is : (k : ℕ) → k < 256 → bytes_of 1 k ≡ k ∷ []
unfolding digits
byte-is k h = let e : k % 256 ≡ k = omega arith in ap (λ b. b ∷ []) e

-- ---- trees whose strings are written by another rule

-- A list has the id that it had.
id-mapped : (g : List ℕ → List ℕ) (ts : Tags) → list_id (map_tags g ts) ≡ list_id ts
unfolding map_tag
id-mapped g nil = refl
id-mapped g (more t ts) = map-kind g t

-- ---- numbers

-- What a number may be: a kind, or none, which is taken byte by byte.
pub known : (kind : ℕ) → ((0 < kind) × (kind ≤ 12)) ⊎ (element_width kind ≡ 1)
unfolding element_width width_of
known kind = go (dec_lt 0 kind) (dec_lt 12 kind)
  where
    go : Dec (0 < kind) → Dec (12 < kind) → ((0 < kind) × (kind ≤ 12)) ⊎ (element_width kind ≡ 1)
    go (no a) b = let z : kind ≡ 0 = omega arith in inr (rw z refl)
    go (yes a) (no b) = inl (a, omega arith)
    go (yes a) (yes b) = inr (ap (max 1) (get_or-eq_default {A = ℕ} (0 ∷ 1 ∷ 2 ∷ 4 ∷ 8 ∷ 4 ∷ 8 ∷ 1 ∷ 0 ∷ 0 ∷ 0 ∷ 4 ∷ 8 ∷ []) 0 {n = kind} (omega arith)))

-- No number takes more than eight bytes.
pub width-most : (kind : ℕ) → element_width kind ≤ 8
unfolding element_width width_of
width-most kind = go (known kind)
  where
    go : ((0 < kind) × (kind ≤ 12)) ⊎ (element_width kind ≡ 1) → element_width kind ≤ 8
    go (inl k) =
        by_kind (λ x. element_width x ≤ 8)
        (omega arith) (omega arith) (omega arith) (omega arith) (omega arith) (omega arith)
        (omega arith) (omega arith) (omega arith) (omega arith) (omega arith) (omega arith)
        kind k.0 k.1
    go (inr e) = rw e (omega arith)

-- ---- leaves

module _ (way : Way) (doc : List ℕ) (bytes : (i : ℕ) → get_or doc i 0 < 256) where
  module _ (h : Head) (ts : Tags) (es : Entries) where
    -- The tag that a record stands for, its strings as they are written.
    abbrev there : Tag
    there = map_tag (recoded way) (value_by way.from doc h ts es)

    module _ (w : h.start + h.size ≤ length doc) where
      module _ (n : ℕ) (lo : 0 < h.kind) (hi : h.kind < 7) (k : width_of h.kind ≡ n) (e : h.size ≡ n) where
        -- A number of n bytes, as the other form has it.
        fixed : bytes_in way.to.order n (number_in way.from.order (part doc h.start n)) ≡ leaf_bytes way doc h
        fixed =
            let wide : element_width h.kind ≡ n = sym (width-fixed h.kind lo hi) ∙ k in
            sym (number-there way doc bytes n (omega (arith, wide, width_some h.kind)) h.start (omega arith))
            ∙ sym (leaf-numbers way doc h (λ q. omega arith) ∙ (λ i. count-fixed way h (omega arith) i ++ numbers way (wide i) (part doc h.start (e i))))

        -- An integer is laid out as its bits.
        int-laid : int_bytes_in way.to n (signed_of n (number_in way.from.order (part doc h.start n))) ≡ leaf_bytes way doc h
        int-laid = int-there way doc bytes n (omega (arith, k, width-fixed h.kind lo hi, width_some h.kind)) h.start (omega arith) ∙ fixed

      -- An array, of elements of n bytes.
      array-laid : (n : ℕ) → (h.kind ≡ 8 → ⊥) → 6 < h.kind → is_array h.kind ≡ true → width_of h.kind ≡ n → h.size ≡ h.count * n
          → let vs = ints_at way.from doc n h.count h.start in bytes_in way.to.order 4 (length vs) ++ ints_bytes_in way.to n vs ≡ leaf_bytes way doc h
      array-laid n s l a k e =
          let wide : element_width h.kind ≡ n = sym (width-array h.kind a) ∙ k in
          let there = numbers-there way doc bytes n (omega (arith, wide, width_some h.kind)) h.count h.start (omega (arith, w, e)) in
          (λ i. bytes_in way.to.order 4 (ints-count way.from doc n h.count h.start i) ++ sym there i)
          ∙ (λ i. sym (count-array way h l) i ++ numbers way (sym wide i) (part doc h.start (sym e i)))
          ∙ sym (leaf-numbers way doc h s)

      -- Kinds 1 to 6, one by one.
      number-laid : (bs : List ℕ) → leaf_bytes way doc h ≡ bs → 0 < h.kind → h.kind < 7 → h.size ≡ width_of h.kind → payload_in way.to there ≡ bs
      unfolding payload_in value_by width_of map_tag
      number-laid bs p lo hi e =
          by_kind (λ k. h.kind ≡ k → h.size ≡ width_of k → payload_in way.to there ≡ bs)
          (λ q s. rw q (int-laid 1 lo hi (ap width_of q) s ∙ p)) (λ q s. rw q (int-laid 2 lo hi (ap width_of q) s ∙ p))
          (λ q s. rw q (int-laid 4 lo hi (ap width_of q) s ∙ p)) (λ q s. rw q (int-laid 8 lo hi (ap width_of q) s ∙ p))
          (λ q s. rw q (fixed 4 lo hi (ap width_of q) s ∙ p)) (λ q s. rw q (fixed 8 lo hi (ap width_of q) s ∙ p))
          (λ q s. absurd (omega arith)) (λ q s. absurd (omega arith)) (λ q s. absurd (omega arith)) (λ q s. absurd (omega arith)) (λ q s. absurd (omega arith)) (λ q s. absurd (omega arith))
          h.kind lo (omega arith) refl e

      -- Whatever holds no records.
      pub leaf-laid : leaf_fits h.kind h.size h.count ≡ true → payload_in way.to there ≡ leaf_bytes way doc h
      unfolding payload_in value_by width_of map_tag
      leaf-laid f = go (leaf_bytes way doc h) refl (leaf-sort h.kind h.size h.count f)
        where
          go : (bs : List ℕ) → leaf_bytes way doc h ≡ bs → LeafSort h.kind h.size h.count → payload_in way.to there ≡ bs
          go bs p (number lo hi s c) = number-laid bs p lo hi s
          go bs p (text k c) = rw k (sym (leaf-text way doc h k) ∙ p)
          go bs p (array a s) =
              array_kind (λ k. h.kind ≡ k → h.size ≡ h.count * width_of k → payload_in way.to there ≡ bs) h.kind a
              (λ q s. rw q (array-laid 1 (λ z. omega arith) (omega arith) a (ap width_of q) s ∙ p))
              (λ q s. rw q (array-laid 4 (λ z. omega arith) (omega arith) a (ap width_of q) s ∙ p))
              (λ q s. rw q (array-laid 8 (λ z. omega arith) (omega arith) a (ap width_of q) s ∙ p))
              refl s

  -- ---- containers

  -- The id that a list is written with is its first record's kind.
  id-is : (l : Bool) (f : Forest) → Fair (length doc) l f → list_id (tags_of way.from doc f) ≡ first_kind f
  unfolding tags_of first_kind Fair
  id-is l none w = refl
  id-is l (node h inner later) w =
      let k = fair-kind (length doc) h inner w.1 in
      kind_is way.from doc h (tags_of way.from doc inner) (entries_of way.from doc inner) k.0 k.1

  -- It fits a byte.
  id-small : (l : Bool) (f : Forest) → Fair (length doc) l f → first_kind f < 256
  unfolding first_kind Fair
  id-small l none w = omega arith
  id-small l (node h inner later) w = let k = fair-kind (length doc) h inner w.1 in omega (arith, k.1)

  -- What the bytes of records side by side are.
  pub record Both (f : Forest) : Type 0 where
    pub elements : laid way doc true f ≡ element_bytes_in way.to (map_tags (recoded way) (tags_of way.from doc f))
    pub entries : laid way doc false f ++ bytes_of 1 0 ≡ entry_bytes_in way.to (map_entries (recoded way) (entries_of way.from doc f))

  module _ (h : Head) (inner : Forest) (w : Fair (length doc) (eqb h.kind 9) inner) (i : Both inner) where
    -- What the records in it stand for, as elements.
    abbrev ts : Tags
    ts = tags_of way.from doc inner

    -- And as entries.
    abbrev es : Entries
    es = entries_of way.from doc inner

    -- The bytes of the records in it.
    abbrev held : List ℕ
    held = laid way doc (eqb h.kind 9) inner

    -- Of a list the head and the elements, of a compound the entries and the end byte.
    held-laid : ContainerIs h inner → payload_in way.to (there h ts es) ≡ body_bytes way doc h held
    unfolding payload_in value_by list_bytes map_tag
    held-laid c = go (held-kind h.kind c.kind)
      where
        go : (h.kind ≡ 9) ⊎ (h.kind ≡ 10) → payload_in way.to (there h ts es) ≡ body_bytes way doc h held
        go (inl e) =
            let k : h.list_kind ≡ first_kind inner = c.listed ∙ rw e refl in
            let small : h.list_kind < 256 = omega (arith, k, id-small (eqb h.kind 9) inner w) in
            let ts' = map_tags (recoded way) ts in
            let count : many ts' ≡ h.count = map-many (recoded way) ts ∙ many_is way.from doc inner ∙ sym c.count in
            let id : list_id ts' ≡ h.list_kind = id-mapped (recoded way) ts ∙ id-is (eqb h.kind 9) inner w ∙ sym k in
            let front : list_id ts' ∷ bytes_in way.to.order 4 (many ts') ≡ list_bytes way h =
            (λ x. id x ∷ bytes_in way.to.order 4 (count x))
            ∙ ap (λ b. b ++ bytes_in way.to.order 4 h.count) (sym (byte-is h.list_kind small)) in
            rw e refl
            ∙ (λ x. front x ++ (sym i.elements ∙ ap (λ b. laid way doc b inner) (sym (eq-eqb h.kind 9 e))) x)
            ∙ sym (body-list way doc h held e)
        go (inr e) =
            rw e refl
            ∙ (sym i.entries ∙ ap (λ b. laid way doc b inner ++ bytes_of 1 0) (sym (ne_eqb h.kind 9 (λ q. omega arith))))
            ∙ sym (body-compound way doc h held e)

    -- A payload, whatever the kind.
    pub body-laid : LeafIs (length doc) h inner ⊎ ContainerIs h inner → payload_in way.to (there h ts es) ≡ body_bytes way doc h held
    body-laid (inl f) =
        leaf-laid h ts es f.body f.fits
        ∙ sym (body-leaf way doc h _ (λ e. no (fits-held h.kind h.size h.count (rw e refl))) (λ e. no (fits-held h.kind h.size h.count (rw e refl))))
      where
        no : leaf_fits h.kind h.size h.count ≡ false → ⊥
        no z = let q : true ≡ false = sym f.fits ∙ z in let y : ◌≡◌ {A = ℕ} 0 1 = cc in omega arith
    body-laid (inr c) = held-laid c

  -- The name of an entry, with its id.
  name-laid : (h : Head) (k : ℕ) → k ≡ h.kind → h.kind < 256 → name_bytes way doc false h ≡ k ∷ text_bytes way doc h.name h.name_length
  name-laid h k e s =
      let text = text_bytes way doc h.name h.name_length in
      name-entry way doc h false refl ∙ ap (λ b. b ++ text) (byte-is h.kind s) ∙ ap (λ x. x ∷ text) (sym e)

  -- Records side by side, and those in them.
  pub both : (l : Bool) (f : Forest) → Fair (length doc) l f → Both f
  unfolding Fair payload_in tags_of laid name_bytes digits map_tag
  both l none w = record { elements = refl; entries = refl }
  both l (node h inner later) w =
      let i = both (eqb h.kind 9) inner w.2 in
      let r = both l later w.3 in
      let k = fair-kind (length doc) h inner w.1 in
      let ts = tags_of way.from doc inner in
      let es = entries_of way.from doc inner in
      let b = sym (body-laid h inner w.2 i w.1) in
      let id = map-kind (recoded way) (value_by way.from doc h ts es) ∙ kind_is way.from doc h ts es k.0 k.1 in
      let n = name-laid h (kind_of (there h ts es)) id (omega (arith, k.1)) in
      let body = body_bytes way doc h (laid way doc (eqb h.kind 9) inner) in
      record {
        elements = λ x. b x ++ r.elements x;
        entries = shuffle (name_bytes way doc false h) body (laid way doc false later) (bytes_of 1 0) ∙ (λ x. n x ++ (b x ++ r.entries x));
      }
    where
      shuffle : (n b l e : List ℕ) → (n ++ (b ++ l)) ++ e ≡ n ++ (b ++ (l ++ e))
      shuffle n b l e = simp append_assoc

  -- ---- documents

  -- The bytes of a root's record are the layout of its document, as it is written.
  pub document-laid : (h : Head) (inner : Forest) → h.kind ≡ 10 → Fair (length doc) false (node h inner none)
      → laid way doc false (node h inner none) ≡ layout_in way.to (turned way (value_of way.from doc h inner))
  unfolding Fair layout_in
  document-laid h inner e w =
      let i = both (eqb h.kind 9) inner w.2 in
      let z : eqb h.kind 9 ≡ false = ne_eqb h.kind 9 (λ q. omega arith) in
      laid_one way doc false h inner
      ∙ ap (λ bs. name_bytes way doc false h ++ bs) (body-compound way doc h (laid way doc (eqb h.kind 9) inner) e ∙ ap (λ b. laid way doc b inner ++ bytes_of 1 0) z ∙ i.entries)
      ∙ ap (λ bs. bs ++ entry_bytes_in way.to (map_entries (recoded way) (entries_of way.from doc inner))) (name-laid h 10 (sym e) (omega arith))
