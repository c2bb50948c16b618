-- The bytes of records side by side, and how many there are; nbt_writer/proofs/Laid.antt shows that they are the layout of the document.
-- Assumes nothing.
use Prim.Native.Nat.{ℕ, ◌+◌, ◌*◌, ◌≤◌, ◌<◌}
use mathlib.Core.Bool.{Bool, true, false}
use mathlib.Core.Logic.{◌⊎◌, inl, inr}
use mathlib.Core.List.{List, [], ◌++◌, append_assoc, append-nil}
use mathlib.Core.Path.{◌≡◌, refl, sym, ap, ◌∙◌}
use native.Mathlib.Omega.{arith}
use borrow.Author.Tests.{lt-ltb, le-ltb, eq-eqb, ne_eqb, ltb-true, ltb-false, eqb-true, eqb-false}
use lib.ListN.{length, length-append, length-take}
use lib.Dec.{ltb, eqb}
use Rattle.form.specs.Form.{Way}
use Rattle.form.specs.Numbers.{bytes_in, bytes_of}
use Rattle.form.specs.Spans.{part}
use Rattle.form.specs.Turned.{recoded}
use Rattle.form.specs.Table.{Head, Forest, none, node, ◌⊕◌, width_of, is_array}
use Rattle.form.specs.Tables.{leaf_fits}
use Rattle.form.proofs.Digits.{digits-length}
use Rattle.form.proofs.EachKind.{by_kind}
use Rattle.form.proofs.Leaves.{LeafSort, number, string, array, array_kind, leaf-sort}
use Rattle.form.proofs.Orders.{bytes-length}
use Rattle.form.proofs.Spans.{part_length}
use Rattle.form.proofs.Turned.{recoded-bound}
use Rattle.recode.specs.Steps.{numbers}
use Rattle.recode.proofs.Numbers.{numbers-length}
use Rattle.nbt_judging.specs.Pieces.{span_bytes, element_width, text_bytes, name_bytes, count_bytes, leaf_bytes, list_bytes, body_bytes, laid, body_size, own_size}

-- ---- a string and its length

module _ (way : Way) (doc : List ℕ) (start span : ℕ) where
  -- A name or a string payload is written in at most six times the bytes of its span.
  pub text-bound : length (recoded way (part doc start span)) ≤ 6 * span
  text-bound = omega (arith, recoded-bound way (part doc start span), part-short)
    where
      -- A span is at most as long as it says.
      part-short : length (part doc start span) ≤ span
      part-short = simp length-take (omega arith)

  -- Its length stands before it, in two bytes.
  pub text-length : length (text_bytes way doc start span) ≡ 2 + length (recoded way (part doc start span))
  text-length =
      let s = recoded way (part doc start span) in
      let long = bytes_in way.to.order 2 (length s) in
      omega (arith, length-append long s, bytes-length way.to.order 2 (length s))

-- ---- numbers

-- A number takes some bytes.
pub width_some : (kind : ℕ) → 0 < element_width kind
unfolding element_width
width_some kind = omega arith

-- Kinds 1 to 6 have the width of rule 4.
pub width-fixed : (kind : ℕ) → 0 < kind → kind < 7 → width_of kind ≡ element_width kind
unfolding width_of element_width
width-fixed kind a b =
    by_kind (λ k. k < 7 → width_of k ≡ element_width k) (λ p. refl) (λ p. refl) (λ p. refl) (λ p. refl) (λ p. refl) (λ p. refl)
    (λ p. absurd (omega arith)) (λ p. absurd (omega arith)) (λ p. absurd (omega arith)) (λ p. absurd (omega arith)) (λ p. absurd (omega arith)) (λ p. absurd (omega arith))
    kind a (omega arith) b

-- So have the elements of arrays.
pub width-array : (kind : ℕ) → is_array kind ≡ true → width_of kind ≡ element_width kind
unfolding width_of element_width
width-array kind e = array_kind (λ k. width_of k ≡ element_width k) kind e refl refl refl

-- What holds no records and is no string has a whole number of numbers in its span.
pub span-whole : (kind size count : ℕ) → leaf_fits kind size count ≡ true → (kind ≡ 8 → ⊥) → (n : ℕ) × (size ≡ n * element_width kind)
span-whole kind size count f s = go (leaf-sort kind size count f)
  where
    go : LeafSort kind size count → (n : ℕ) × (size ≡ n * element_width kind)
    go (number a b e c) = (1, omega (arith, e, width-fixed kind a b))
    go (string e c) = absurd (s e)
    go (array a e) = (count, e ∙ ap (λ w. count * w) (width-array kind a))

-- ---- one record, each way

module _ (way : Way) (doc : List ℕ) (h : Head) where
  -- Kinds 1 to 6.
  pub size-fixed : h.kind < 7 → body_size way doc h ≡ h.size
  unfolding body_size
  size-fixed e = rw (body_size, lt-ltb h.kind 7 e) refl

  -- A string as it is written: its length before it.
  pub size-string : h.kind ≡ 8 → body_size way doc h ≡ length (recoded way (part doc h.start h.size)) + 2
  unfolding body_size
  size-string e = rw (body_size, le-ltb h.kind 7 (omega arith), eq-eqb h.kind 8 e) refl

  -- A list: id and count.
  pub size-list : h.kind ≡ 9 → body_size way doc h ≡ 5
  unfolding body_size
  size-list e = rw (body_size, le-ltb h.kind 7 (omega arith), ne_eqb h.kind 8 (λ q. omega arith), eq-eqb h.kind 9 e) refl

  -- A compound: the end byte.
  pub size-compound : h.kind ≡ 10 → body_size way doc h ≡ 1
  unfolding body_size
  size-compound e = rw (body_size, le-ltb h.kind 7 (omega arith), ne_eqb h.kind 8 (λ q. omega arith), ne_eqb h.kind 9 (λ q. omega arith), eq-eqb h.kind 10 e) refl

  -- An array: its count before it.
  pub size_array : 7 ≤ h.kind → (h.kind ≡ 8 → ⊥) → (h.kind ≡ 9 → ⊥) → (h.kind ≡ 10 → ⊥) → body_size way doc h ≡ h.size + 4
  unfolding body_size
  size_array a b c d = rw (body_size, le-ltb h.kind 7 a, ne_eqb h.kind 8 b, ne_eqb h.kind 9 c, ne_eqb h.kind 10 d) refl

  -- Never more than five bytes beside six times the span.
  pub size-bound : body_size way doc h ≤ 6 * h.size + 5
  unfolding body_size
  size-bound = go (ltb h.kind 7) (eqb h.kind 8) (eqb h.kind 9) (eqb h.kind 10)
    where
      text : ℕ
      text = length (recoded way (part doc h.start h.size))

      go : (a b c d : Bool)
          → elim a [ true ↦ h.size | false ↦ elim b [ true ↦ text + 2 | false ↦ elim c [ true ↦ 5 | false ↦ elim d [ true ↦ 1 | false ↦ h.size + 4 ] ] ] ] ≤ 6 * h.size + 5
      go true b c d = omega arith
      go false true c d = omega (arith, text-bound way doc h.start h.size)
      go false false true d = omega arith
      go false false false true = omega arith
      go false false false false = omega arith

  -- An element of a list has no name.
  pub own-element : (l : Bool) → l ≡ true → own_size way doc l h ≡ body_size way doc h
  unfolding own_size
  own-element l e = rw e refl

  -- An entry has one.
  pub own-entry : (l : Bool) → l ≡ false → own_size way doc l h ≡ body_size way doc h + (length (recoded way (part doc h.name h.name_length)) + 3)
  unfolding own_size
  own-entry l e = rw e refl

  -- Never more than eight bytes beside six times the name and the span.
  pub own-bound : (l : Bool) → own_size way doc l h ≤ 6 * (h.size + h.name_length) + 8
  unfolding own_size
  own-bound true = omega (arith, size-bound)
  own-bound false = omega (arith, size-bound, text-bound way doc h.name h.name_length)

module _ (way : Way) (h : Head) where
  -- Before the numbers of an array stands their count.
  pub count-array : 6 < h.kind → count_bytes way h.kind h.count ≡ bytes_in way.to.order 4 h.count
  unfolding count_bytes
  count-array e = rw (count_bytes, lt-ltb 6 h.kind e) refl

  -- Before a number alone nothing.
  pub count-fixed : h.kind ≤ 6 → count_bytes way h.kind h.count ≡ []
  unfolding count_bytes
  count-fixed e = rw (count_bytes, le-ltb 6 h.kind e) refl

  -- A list's head takes five bytes.
  pub list_length : length (list_bytes way h) ≡ 5
  unfolding list_bytes
  list_length =
      let count = bytes_in way.to.order 4 h.count in
      omega (arith, length-append (bytes_of 1 h.list_kind) count, digits-length 1 h.list_kind, bytes-length way.to.order 4 h.count)

-- ---- records after records

-- No records have no bytes.
pub laid_none : (way : Way) (doc : List ℕ) (l : Bool) → laid way doc l none ≡ []
unfolding laid
laid_none way doc l = refl

-- One record with those in it.
pub laid_one : (way : Way) (doc : List ℕ) (l : Bool) (h : Head) (inner : Forest)
    → laid way doc l (node h inner none) ≡ name_bytes way doc l h ++ body_bytes way doc h (laid way doc (eqb h.kind 9) inner)
unfolding laid
laid_one way doc l h inner = ap (λ bs. name_bytes way doc l h ++ bs) (append-nil (body_bytes way doc h (laid way doc (eqb h.kind 9) inner)))

-- The first and those after it.
pub laid-node : (way : Way) (doc : List ℕ) (l : Bool) (h : Head) (inner later : Forest) → laid way doc l (node h inner later) ≡ laid way doc l (node h inner none) ++ laid way doc l later
unfolding laid
laid-node way doc l h inner later =
    let n = name_bytes way doc l h in
    let b = body_bytes way doc h (laid way doc (eqb h.kind 9) inner) in
    sym (append_assoc n b (laid way doc l later)) ∙ ap (λ bs. bs ++ laid way doc l later) (sym (laid_one way doc l h inner))

-- One record more.
pub laid-append : (way : Way) (doc : List ℕ) (l : Bool) (f g : Forest) → laid way doc l (f ⊕ g) ≡ laid way doc l f ++ laid way doc l g
unfolding ◌⊕◌
laid-append way doc l none g = ap (λ bs. bs ++ laid way doc l g) (sym (laid_none way doc l))
laid-append way doc l (node h i later) g =
    laid-node way doc l h i (later ⊕ g)
    ∙ ap (λ bs. laid way doc l (node h i none) ++ bs) (laid-append way doc l later g)
    ∙ sym (append_assoc (laid way doc l (node h i none)) (laid way doc l later) (laid way doc l g))
    ∙ ap (λ bs. bs ++ laid way doc l g) (sym (laid-node way doc l h i later))

-- ---- the parts of a record's bytes

module _ (way : Way) (doc : List ℕ) (h : Head) where
  -- An element of a list has no name.
  pub name-element : (l : Bool) → l ≡ true → name_bytes way doc l h ≡ []
  unfolding name_bytes
  name-element l e = rw e refl

  -- An entry has its id and its name.
  pub name-entry : (l : Bool) → l ≡ false → name_bytes way doc l h ≡ bytes_of 1 h.kind ++ text_bytes way doc h.name h.name_length
  unfolding name_bytes
  name-entry l e = rw e refl

  -- They take three bytes and those of the name as it is written.
  pub name_length : (l : Bool) → l ≡ false → length (name_bytes way doc l h) ≡ 3 + length (recoded way (part doc h.name h.name_length))
  name_length l e =
      let id = bytes_of 1 h.kind in
      let text = text_bytes way doc h.name h.name_length in
      ap length (name-entry l e) ∙ omega (arith, length-append id text, digits-length 1 h.kind, text-length way doc h.name h.name_length)

  -- The payload of a string.
  pub leaf-text : h.kind ≡ 8 → leaf_bytes way doc h ≡ text_bytes way doc h.start h.size
  unfolding span_bytes
  leaf-text e = rw (span_bytes, eq-eqb h.kind 8 e) refl

  -- The payload of a number or an array.
  pub leaf-numbers : (h.kind ≡ 8 → ⊥) → leaf_bytes way doc h ≡ count_bytes way h.kind h.count ++ numbers way (element_width h.kind) (part doc h.start h.size)
  unfolding span_bytes
  leaf-numbers e = rw (span_bytes, ne_eqb h.kind 8 e) refl

  -- What a payload is, by kind.
  pub body-list : (bs : List ℕ) → h.kind ≡ 9 → body_bytes way doc h bs ≡ list_bytes way h ++ bs
  unfolding body_bytes
  body-list bs e = rw (body_bytes, eq-eqb h.kind 9 e) refl

  -- Of a compound the entries and the end byte.
  pub body-compound : (bs : List ℕ) → h.kind ≡ 10 → body_bytes way doc h bs ≡ bs ++ bytes_of 1 0
  unfolding body_bytes
  body-compound bs e = rw (body_bytes, ne_eqb h.kind 9 (λ q. omega arith), eq-eqb h.kind 10 e) refl

  -- Of a leaf its own bytes.
  pub body-leaf : (bs : List ℕ) → (h.kind ≡ 9 → ⊥) → (h.kind ≡ 10 → ⊥) → body_bytes way doc h bs ≡ leaf_bytes way doc h
  unfolding body_bytes
  body-leaf bs e f = rw (body_bytes, ne_eqb h.kind 9 e, ne_eqb h.kind 10 f) refl

  -- ---- how many bytes

  module _ (w : h.start + h.size ≤ length doc) (fits : leaf_fits h.kind h.size h.count ≡ true) where
    -- The numbers of a leaf take as many bytes as its span.
    pub numbers-size : (h.kind ≡ 8 → ⊥) → length (numbers way (element_width h.kind) (part doc h.start h.size)) ≡ h.size
    numbers-size e =
        let whole = span-whole h.kind h.size h.count fits e in
        let span = part_length doc h.start h.size w in
        numbers-length way (element_width h.kind) whole.0 (part doc h.start h.size) (width_some h.kind) (span ∙ whole.1) ∙ span

    -- The payload of a number or an array: an array's count and the span.
    pub leaf-length : (h.kind ≡ 8 → ⊥) → length (leaf_bytes way doc h) ≡ length (count_bytes way h.kind h.count) + h.size
    leaf-length e =
        let ns = numbers way (element_width h.kind) (part doc h.start h.size) in
        ap length (leaf-numbers e) ∙ length-append (count_bytes way h.kind h.count) ns ∙ ap (λ n. length (count_bytes way h.kind h.count) + n) (numbers-size e)

    -- A leaf's payload, by kind.
    leaf-size : (h.kind ≡ 9 → ⊥) → (h.kind ≡ 10 → ⊥) → length (leaf_bytes way doc h) ≡ body_size way doc h
    leaf-size e f = go (ltb h.kind 7) refl (eqb h.kind 8) refl
      where
        go : (a : Bool) → ltb h.kind 7 ≡ a → (b : Bool) → eqb h.kind 8 ≡ b → length (leaf_bytes way doc h) ≡ body_size way doc h
        go true p b q =
            let l = ltb-true h.kind 7 p in
            omega (arith, leaf-length (λ z. omega arith), ap length (count-fixed way h (omega arith)), size-fixed way doc h l)
        go false p true q =
            let z = eqb-true h.kind 8 q in
            omega (arith, ap length (leaf-text z), text-length way doc h.start h.size, size-string way doc h z)
        go false p false q =
            let l = ltb-false h.kind 7 p in
            let z = eqb-false h.kind 8 q in
            let count = bytes-length way.to.order 4 h.count in
            omega (arith, leaf-length z, ap length (count-array way h (omega arith)), count, size_array way doc h l z e f)

    -- A record's payload, with the bytes of the records in it.
    body-length-leaf : (bs : List ℕ) → (h.kind ≡ 9 → ⊥) → (h.kind ≡ 10 → ⊥) → length (body_bytes way doc h bs) ≡ body_size way doc h
    body-length-leaf bs e f = ap length (body-leaf bs e f) ∙ leaf-size e f

  -- Of a container they come on top.
  body-length-held : (bs : List ℕ) → (h.kind ≡ 9) ⊎ (h.kind ≡ 10) → length (body_bytes way doc h bs) ≡ body_size way doc h + length bs
  body-length-held bs (inl e) = ap length (body-list bs e) ∙ omega (arith, length-append (list_bytes way h) bs, list_length way h, size-list way doc h e)
  body-length-held bs (inr e) = ap length (body-compound bs e) ∙ omega (arith, length-append bs (bytes_of 1 0), digits-length 1 0, size-compound way doc h e)

  -- The name and the payload together.
  name-size : (l : Bool) → length (name_bytes way doc l h) + body_size way doc h ≡ own_size way doc l h
  name-size true = omega (arith, ap length (name-element true refl), own-element way doc h true refl)
  name-size false = omega (arith, name_length false refl, own-entry way doc h false refl)

  module _ (l : Bool) (inner : Forest) where
    -- A record that holds none.
    pub size-leaf : h.start + h.size ≤ length doc → leaf_fits h.kind h.size h.count ≡ true → (h.kind ≡ 9 → ⊥) → (h.kind ≡ 10 → ⊥)
        → length (laid way doc l (node h inner none)) ≡ own_size way doc l h
    size-leaf w fits e f =
        let bs = laid way doc (eqb h.kind 9) inner in
        ap length (laid_one way doc l h inner)
        ∙ omega (arith, length-append (name_bytes way doc l h) (body_bytes way doc h bs), body-length-leaf w fits bs e f, name-size l)

    -- A container: its own bytes and those of the records in it.
    pub size-held : (h.kind ≡ 9) ⊎ (h.kind ≡ 10) → length (laid way doc l (node h inner none)) ≡ own_size way doc l h + length (laid way doc (eqb h.kind 9) inner)
    size-held e =
        let bs = laid way doc (eqb h.kind 9) inner in
        ap length (laid_one way doc l h inner)
        ∙ omega (arith, length-append (name_bytes way doc l h) (body_bytes way doc h bs), body-length-held bs e, name-size l)
