-- Rule 8 cut at the joints of the code: what is asked of one record, and the bytes of one record, taken from its words. proofs/Pieces.antt
-- and nbt_writer/proofs/Laid.antt put the pieces together: they are `judged` and `layout`.
-- Assumes nothing.
use Rattle.std.specs.Prelude.{ℕ, ◌+◌, ◌-◌, max, List, [], ◌++◌, Bool, true, false, Option, Some, None, not, ◌||◌, length, ltb, eqb}
use Rattle.form.specs.Form.{Way}
use Rattle.form.specs.Answer.{Out, guard, ◌>>◌, name_twice, too_deep, mixed_list}
use Rattle.form.specs.Numbers.{bytes_in, bytes_of}
use Rattle.form.specs.Spans.{part}
use Rattle.form.specs.Layout.{string_bytes_in}
use Rattle.form.specs.Turned.{recoded}
use Rattle.form.specs.Table.{Head, Forest, none, node, holds, width_of}
use Rattle.form.specs.Writing.{string_fine, payload_fine, judged}
use Rattle.recode.specs.Steps.{numbers}
use Rattle.nbt_siblings.specs.Names.{first_repeat}

-- ---- what is asked of a record

-- A container where none may stand any more (7).
abbrev pub deep : ℕ → ℕ → Bool
deep kind left = not (not (holds kind) || ltb 0 left)

-- An element of another kind than its list's, which is k (11).
abbrev pub mixed : Bool → ℕ → ℕ → Bool
mixed list kind k = not (not list || eqb kind k)

-- The first record from n up to `end` whose name an earlier one has; elements of a list have no names.
abbrev pub first_twice : List ℕ → List ℕ → ℕ → ℕ → Bool → Option ℕ
first_twice doc t n end true = None
first_twice doc t n end false = first_repeat doc t n end

-- Whether the answer to `first_repeat` is record i.
abbrev pub is_at : Option ℕ → ℕ → Bool
is_at (Some r) i = eqb r i
is_at None i = false

-- What stands before the numbers of a payload: an array's count; nothing before a number alone.
unfoldable pub count_bytes : Way → ℕ → ℕ → List ℕ
count_bytes way kind count = elim (ltb 6 kind) [ true ↦ bytes_in way.to.order 4 count | false ↦ [] ]

-- A list's id and count.
unfoldable pub list_bytes : Way → Head → List ℕ
list_bytes way h = bytes_of 1 h.list_kind ++ bytes_in way.to.order 4 h.count

-- The bytes of a number of a kind, alone or in an array; what has no numbers is taken byte by byte.
unfoldable pub element_width : ℕ → ℕ
element_width kind = max 1 (width_of kind)

module _ (way : Way) (doc : List ℕ) where
  -- What comes after a record's name: depth (7), kind (11), string payload (12, 4, 12).
  unfoldable pub rest_fine : ℕ → Bool → ℕ → ℕ → Head → Out (Unit {0})
  rest_fine left list k n h = do
    guard (not (deep h.kind left)) too_deep n
    guard (not (mixed list h.kind k)) mixed_list n
    payload_fine way doc h n

  -- A record by itself, `twice` being whether an earlier one beside it has its name.
  unfoldable pub own_fine : ℕ → Bool → ℕ → Bool → ℕ → Head → Out (Unit {0})
  own_fine left list k twice n h = do
    string_fine way doc h.name h.name_length n
    guard (not twice) name_twice n
    rest_fine left list k n h

  -- A record and those in it.
  unfoldable pub one_judged : ℕ → Bool → ℕ → Bool → ℕ → Head → Forest → Out (Unit {0})
  one_judged left list k twice n h inner =
      own_fine left list k twice n h >> judged way doc (left - 1) (eqb h.kind 9) h.list_kind none (n + 1) inner

  -- ---- the bytes of a record

  -- A name or a string payload as it is written, behind its length.
  abbrev pub text_bytes : ℕ → ℕ → List ℕ
  text_bytes start size = string_bytes_in way.to (recoded way (part doc start size))

  -- What stands before the payload: an entry's id and name; nothing of an element of a list.
  unfoldable pub name_bytes : Bool → Head → List ℕ
  name_bytes true h = []
  name_bytes false h = bytes_of 1 h.kind ++ text_bytes h.name h.name_length

  -- A span as the payload of a kind that holds no records.
  unfoldable pub span_bytes : ℕ → ℕ → ℕ → ℕ → List ℕ
  span_bytes kind count start size = elim (eqb kind 8) [
    | true ↦ text_bytes start size
    | false ↦ count_bytes way kind count ++ numbers way (element_width kind) (part doc start size)
  ]

  -- The payload of what holds no records.
  abbrev pub leaf_bytes : Head → List ℕ
  leaf_bytes h = span_bytes h.kind h.count h.start h.size

  -- A payload; bs are the bytes of the records in it: a list's id and count come before them, a compound's end byte after.
  unfoldable pub body_bytes : Head → List ℕ → List ℕ
  body_bytes h bs = elim (eqb h.kind 9) [
    | true ↦ list_bytes way h ++ bs
    | false ↦ elim (eqb h.kind 10) [ true ↦ bs ++ bytes_of 1 0 | false ↦ leaf_bytes h ]
  ]

  -- Records side by side and those in them; a compound's end byte stands with its own record.
  unfoldable pub laid : Bool → Forest → List ℕ
  laid list none = []
  laid list (node h inner later) = name_bytes list h ++ (body_bytes h (laid (eqb h.kind 9) inner) ++ laid list later)

  -- How many bytes a payload takes, without those of the records in it.
  unfoldable pub body_size : Head → ℕ
  body_size h = elim (ltb h.kind 7) [
    | true ↦ h.size
    | false ↦ elim (eqb h.kind 8) [
      | true ↦ length (recoded way (part doc h.start h.size)) + 2
      | false ↦ elim (eqb h.kind 9) [
        | true ↦ 5
        | false ↦ elim (eqb h.kind 10) [ true ↦ 1 | false ↦ h.size + 4 ]
      ]
    ]
  ]

  -- How many bytes a record takes, without those of the records in it.
  unfoldable pub own_size : Bool → Head → ℕ
  own_size true h = body_size h
  own_size false h = body_size h + (length (recoded way (part doc h.name h.name_length)) + 3)
