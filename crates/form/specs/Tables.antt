-- Rule 7: what it is for words to form a table, each with the right parent (02, [7]).
-- Assumes nothing.
use Rattle.std.specs.Prelude.{ℕ, ◌+◌, ◌*◌, ◌≤◌, ◌≡◌, ◌⊎◌, List, Bool, true, false, ◌&&◌, length, ltb, eqb}
use Rattle.form.specs.Answer.{pick, document_limit, record_limit}
use Rattle.form.specs.Table.{Head, Forest, none, node, width, flat, width_of, holds, is_array}

-- Rule 4: the payload's length and the count of what holds no records. Kinds 1 to 6 have a fixed length, strings any, arrays that of
-- their elements.
unfoldable pub leaf_fits : ℕ → ℕ → ℕ → Bool
leaf_fits kind len count =
    pick (eqb kind 8) (eqb count 0)
    (pick (ltb kind 7) (ltb 0 kind && (eqb len (width_of kind) && eqb count 0))
    (pick (is_array kind) (eqb len (count * width_of kind)) false))

-- The kind of the first of some records; 0 where there is none.
unfoldable pub first_kind : Forest → ℕ
first_kind none = 0
first_kind (node h inner later) = h.kind

-- A record that holds no records, in a document of d bytes.
pub record LeafIs (d : ℕ) (h : Head) (inner : Forest) : Type 0 where
  pub fits : leaf_fits h.kind h.size h.count ≡ true
  pub body : h.start + h.size ≤ d
  pub plain : h.list_kind ≡ 0
  pub bare : inner ≡ none

-- A list or a compound: its payload words are 0, it counts its children, and a list has its first child's kind.
pub record ContainerIs (h : Head) (inner : Forest) : Type 0 where
  pub kind : holds h.kind ≡ true
  pub start : h.start ≡ 0
  pub long : h.size ≡ 0
  pub count : h.count ≡ width inner
  pub listed : h.list_kind ≡ pick (eqb h.kind 9) (first_kind inner) 0

-- A record's name lies in a document of d bytes; an element of a list (l) has none.
pub record NameIs (d : ℕ) (l : Bool) (h : Head) : Type 0 where
  pub within : h.name + h.name_length ≤ d
  pub nameless : l ≡ true → (h.name ≡ 0) × (h.name_length ≡ 0)

-- Records side by side, as rules 4 and 6 have them; l says whether they are the elements of a list.
unfoldable pub Fair : ℕ → Bool → Forest → Type 0
Fair d l none = Unit {0}
Fair d l (node h inner later) =
    NameIs d l h × (LeafIs d h inner ⊎ ContainerIs h inner) × Fair d (eqb h.kind 9) inner × Fair d l later

-- The words form a table: they are those of a compound's record, whose parent word is 0, and of the records in it.
pub record IsTable (d : ℕ) (w : List ℕ) : Type 0 where
  pub head : Head
  pub inner : Forest
  pub compound : head.kind ≡ 10
  pub fair : Fair d false (node head inner none)
  pub these : w ≡ flat 0 0 (node head inner none)

-- The limits of a document and a table (refusal 9).
pub record Within (d : ℕ) (w : List ℕ) : Type 0 where
  pub bytes : d ≤ document_limit
  pub words : length w ≤ 9 * record_limit
