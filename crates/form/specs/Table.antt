-- Rule 6, with the ninth word of 02 [7]: the records of a document as a tree with spans, their words in file order, and the values that
-- they stand for.
-- Assumes nothing.
use Rattle.std.specs.Prelude.{ℕ, zero, suc, ◌+◌, ◌*◌, List, [], ◌∷◌, ◌++◌, Bool, ◌||◌, ℤ, get_or, eqb}
use Rattle.form.specs.Answer.{pick}
use Rattle.form.specs.Form.{Form}
use Rattle.form.specs.Numbers.{number_in, signed_of}
use Rattle.form.specs.Spans.{part, over}
use Rattle.form.specs.Tree.{Tag, Tags, Entries, byte, short, int, long, float, double, byte_array, string, list, compound, int_array, long_array, nil, more, ended, entry, Document}

-- A record's words but the last two, which its place in the tree gives.
pub record Head : Type 0 where
  pub kind : ℕ
  pub name : ℕ
  pub name_length : ℕ
  pub start : ℕ
  pub size : ℕ
  pub count : ℕ
  pub list_kind : ℕ

-- Records that stand side by side: none; or a first, with the records in it, and those after it.
pub data Forest : Type 0 where
  none : Forest
  node : Head → Forest → Forest → Forest

-- How many records there are in all.
unfoldable pub size : Forest → ℕ
size none = 0
size (node h inner later) = 1 + size inner + size later

-- How many stand side by side.
unfoldable pub width : Forest → ℕ
width none = 0
width (node h inner later) = 1 + width later

infixl 30 ◌⊕◌
-- One after the other.
unfoldable pub ◌⊕◌ : Forest → Forest → Forest
none ⊕ g = g
node h inner later ⊕ g = node h inner (later ⊕ g)

-- The words of one record, in rule 6's order. `end` is the number of the first record outside its subtree, `parent` that of the record
-- that holds it.
abbrev pub words : Head → ℕ → ℕ → List ℕ
words h end parent =
    h.kind ∷ h.name ∷ h.name_length ∷ h.start ∷ h.size ∷ h.count ∷ h.list_kind ∷ end ∷ parent ∷ []

-- Word k of record n in a table.
abbrev pub word : List ℕ → ℕ → ℕ → ℕ
word t n k = get_or t (9 * n + k) 0

-- The words of record n but the last two.
abbrev pub head_of : List ℕ → ℕ → Head
head_of t n = record {
  kind = word t n 0;
  name = word t n 1;
  name_length = word t n 2;
  start = word t n 3;
  size = word t n 4;
  count = word t n 5;
  list_kind = word t n 6;
}

-- The words of records side by side and of those in them: the first has the number n, and their parent is p. The root's own p is 0.
unfoldable pub flat : ℕ → ℕ → Forest → List ℕ
flat p n none = []
flat p n (node h inner later) =
    words h (n + 1 + size inner) p ++ (flat n (n + 1) inner ++ flat p (n + 1 + size inner) later)

-- The table with the records written from record n on, whose parent is p.
unfoldable pub wrote : List ℕ → ℕ → ℕ → Forest → List ℕ
wrote t p n f = over t (9 * n) (flat p n f)

-- How many bytes kinds 1 to 6 take, and an element of the arrays 7, 11 and 12 (rule 4).
unfoldable pub width_of : ℕ → ℕ
width_of k = get_or (0 ∷ 1 ∷ 2 ∷ 4 ∷ 8 ∷ 4 ∷ 8 ∷ 1 ∷ 0 ∷ 0 ∷ 0 ∷ 4 ∷ 8 ∷ []) k 0

-- The kinds that hold records: lists and compounds.
abbrev pub holds : ℕ → Bool
holds kind = eqb kind 9 || eqb kind 10

-- The kinds of arrays.
abbrev pub is_array : ℕ → Bool
is_array kind = eqb kind 7 || (eqb kind 11 || eqb kind 12)

-- ---- the values that records of a document in a form stand for

module _ (form : Form) (doc : List ℕ) where
  -- n integers of w bytes each, from a place on.
  unfoldable pub ints_at : ℕ → ℕ → ℕ → List ℤ
  ints_at w zero at = []
  ints_at w (suc n) at = signed_of w (number_in form.order (part doc at w)) ∷ ints_at w n (at + w)

  -- A record's value; of a list or a compound that of what it holds.
  unfoldable pub value_by : Head → Tags → Entries → Tag
  value_by h ts es =
      pick (eqb h.kind 1) (byte (signed_of 1 (number_in form.order (part doc h.start 1))))
      (pick (eqb h.kind 2) (short (signed_of 2 (number_in form.order (part doc h.start 2))))
      (pick (eqb h.kind 3) (int (signed_of 4 (number_in form.order (part doc h.start 4))))
      (pick (eqb h.kind 4) (long (signed_of 8 (number_in form.order (part doc h.start 8))))
      (pick (eqb h.kind 5) (float (number_in form.order (part doc h.start 4)))
      (pick (eqb h.kind 6) (double (number_in form.order (part doc h.start 8)))
      (pick (eqb h.kind 7) (byte_array (ints_at 1 h.count h.start))
      (pick (eqb h.kind 8) (string (part doc h.start h.size))
      (pick (eqb h.kind 9) (list ts)
      (pick (eqb h.kind 10) (compound es)
      (pick (eqb h.kind 11) (int_array (ints_at 4 h.count h.start))
      (long_array (ints_at 8 h.count h.start))))))))))))

  -- The values of records side by side: as elements of a list, and as entries of a compound.
  unfoldable mutual
    pub tags_of : Forest → Tags
    tags_of none = nil
    tags_of (node h inner later) = more (value_by h (tags_of inner) (entries_of inner)) (tags_of later)

    pub entries_of : Forest → Entries
    entries_of none = ended
    entries_of (node h inner later) =
        entry (part doc h.name h.name_length) (value_by h (tags_of inner) (entries_of inner)) (entries_of later)

  -- The document that a root's record and the records in it stand for.
  abbrev pub value_of : Head → Forest → Document
  value_of h inner = record { name = part doc h.name h.name_length; root = entries_of inner }
