-- The tree of demand 2: the values of a document, with no place and no table in it. Its limits and the uniqueness of names.
-- Assumes nothing.
use Rattle.std.specs.Prelude.{ℕ, ◌+◌, ◌^◌, ◌≤◌, ◌<◌, max, ◌≡◌, List, [], ◌∷◌, Bool, false, ◌||◌, ℤ, length}
use Rattle.form.specs.Answer.{depth_limit, string_limit}
use Rattle.form.specs.Form.{Form, java}
use Rattle.form.specs.Numbers.{FitsIn, values_in}
use Rattle.form.specs.Spans.{same}
use Rattle.form.specs.Strings.{WellFormedIn}

-- A tag. Integers are integers, floats their bits, strings the bytes of their content. Lists hold tags, compounds named tags.
mutual
  pub data Tag : Type 0 where
    byte : ℤ → Tag
    short : ℤ → Tag
    int : ℤ → Tag
    long : ℤ → Tag
    float : ℕ → Tag
    double : ℕ → Tag
    byte_array : List ℤ → Tag
    string : List ℕ → Tag
    list : Tags → Tag
    compound : Entries → Tag
    int_array : List ℤ → Tag
    long_array : List ℤ → Tag

  pub data Tags : Type 0 where
    nil : Tags
    more : Tag → Tags → Tags

  pub data Entries : Type 0 where
    ended : Entries
    entry : List ℕ → Tag → Entries → Entries

-- A tag's id.
unfoldable pub kind_of : Tag → ℕ
kind_of (byte v) = 1
kind_of (short v) = 2
kind_of (int v) = 3
kind_of (long v) = 4
kind_of (float b) = 5
kind_of (double b) = 6
kind_of (byte_array vs) = 7
kind_of (string s) = 8
kind_of (list ts) = 9
kind_of (compound es) = 10
kind_of (int_array vs) = 11
kind_of (long_array vs) = 12

-- How many tags a list has.
unfoldable pub many : Tags → ℕ
many nil = 0
many (more t ts) = 1 + many ts

-- How many tags there are in all, each container counted with what it holds.
unfoldable mutual
  pub tag_count : Tag → ℕ
  tag_count (byte v) = 1
  tag_count (short v) = 1
  tag_count (int v) = 1
  tag_count (long v) = 1
  tag_count (float b) = 1
  tag_count (double b) = 1
  tag_count (byte_array vs) = 1
  tag_count (string s) = 1
  tag_count (list ts) = 1 + tags_count ts
  tag_count (compound es) = 1 + entries_count es
  tag_count (int_array vs) = 1
  tag_count (long_array vs) = 1

  pub tags_count : Tags → ℕ
  tags_count nil = 0
  tags_count (more t ts) = tag_count t + tags_count ts

  pub entries_count : Entries → ℕ
  entries_count ended = 0
  entries_count (entry n t es) = tag_count t + entries_count es

-- How many containers stand within each other.
unfoldable mutual
  pub depth : Tag → ℕ
  depth (byte v) = 0
  depth (short v) = 0
  depth (int v) = 0
  depth (long v) = 0
  depth (float b) = 0
  depth (double b) = 0
  depth (byte_array vs) = 0
  depth (string s) = 0
  depth (list ts) = 1 + tags_depth ts
  depth (compound es) = 1 + entries_depth es
  depth (int_array vs) = 0
  depth (long_array vs) = 0

  pub tags_depth : Tags → ℕ
  tags_depth nil = 0
  tags_depth (more t ts) = max (depth t) (tags_depth ts)

  pub entries_depth : Entries → ℕ
  entries_depth ended = 0
  entries_depth (entry n t es) = max (depth t) (entries_depth es)

-- A string's bytes are well formed in a form, and their number fits a u16.
abbrev pub TextIn : Form → List ℕ → Type 0
TextIn form s = WellFormedIn form.strings s × (length s ≤ string_limit)

-- The elements of an array fit w bytes, and their number an i32.
unfoldable pub AllFit : ℕ → List ℤ → Type 0
AllFit w [] = Unit {0}
AllFit w (v ∷ vs) = FitsIn w v × AllFit w vs

abbrev pub Array : ℕ → List ℤ → Type 0
Array w vs = AllFit w vs × (length vs < 2 ^ 31)

-- Whether a compound has an entry of that name.
unfoldable pub has_entry : List ℕ → Entries → Bool
has_entry n ended = false
has_entry n (entry m t es) = same m n || has_entry n es

-- Tags that a list holds are of one kind.
unfoldable pub OneKind : ℕ → Tags → Type 0
OneKind k nil = Unit {0}
OneKind k (more t ts) = (kind_of t ≡ k) × OneKind k ts

abbrev pub Alike : Tags → Type 0
Alike nil = Unit {0}
Alike (more t ts) = OneKind (kind_of t) ts

-- A tag that a document can hold whose names and strings must be as `text` says: numbers fit, lists hold one kind, names in a compound are
-- unique.
unfoldable mutual
  pub ValidBy : (List ℕ → Type 0) → Tag → Type 0
  ValidBy text (byte v) = FitsIn 1 v
  ValidBy text (short v) = FitsIn 2 v
  ValidBy text (int v) = FitsIn 4 v
  ValidBy text (long v) = FitsIn 8 v
  ValidBy text (float b) = b < values_in 4
  ValidBy text (double b) = b < values_in 8
  ValidBy text (byte_array vs) = Array 1 vs
  ValidBy text (string s) = text s
  ValidBy text (list ts) = Alike ts × (many ts < 2 ^ 31) × ValidTagsBy text ts
  ValidBy text (compound es) = ValidEntriesBy text es
  ValidBy text (int_array vs) = Array 4 vs
  ValidBy text (long_array vs) = Array 8 vs

  pub ValidTagsBy : (List ℕ → Type 0) → Tags → Type 0
  ValidTagsBy text nil = Unit {0}
  ValidTagsBy text (more t ts) = ValidBy text t × ValidTagsBy text ts

  pub ValidEntriesBy : (List ℕ → Type 0) → Entries → Type 0
  ValidEntriesBy text ended = Unit {0}
  ValidEntriesBy text (entry n t es) = text n × (has_entry n es ≡ false) × ValidBy text t × ValidEntriesBy text es

-- Of a document of a form: strings are well formed in it.
abbrev pub ValidIn : Form → Tag → Type 0
ValidIn form t = ValidBy (TextIn form) t

abbrev pub ValidTagsIn : Form → Tags → Type 0
ValidTagsIn form ts = ValidTagsBy (TextIn form) ts

abbrev pub ValidEntriesIn : Form → Entries → Type 0
ValidEntriesIn form es = ValidEntriesBy (TextIn form) es

-- A document: the root's name and the entries of the root, a compound.
pub record Document : Type 0 where
  pub name : List ℕ
  pub root : Entries

-- A document that keeps the rules, its names and strings being as `text` says, and the limits that do not depend on its bytes or on the room.
pub record LawfulBy (text : List ℕ → Type 0) (d : Document) : Type 0 where
  pub name : text d.name
  pub valid : ValidEntriesBy text d.root
  pub depth_le : 1 + entries_depth d.root ≤ depth_limit

-- A document that keeps the rules of a form.
abbrev pub LawfulIn : Form → Document → Type 0
LawfulIn form d = LawfulBy (TextIn form) d

-- Document 01's own.
abbrev pub Lawful : Document → Type 0
Lawful d = LawfulIn java d
