-- Request [2]: a document in another form. Its strings keep their characters, its numbers are the same numbers; a float is its bits in every
-- form (Tree.antt), so that nothing more is to be said of it.
-- Assumes nothing.
use Rattle.std.specs.Prelude.{ℕ, zero, suc, ◌≤◌, List, [], ◌∷◌, length, drop}
use Rattle.form.specs.Answer.{pick, string_limit}
use Rattle.form.specs.Form.{Rule, Form, Way, same_rule}
use Rattle.form.specs.Strings.{enc_of, encode_by}
use Rattle.form.specs.Decoding.{Sequence, is, stuck, one_of}
use Rattle.form.specs.Tree.{Tag, Tags, Entries, byte, short, int, long, float, double, byte_array, string, list, compound, int_array, long_array, nil, more, ended, entry, Document, TextIn}

-- ---- strings

abbrev pub char_then : (List ℕ → List ℕ) → List ℕ → Sequence → List ℕ
char_then k l stuck = []
char_then k l (is c n) = c ∷ k (drop n l)

-- The characters of l, up to a sequence that can't be read; the first number bounds the turns.
unfoldable pub chars_by : (List ℕ → Sequence) → ℕ → List ℕ → List ℕ
chars_by one zero l = []
chars_by one (suc f) l = char_then (chars_by one f) l (one l)

-- The characters of a string by a rule.
unfoldable pub chars_in : Rule → List ℕ → List ℕ
chars_in r l = chars_by (one_of r) (length l) l

-- A string as it is written: its characters by the other form's rule; where that is the same rule its bytes as they are.
unfoldable pub recoded : Way → List ℕ → List ℕ
recoded way l = pick (same_rule way.from.strings way.to.strings) l (encode_by (enc_of way.to.strings) (chars_in way.from.strings l))

-- A string that can be written so: it is well formed, and its length fits a u16 as it stands and as it is written.
abbrev pub Carried : Way → List ℕ → Type 0
Carried way s = TextIn way.from s × (length (recoded way s) ≤ string_limit)

-- ---- trees

-- A tree with each name and string payload replaced by g of it.
unfoldable mutual
  pub map_tag : (List ℕ → List ℕ) → Tag → Tag
  map_tag g (byte v) = byte v
  map_tag g (short v) = short v
  map_tag g (int v) = int v
  map_tag g (long v) = long v
  map_tag g (float b) = float b
  map_tag g (double b) = double b
  map_tag g (byte_array vs) = byte_array vs
  map_tag g (string s) = string (g s)
  map_tag g (list ts) = list (map_tags g ts)
  map_tag g (compound es) = compound (map_entries g es)
  map_tag g (int_array vs) = int_array vs
  map_tag g (long_array vs) = long_array vs

  pub map_tags : (List ℕ → List ℕ) → Tags → Tags
  map_tags g nil = nil
  map_tags g (more t ts) = more (map_tag g t) (map_tags g ts)

  pub map_entries : (List ℕ → List ℕ) → Entries → Entries
  map_entries g ended = ended
  map_entries g (entry n t es) = entry (g n) (map_tag g t) (map_entries g es)

abbrev pub map_document : (List ℕ → List ℕ) → Document → Document
map_document g d = record { name = g d.name; root = map_entries g d.root }

-- The document that is written: the same tree, each string written by the other form's rule.
abbrev pub turned : Way → Document → Document
turned way d = map_document (recoded way) d

-- What a document of a form means: its tree, each string as its characters. Two documents have the same value where they mean the same.
abbrev pub meant : Form → Document → Document
meant form d = map_document (chars_in form.strings) d
