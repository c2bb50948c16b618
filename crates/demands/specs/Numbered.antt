-- What a record's number means: record n of a table stands for the tag to which path n of the document leads. The proof is in
-- proofs/Numbered.antt, under the name given here.
-- Assumes nothing.
use Rattle.std.specs.Prelude.{ℕ, zero, suc, ◌+◌, ◌≡◌, ◌⊎◌, List, [], ◌∷◌, length}
use Rattle.form.specs.Form.{Form}
use Rattle.form.specs.Tree.{Tag, Tags, Entries, list, compound, nil, more, ended, entry}
use Rattle.form.specs.Table.{Head, Forest, size, tags_of, entries_of, value_by}
use Rattle.form.specs.Tables.{IsTable}
use Rattle.form.specs.Records.{Stands}
use Rattle.form.specs.Paths.{Hop, named, item, paths}
use Rattle.demands.specs.Writing.{table_value}
use Rattle.demands.specs.Queries.{PathAt}

-- Element i of a list, from 0.
unfoldable pub Nth : Tags → ℕ → Tag → Type 0
Nth nil i g = ⊥
Nth (more t ts) zero g = t ≡ g
Nth (more t ts) (suc i) g = Nth ts i g

-- An entry of that name.
unfoldable pub EntryOf : Entries → List ℕ → Tag → Type 0
EntryOf ended n g = ⊥
EntryOf (entry m t es) n g = ((m ≡ n) × (t ≡ g)) ⊎ EntryOf es n g

-- A path leads from a tag to another: each level of it to an element of a list, or to an entry of a compound.
unfoldable pub Leads : List Hop → Tag → Tag → Type 0
Leads [] t g = t ≡ g
Leads (item i ∷ hs) t g = (ts : Tags) × (u : Tag) × (t ≡ list ts) × Nth ts i u × Leads hs u g
Leads (named n ∷ hs) t g = (es : Entries) × (u : Tag) × (t ≡ compound es) × EntryOf es n u × Leads hs u g

-- Record n of the words w stands for a tag.
pub record StandsFor (form : Form) (doc w : List ℕ) (n : ℕ) (g : Tag) : Type 0 where
  pub head : Head
  pub inner : Forest
  pub words_are : Stands w n head (n + 1 + size inner)
  pub value : value_by form doc head (tags_of form doc inner) (entries_of form doc inner) ≡ g

-- `numbered`: the path at place n of a table's document leads from the root to the tag that record n stands for.
abbrev pub IsNumbered : Form → Type 0
IsNumbered form =
    (doc w : List ℕ) (t : IsTable (length doc) w) (n : ℕ) (p : List Hop) → PathAt (paths (table_value form doc w t)) n p
    → (g : Tag) × Leads p (compound (table_value form doc w t).root) g × StandsFor form doc w n g
