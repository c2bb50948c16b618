-- A record in the table (rule 6), and the hop down to it: by name in a compound, by number in a list (rule 9).
-- Assumes nothing.
use Rattle.std.specs.Prelude.{ℕ, ◌+◌, ◌*◌, ◌≤◌, List, length}
use Rattle.form.specs.Spans.{part}
use Rattle.form.specs.Table.{word}
use Rattle.form.specs.Paths.{Hop}
use Rattle.form.specs.Records.{hop_of}

-- The name of record c.
abbrev pub name_of : List ℕ → List ℕ → ℕ → List ℕ
name_of doc t c = part doc (word t c 1) (word t c 2)

-- The hop from a record down to child c, which is number i in it.
abbrev pub hop_to : List ℕ → List ℕ → ℕ → ℕ → ℕ → Hop
hop_to doc t parent c i = hop_of (word t parent 0) i (name_of doc t c)

-- Record c stands in the table, and its name in the document.
pub record RecordIn (doc t : List ℕ) (c : ℕ) : Type 0 where
  pub row : 9 * c + 9 ≤ length t
  pub name : word t c 1 + word t c 2 ≤ length doc
