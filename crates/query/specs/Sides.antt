-- Records side by side in a table, and what the walk below one record may rely on.
-- Assumes nothing.
use Rattle.std.specs.Prelude.{ℕ, zero, suc, ◌+◌, ◌*◌, ◌≤◌, max, ◌≡◌, List, Bool, length, ltb}
use Rattle.form.specs.Answer.{pick, depth_limit, record_limit}
use Rattle.form.specs.Table.{Forest, size, word}
use Rattle.form.specs.Tables.{Fair}
use Rattle.form.specs.Paths.{Hop}
use Rattle.form.specs.Records.{Sits}
use Rattle.query_reach.specs.Levels.{RecordIn}
use Rattle.query_reach.specs.Plans.{Reaches}

-- The records from `from` up to `end`, with those in them: they stand in the table, and are as rule 7 has them over a document of d bytes.
pub record Side (d : ℕ) (t : List ℕ) (from end : ℕ) : Type 0 where
  pub forest : Forest
  pub element : Bool
  pub sits : Sits t from forest
  pub fair : Fair d element forest
  pub ends : from + size forest ≡ end

-- The records in record n.
abbrev pub Held : ℕ → List ℕ → ℕ → Type 0
Held d t n = Side d t (n + 1) (word t n 7)

-- How many levels the records from `from` up to `end` have, each with those in it, of which `most` are looked at: the walk's depth.
unfoldable pub levels_by : ℕ → List ℕ → ℕ → ℕ → ℕ
levels_by zero t from end = 0
levels_by (suc most) t from end =
    pick (ltb from end) (max (suc (levels_by most t (from + 1) (word t from 7))) (levels_by most t (word t from 7) end)) 0

-- The levels below record n.
abbrev pub levels_below : List ℕ → ℕ → ℕ
levels_below t n = levels_by (length t) t (n + 1) (word t n 7)

-- What the walk over the records in record n may rely on: the record and those in it, which have no more levels than containers may stand
-- within each other; the set of a path; and how many tags were counted before.
pub record Walkable (doc t q plan : List ℕ) (n set count : ℕ) : Type 0 where
  pub side : Held (length doc) t n
  pub own : RecordIn doc t n
  pub few : length t ≤ 9 * record_limit
  pub bounded : levels_below t n ≤ depth_limit
  pub total : ℕ
  pub path : List Hop
  pub reaches : Reaches q plan total path set
  pub counted : count ≤ n + 1
