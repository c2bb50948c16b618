-- The names in a table's words, for the search of a name that stands twice.
-- Assumes nothing.
use Rattle.std.specs.Prelude.{ℕ, zero, suc, ◌+◌, ◌*◌, ◌≤◌, List, Bool, true, false, ◌||◌, ◌≡◌, length, ltb}
use Rattle.form.specs.Table.{Forest, none, node, size, word, wrote}
use Rattle.form.specs.Spans.{same, part}

-- whether a record from i up to `to`, side by side, has the name: each record's last word is the number of the next. The first number is
-- enough where it is above the records left
unfoldable pub among : List ℕ → List ℕ → ℕ → ℕ → ℕ → List ℕ → Bool
among doc t zero i to name = false
among doc t (suc fuel) i to name =
    elim (ltb i to) [
      | true ↦ same (part doc (word t i 1) (word t i 2)) name || among doc t fuel (word t i 7) to name
      | false ↦ false
    ]

-- the names of records side by side lie in a document of so many bytes
unfoldable pub NamesIn : ℕ → Forest → Type 0
NamesIn n none = Unit {0}
NamesIn n (node h inner later) = (h.name + h.name_length ≤ n) × NamesIn n later

-- the table holds the records acc from record n on, up to record n'
pub record Holds (bytes : ℕ) (t : List ℕ) (n n' : ℕ) : Type 0 where
  pub acc : Forest
  pub base : List ℕ
  pub parent : ℕ
  pub is : t ≡ wrote base parent n acc
  pub to : n' ≡ n + size acc
  pub fits : 9 * n' ≤ length base
  pub names : NamesIn bytes acc
