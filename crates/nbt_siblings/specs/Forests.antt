-- The same on records as a tree: what a reader that has written them can show, and the answer in its terms.
-- Assumes nothing.
use Rattle.std.specs.Prelude.{ℕ, ◌+◌, ◌-◌, List, true, false, not, ◌≡◌}
use Rattle.form.specs.Answer.{Out, got, no, ◌>>◌, guard}
use Rattle.form.specs.Table.{Head, Forest, none, node, size, ◌⊕◌, word, holds}
use Rattle.form.specs.Spans.{part}
use Rattle.form.specs.Reading.{has_name}
use Rattle.std.specs.Prelude.{Option, Some, None}

-- the word of a record that is to hold a link
abbrev pub spare : Head → ℕ
spare h = elim (holds h.kind) [
  | true ↦ h.start
  | false ↦ h.list_kind
]

-- those words are 0 in the records side by side
unfoldable pub Free : Forest → Type 0
Free none = Unit {0}
Free (node h inner later) = (spare h ≡ 0) × Free later

-- the first of the records side by side, the first of which has the number n, whose name one before it has, or one of those seen
unfoldable pub repeat_in : List ℕ → ℕ → Forest → Forest → Option ℕ
repeat_in doc n seen none = None
repeat_in doc n seen (node h inner later) = elim (has_name doc (part doc h.name h.name_length) seen) [
  | true ↦ Some n
  | false ↦ repeat_in doc (n + 1 + size inner) (seen ⊕ node h inner none) later
]

-- the names of records side by side are told apart; the first that is not is refused at its entry, three bytes before the name
unfoldable pub names_once : List ℕ → Forest → Forest → Out (Unit {0})
names_once doc seen none = got tt
names_once doc seen (node h inner later) =
    guard (not (has_name doc (part doc h.name h.name_length) seen)) 6 (h.name - 3) >> names_once doc (seen ⊕ node h inner none) later

-- the refusal that an answer of `first_repeat` is
abbrev pub refusal_of : List ℕ → Option ℕ → Out (Unit {0})
refusal_of t (Some k) = no 6 (word t k 1 - 3)
refusal_of t None = got tt

-- the refusal that a place is
abbrev pub place_out : Option ℕ → Out (Unit {0})
place_out (Some p) = no 6 p
place_out None = got tt
