-- What the answers of this crate mean: each as the answer of rule 2's definitions.
-- Assumes nothing.
use Rattle.std.specs.Prelude.{ℕ, ◌+◌, ◌≤◌, ◌<◌, ◌≡◌, List, length}
use Rattle.form.specs.Spans.{over}
use Rattle.form.specs.Decoding.{Sequence, is, stuck}
use Rattle.std.specs.Prelude.{Option, Some, None}
use Rattle.chars.specs.declared.Character.{Character}

-- What stands at a place: rule 2's value and how many bytes it takes, or nothing that can be read.
abbrev pub sequence_of : Option Character → Sequence
sequence_of (Some c) = is c.value c.size
sequence_of None = stuck

-- What writing the bytes bs of rule 2 at a place of o leaves. Where they fit they stand there, all else is as it was, and the answer is
-- the place behind them; where they don't, nothing has changed.
abbrev pub Wrote : List ℕ → ℕ → List ℕ → Option ℕ → List ℕ → Type 0
Wrote o at bs (Some n) o' = (n ≡ at + length bs) × (n ≤ length o) × (o' ≡ over o at bs)
Wrote o at bs None o' = (length o < at + length bs) × (o' ≡ o)
