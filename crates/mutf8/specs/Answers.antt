-- What an answer of this crate means: the verdict of rule 2's definitions.
-- Assumes nothing.
use Rattle.form.specs.Decoding.{Verdict, good, bad}
use Rattle.std.specs.Prelude.{Result, Ok, Err}
use Rattle.mutf8.specs.declared.Unreadable.{Unreadable}

-- The verdict on a slice: well formed, or the offset at which the first sequence that can't be read begins.
abbrev pub verdict_of : Result (Unit {0}) Unreadable → Verdict
verdict_of (Ok _) = good
verdict_of (Err e) = bad e.at
