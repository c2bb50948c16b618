-- What the contracts of rule 7's check cite: its answer by cases, and what its tests say.
-- Assumes nothing.
use Rattle.std.specs.Prelude.{ℕ, ◌≡◌, List, Bool, true, false, Option, Some, None, Result, Ok, Err}
use Rattle.form.specs.Answer.{Out, got, no, over_limit, no_table}
use Rattle.form.specs.Tables.{IsTable, Within}
use Rattle.form.specs.Rows.{Chain}
use Rattle.form.specs.Refusals.{number_of}
use Rattle.form.specs.declared.refusals.Refused.{Refused}
use Rattle.table.specs.declared.Unfit.{Unfit}
use Rattle.table.specs.declared.Unfit.TheVariants.{OverLimit, NoTable}

-- The answer on the words of a table and a document of d bytes: over a limit (refusal 9), which comes first; else whether the words form a
-- table, which is refusal 10 where they do not.
abbrev pub VerdictIs : ℕ → List ℕ → Result (Unit {0}) Unfit → Type 0
VerdictIs d t (Ok _) = Within d t × IsTable d t
VerdictIs d t (Err NoTable) = Within d t × (IsTable d t → ⊥)
VerdictIs d t (Err OverLimit) = Within d t → ⊥

-- Document 01's answer for each case: accepted, or refusal 9 or 10 at 0, as writing and asking the words answer.
abbrev pub verdict_out : Result (Unit {0}) Unfit → Out (Unit {0})
verdict_out (Ok _) = got tt
verdict_out (Err NoTable) = no no_table 0
verdict_out (Err OverLimit) = no over_limit 0

-- The refusal that `?` makes of each case: its number, at 0.
abbrev pub RefusedAs : Unfit → Refused → Type 0
RefusedAs u r = verdict_out (Err u) ≡ no (number_of r.refusal) r.place

-- Rule 7's answer on those words: a limit first (9), then whether they form a table (10).
pub record Answers (d : ℕ) (t : List ℕ) (answer : Out (Unit {0})) : Type 0 where
  pub large : (Within d t → ⊥) → answer ≡ no over_limit 0
  pub unfit : Within d t → (IsTable d t → ⊥) → answer ≡ no no_table 0
  pub fit : Within d t → IsTable d t → answer ≡ got tt

-- A test says whether P holds.
pub record Says (r : Bool) (P : Type 0) : Type 0 where
  pub yes : r ≡ true → P
  pub no : r ≡ false → P → ⊥

-- The children from record j up to e are so many, or do not tile that range.
abbrev pub HopsAre : (ℕ → ℕ → ℕ) → Bool → Bool → ℕ → ℕ → ℕ → Option ℕ → Type 0
HopsAre get up l p e j (Some c) = Chain get up l p e j c
HopsAre get up l p e j None = (c : ℕ) → Chain get up l p e j c → ⊥
