-- What taking a query apart promises, step by step and in all: the code's answers in the terms of rule 9's definitions.
-- Assumes nothing.
use Rattle.std.specs.Prelude.{Result, Ok, Err, IfOk, Option, Some, None, ℕ, zero, suc, ◌+◌, ◌≤◌, ◌<◌, ◌≡◌, List, ltb, eqb, length, get_or, replicate}
use Rattle.form.specs.Form.{Form}
use Rattle.form.specs.Answer.{Out, got, no, pick, bad_query, step_limit}
use Rattle.form.specs.Refusals.{out_of}
use Rattle.form.specs.declared.refusals.Refusal.TheVariants.{BadQuery}
use Rattle.form.specs.declared.refusals.Refused.{Refused}
use Rattle.form.specs.Spans.{part}
use Rattle.form.specs.Numbers.{big_endian}
use Rattle.form.specs.Paths.{Step}
use Rattle.form.specs.Query.{Spelt, spelt}
use Rattle.query_steps.specs.Steps.{step_of, steps_from, no_step, span, NameIn, QueryIn}
use Rattle.query_steps.specs.declared.Step.{Step as StepWords}
use Rattle.query_steps.specs.declared.One.{One}
use Rattle.query_steps.specs.declared.Query.{Query}

-- The struct of the step at a place, by its first byte: of a name its span, of an index its number, of any other byte that byte alone.
unfoldable pub words_at : List ℕ → ℕ → StepWords
words_at q at =
    pick (eqb (get_or q at 0) 1) (record { kind = 1; at = at + 3; len = big_endian (part q (at + 1) 2) })
    (pick (eqb (get_or q at 0) 2) (record { kind = 2; at = big_endian (part q (at + 1) 4); len = 0 })
    (record { kind = get_or q at 0; at = 0; len = 0 }))

-- The bytes that it takes.
unfoldable pub bytes_at : List ℕ → ℕ → ℕ
bytes_at q at = pick (eqb (get_or q at 0) 1) (3 + big_endian (part q (at + 1) 2)) (pick (eqb (get_or q at 0) 2) 5 1)

-- Where step k begins.
unfoldable pub place_of : List ℕ → ℕ → ℕ
place_of q zero = 0
place_of q (suc k) = place_of q k + bytes_at q (place_of q k)

-- What the array holds at k, n steps having been read.
abbrev pub held_at : List ℕ → ℕ → ℕ → StepWords
held_at q n k = pick (ltb k n) (words_at q (place_of q k)) no_step

-- No steps.
abbrev pub no_query : Query
no_query = record { steps = replicate step_limit no_step; count = 0 }

-- Refusal 14 at a place.
abbrev pub refused_at : ℕ → Refused
refused_at p = record { refusal = BadQuery; place = p }

-- The code's answer on the step at a place: the step and the place past it, or refusal 14 there.
abbrev pub one_out : List ℕ → ℕ → Option One → Out Spelt
one_out q at (Some o) = got (record { step = step_of q o.step; next = o.next })
one_out q at None = no bad_query at

-- A step that was read takes at least a byte and at most 65,538, and its name lies in the query's bytes.
pub record Goes (q : List ℕ) (at : ℕ) (t : StepWords) (j : ℕ) : Type 0 where
  pub words : t ≡ words_at q at
  pub place : j ≡ at + bytes_at q at
  pub after : at < j
  pub near : j ≤ at + 65538
  pub name : NameIn q t

-- The answer on the step at a place is o.
pub record Reads (q : List ℕ) (at : ℕ) (o : Out Spelt) (r : Option One) : Type 0 where
  pub is : one_out q at r ≡ o
  pub goes : (t : One) → r ≡ Some t → Goes q at t.step t.next

-- The code's answer on a whole query: its steps, or refusal 14 with its place.
abbrev pub taken_out : List ℕ → Result Query Refused → Out (List Step)
taken_out q r = out_of (λ query. steps_from q query 0) r

-- The answer on a whole query, every step of the array said: those that were read, and behind them none.
abbrev pub taken_by : List ℕ → Out (List Step) → Result Query Refused
taken_by q (got ss) = Ok (record { steps = span (held_at q (length ss)) 0 step_limit; count = length ss })
taken_by q (no n p) = Err (refused_at p)

-- The promise of taking a query apart: the answer; that its steps are those of rule 9; and that their names lie in the query's bytes.
pub record TakenIs (form : Form) (q : List ℕ) (r : Result Query Refused) : Type 0 where
  pub whole : r ≡ taken_by q (spelt form q)
  pub is : taken_out q r ≡ spelt form q
  pub safe : IfOk r (QueryIn q)
