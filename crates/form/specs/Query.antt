-- Rule 9: what a query's bytes spell, names in the string rule of the document's form (02, [2]), and what asking it of a table gives. Order:
-- 9, 10, 7, 14, 24.
-- Assumes nothing.
use Rattle.std.specs.Prelude.{ℕ, zero, suc, ◌+◌, ◌-◌, ◌≡◌, List, [], ◌∷◌, true, false, not, ◌||◌, length, ltb, leb, eqb}
use Rattle.form.specs.Answer.{Out, got, no, ◌>>=◌, ◌>>◌, guard, pick, Count, counted, failed, too_deep, over_limit, no_table, bad_query, more_matches, depth_limit, step_limit}
use Rattle.form.specs.Form.{Form, asks}
use Rattle.form.specs.Spans.{part, over}
use Rattle.form.specs.Table.{Head, Forest, none, node, size, holds, value_of}
use Rattle.form.specs.Tables.{IsTable, Within}
use Rattle.form.specs.Reading.{byte_at, string_at, count_at}
use Rattle.form.specs.Paths.{Step, name, index, any, deep, matches}

-- A step, and the place past it.
pub record Spelt : Type 0 where
  pub step : Step
  pub next : ℕ

-- Whatever is wrong with a step, the refusal is 14 at its first byte.
abbrev pub blamed : {A : Type 0} → ℕ → Out A → Out A
blamed at (got a) = got a
blamed at (no n p) = no bad_query at

module _ (form : Form) (q : List ℕ) where
  -- The step whose first byte is k: 01 and a string, 02 and an i32 that is not below 0, 03, 04.
  unfoldable pub step_by : ℕ → ℕ → Out Spelt
  step_by k at =
      elim (eqb k 1) [
        | true ↦ do
          s ← string_at (asks form) q (at + 1)
          got (record { step = name (part q s.start s.size); next = s.next })
        | false ↦ elim (eqb k 2) [
          | true ↦ do
            i ← count_at (asks form) q (at + 1)
            got (record { step = index i; next = at + 5 })
          | false ↦ elim (eqb k 3) [
            | true ↦ got (record { step = any; next = at + 1 })
            | false ↦ elim (eqb k 4) [ true ↦ got (record { step = deep; next = at + 1 }) | false ↦ no bad_query at ]
          ]
        ]
      ]

  -- The step at a place.
  unfoldable pub step_at : ℕ → Out Spelt
  step_at at = blamed at (byte_at q at >>= (λ k. step_by k at))

  -- The steps from a place on, at most so many.
  unfoldable pub steps_at : ℕ → ℕ → Out (List Step)
  steps_at zero at = elim (ltb at (length q)) [ true ↦ no bad_query at | false ↦ got [] ]
  steps_at (suc left) at =
      elim (ltb at (length q)) [
        | true ↦ do
          s ← step_at at
          rest ← steps_at left s.next
          got (s.step ∷ rest)
        | false ↦ got []
      ]

  -- A query's steps, sixteen at the most.
  unfoldable pub spelt : Out (List Step)
  spelt = steps_at step_limit 0

-- Refusal 7: the first record, from n on, that is a container where none may stand any more.
unfoldable pub shallow : ℕ → ℕ → Forest → Out (Unit {0})
shallow left n none = got tt
shallow left n (node h inner later) = do
  guard (not (holds h.kind) || ltb 0 left) too_deep n
  shallow (left - 1) (n + 1) inner
  shallow left (n + 1 + size inner) later

-- What asking gives, but for the room: 7, then 14, then the numbers of the tags that match.
unfoldable pub asked : Form → List ℕ → List ℕ → Head → Forest → Out (List ℕ)
asked form doc q h inner = do
  shallow depth_limit 0 (node h inner none)
  ss ← spelt form q
  got (matches (value_of form doc h inner) ss)

-- The answer to a query: the matches; or a refusal's number and place, with the true count where it is 24.
pub data Answered : Type 0 where
  matched : List ℕ → Answered
  refused : ℕ → ℕ → ℕ → Answered

-- What a list with so much room makes of the matches: 24 with their true count where it is too short.
abbrev pub within : ℕ → Out (List ℕ) → Answered
within room (got ms) = pick (leb (length ms) room) (matched ms) (refused more_matches 0 (length ms))
within room (no n p) = refused n p 0

-- What a query answers: the number of matches.
abbrev pub count_of : Answered → Count
count_of (matched ms) = counted (length ms)
count_of (refused n p c) = failed n p c

-- The list after a query: the matches from 0 on and the rest as it was; after a refusal unchanged.
abbrev pub list_after : Answered → List ℕ → List ℕ
list_after (matched ms) l = over l 0 ms
list_after (refused n p c) l = l

-- The answer and the list are those of a.
pub record Finds (a : Answered) (l : List ℕ) (answer : Count) (l' : List ℕ) : Type 0 where
  pub answer_is : answer ≡ count_of a
  pub list_is : l' ≡ list_after a l

-- The promise of a query: a limit first (9), then whether the words form a table (10), then what asking it gives.
pub record QueryIs (form : Form) (doc t q l : List ℕ) (answer : Count) (l' : List ℕ) : Type 0 where
  pub large : (Within (length doc) t → ⊥) → Finds (refused over_limit 0 0) l answer l'
  pub unfit : Within (length doc) t → (IsTable (length doc) t → ⊥) → Finds (refused no_table 0 0) l answer l'
  pub fit : Within (length doc) t → (i : IsTable (length doc) t) → Finds (within (length l) (asked form doc q i.head i.inner)) l answer l'
