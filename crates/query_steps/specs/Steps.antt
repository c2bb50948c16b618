-- What the query taken apart stands for: the steps of rule 9 that its structs are, and that their names lie in the query's bytes.
-- Assumes nothing.
use Rattle.std.specs.Prelude.{ℕ, zero, suc, ◌+◌, ◌-◌, ◌≤◌, ◌<◌, ◌≡◌, List, [], ◌∷◌, length, get_or, eqb}
use Rattle.form.specs.Answer.{pick, step_limit}
use Rattle.form.specs.Spans.{part}
use Rattle.form.specs.Paths.{Step, name, index, any, deep}
use Rattle.query_steps.specs.declared.Step.{Step as StepWords}
use Rattle.query_steps.specs.declared.Query.{Query}

-- The step that a struct is, q being the query's bytes: 04, 01, 02 or 03.
unfoldable pub step_of : List ℕ → StepWords → Step
step_of q t =
    pick (eqb t.kind 4) deep
    (pick (eqb t.kind 1) (name (part q t.at t.len))
    (pick (eqb t.kind 2) (index t.at) any))

-- No step.
abbrev pub no_step : StepWords
no_step = record { kind = 0; at = 0; len = 0 }

-- f k, f (k + 1), …: n of them.
unfoldable pub span : {A : Type 0} → (ℕ → A) → ℕ → ℕ → List A
span f k zero = []
span f k (suc n) = f k ∷ span f (suc k) n

-- Step k of a query.
abbrev pub step_no : List ℕ → Query → ℕ → Step
step_no q query k = step_of q (get_or query.steps k no_step)

-- The steps left from step s on.
abbrev pub steps_from : List ℕ → Query → ℕ → List Step
steps_from q query s = span (step_no q query) s (query.count - s)

-- A step's name lies in the query's bytes.
abbrev pub NameIn : List ℕ → StepWords → Type 0
NameIn q t = t.kind ≡ 1 → t.at + t.len ≤ length q

-- A query that the matcher may rely on.
pub record QueryIn (q : List ℕ) (query : Query) : Type 0 where
  pub few : query.count ≤ step_limit
  pub names : (k : ℕ) → k < query.count → NameIn q (get_or query.steps k no_step)
