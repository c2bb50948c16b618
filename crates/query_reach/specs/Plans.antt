-- Rule 9's steps, sixteen at the most, as words, three for each; and what it is for a set to be that of a path.
-- Assumes nothing.
use Rattle.std.specs.Prelude.{ℕ, zero, suc, ◌+◌, ◌-◌, ◌*◌, ◌≤◌, ◌<◌, ◌≡◌, ◌⊎◌, List, Bool, true, false, ◌&&◌, length, get_or, leb}
use Rattle.form.specs.Answer.{step_limit}
use Rattle.form.specs.Spans.{among}
use Rattle.form.specs.Paths.{Hop, Step}
use Rattle.query_steps.specs.Steps.{step_of, no_step, NameIn}
use Rattle.query_steps.specs.declared.Step.{Step as StepWords}
use Rattle.query_steps.specs.declared.Query.{Query}
use Rattle.query_reach.specs.Reached.{reached, last_of}
use Rattle.query_reach.specs.Sets.{has, Bits}

-- The words of step k, at three times its number.
abbrev pub words_of : List ℕ → ℕ → StepWords
words_of plan k = record { kind = get_or plan (3 * k) 0; at = get_or plan (3 * k + 1) 0; len = get_or plan (3 * k + 2) 0 }

-- Step k, q being the query's bytes.
abbrev pub planned : List ℕ → List ℕ → ℕ → Step
planned q plan k = step_of q (words_of plan k)

-- Whether k is the number of a step, of n steps, whose kind lies between two.
abbrev pub kind_in : List ℕ → ℕ → ℕ → ℕ → ℕ → Bool
kind_in plan n low high zero = false
kind_in plan n low high (suc k) =
    leb (suc k) n && (leb low (words_of plan (suc k)).kind && leb (words_of plan (suc k)).kind high)

-- The two sets that stand in the place of step 0: the steps that are 04, and those that are asked whether they take a hop, 01 and 02.
pub record Marked (plan : List ℕ) (n : ℕ) : Type 0 where
  pub deeps : Bits (kind_in plan n 4 4) (get_or plan 0 0)
  pub asks : Bits (kind_in plan n 1 2) (get_or plan 1 0)

-- The words of a query's steps put over those that stood there.
pub record Put (query : Query) (plan plan' : List ℕ) : Type 0 where
  pub long : length plan' ≡ length plan
  pub steps : (k : ℕ) → k < query.count → words_of plan' (query.count - k) ≡ get_or query.steps k no_step
  pub rest : (j : ℕ) → (j < 3) ⊎ (3 * query.count + 3 ≤ j) → get_or plan' j 0 ≡ get_or plan j 0

-- The same with the two sets: every word is said.
pub record Laid (query : Query) (plan plan' : List ℕ) : Type 0 where
  pub long : length plan' ≡ length plan
  pub steps : (k : ℕ) → k < query.count → words_of plan' (query.count - k) ≡ get_or query.steps k no_step
  pub marked : Marked plan' query.count
  pub rest : (j : ℕ) → (j ≡ 2) ⊎ (3 * query.count + 3 ≤ j) → get_or plan' j 0 ≡ get_or plan j 0

-- The words of n steps that the walk may rely on.
pub record PlanIn (q plan : List ℕ) (n : ℕ) : Type 0 where
  pub few : n ≤ step_limit
  pub names : (k : ℕ) → k < n → NameIn q (words_of plan (suc k))
  pub marked : Marked plan n

-- A set of steps, of n; the end is not in it.
abbrev pub StepsOf : ℕ → ℕ → Type 0
StepsOf n set = (k : ℕ) → has set k ≡ true → (0 < k) × (k ≤ n)

-- The set of the steps, of n, that may come next after the path p.
pub record Reaches (q plan : List ℕ) (n : ℕ) (p : List Hop) (set : ℕ) : Type 0 where
  pub plan_in : PlanIn q plan n
  pub is : Bits (among (reached (last_of (planned q plan) n) p)) set
