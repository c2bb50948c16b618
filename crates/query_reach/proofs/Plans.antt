-- A query laid out as words: the steps put one after another, the two sets put before them, and what the walk may then rely on.
-- Assumes nothing.
use Prim.Native.Nat.{ℕ, zero, suc, ◌+◌, ◌-◌, ◌*◌, ◌≤◌, ◌<◌}
use mathlib.Core.Path.{◌≡◌, refl, sym, ap, ap₂, subst, ◌∙◌}
use mathlib.Core.Logic.{◌⊎◌, inl, inr}
use mathlib.Core.List.{List, ◌∷◌}
use mathlib.Core.Bool.{false, ◌&&◌}
use native.Mathlib.Omega.{arith}
use native.Mathlib.Decide.{ℕ_discrete}
use lib.ListN.{length, get_or, set, length-set}
use lib.Seq.{get_or-set_same, get_or-set_other}
use lib.Dec.{leb}
use borrow.Author.Tests.{le-leb, lt-leb}
use Rattle.form.specs.Paths.{Step}
use Rattle.query_steps.specs.Steps.{step_of, no_step, span, step_no, steps_from, NameIn, QueryIn}
use Rattle.query_steps.specs.declared.Step.{Step as StepWords}
use Rattle.query_steps.specs.declared.Query.{Query}
use Rattle.query_reach.specs.Reached.{last_of}
use Rattle.query_reach.specs.Sets.{has, Bits}
use Rattle.query_reach.specs.Plans.{words_of, planned, kind_in, Put, Laid, PlanIn}

-- ---- between two bounds

-- A word below the lower bound, and one from it on.
module _ (x low high : ℕ) where
  pub below : x < low → false ≡ (leb low x && leb x high)
  below lt = rw (lt-leb low x lt)

  pub from_low : low ≤ x → leb x high ≡ (leb low x && leb x high)
  from_low le = rw (le-leb low x le)

-- ---- one step

-- The words of step k, where none from there on has changed.
words-stay : (plan plan' : List ℕ) (k : ℕ) → ((j : ℕ) → 3 * k ≤ j → get_or plan' j 0 ≡ get_or plan j 0) → words_of plan' k ≡ words_of plan k
words-stay plan plan' k h = λ i. record {
  kind = h (3 * k) (omega arith) i;
  at = h (3 * k + 1) (omega arith) i;
  len = h (3 * k + 2) (omega arith) i;
}

-- Three words put at a place.
abbrev pub put : List ℕ → ℕ → StepWords → List ℕ
put plan at t = set (set (set plan at t.kind) (at + 1) t.at) (at + 2) t.len

module _ (plan : List ℕ) (at : ℕ) (t : StepWords) where
  abbrev one : List ℕ
  one = set plan at t.kind

  abbrev two : List ℕ
  two = set one (at + 1) t.at

  put-length : length (put plan at t) ≡ length plan
  put-length = length-set two (at + 2) t.len ∙ length-set one (at + 1) t.at ∙ length-set plan at t.kind

  -- The others stay.
  put-off : (j : ℕ) → (j ≡ at → ⊥) → (j ≡ at + 1 → ⊥) → (j ≡ at + 2 → ⊥) → get_or (put plan at t) j 0 ≡ get_or plan j 0
  put-off j a b c = get_or-set_other two (at + 2) j t.len 0 c ∙ get_or-set_other one (at + 1) j t.at 0 b ∙ get_or-set_other plan at j t.kind 0 a

  put_other : (j : ℕ) → (j < at) ⊎ (at + 3 ≤ j) → get_or (put plan at t) j 0 ≡ get_or plan j 0
  put_other j (inl lt) = put-off j (λ e. omega arith) (λ e. omega arith) (λ e. omega arith)
  put_other j (inr le) = put-off j (λ e. omega arith) (λ e. omega arith) (λ e. omega arith)

  -- These three are as they were put.
  module _ (room : at + 3 ≤ length plan) where
    put-kind : get_or (put plan at t) at 0 ≡ t.kind
    put-kind =
        get_or-set_other two (at + 2) at t.len 0 (λ e. omega arith)
        ∙ get_or-set_other one (at + 1) at t.at 0 (λ e. omega arith)
        ∙ get_or-set_same plan at t.kind 0 (omega arith)

    put-at : get_or (put plan at t) (at + 1) 0 ≡ t.at
    put-at =
        let long = length-set plan at t.kind in
        get_or-set_other two (at + 2) (at + 1) t.len 0 (λ e. omega arith) ∙ get_or-set_same one (at + 1) t.at 0 (omega arith)

    put-len : get_or (put plan at t) (at + 2) 0 ≡ t.len
    put-len =
        let long = length-set plan at t.kind in
        let longer = length-set one (at + 1) t.at in
        get_or-set_same two (at + 2) t.len 0 (omega arith)

-- The words of step k put: they are the step's, and those of the steps after it in the plan stay.
module _ (plan : List ℕ) (k : ℕ) (t : StepWords) where
  put-own : 3 * k + 3 ≤ length plan → words_of (put plan (3 * k) t) k ≡ t
  put-own room = λ i. record { kind = put-kind plan (3 * k) t room i; at = put-at plan (3 * k) t room i; len = put-len plan (3 * k) t room i }

  put-later : (m : ℕ) → k < m → words_of (put plan (3 * k) t) m ≡ words_of plan m
  put-later m lt = words-stay plan (put plan (3 * k) t) m (λ j le. put_other plan (3 * k) t j (inr (omega arith)))

-- ---- the loop

-- What it keeps: the steps before s stand, and the words that are no step's are as they were.
pub record Putting (query : Query) (plan plan' : List ℕ) (s : ℕ) : Type 0 where
  pub few : query.count ≤ 16
  pub room : length plan ≡ 51
  pub long : length plan' ≡ length plan
  pub steps : (k : ℕ) → k < s → words_of plan' (query.count - k) ≡ get_or query.steps k no_step
  pub rest : (j : ℕ) → (j < 3) ⊎ (3 * query.count + 3 ≤ j) → get_or plan' j 0 ≡ get_or plan j 0

-- It begins.
pub putting-start : (query : Query) (plan : List ℕ) → query.count ≤ 16 → length plan ≡ 51 → Putting query plan plan 0
putting-start query plan few room = record { few = few; room = room; long = refl; steps = λ k lt. absurd (omega arith); rest = λ j o. refl }

module _ {query : Query} {plan plan' : List ℕ} {s : ℕ} (v : Putting query plan plan' s) where
  -- It goes on.
  pub putting-next : s < query.count → Putting query plan (put plan' (3 * (query.count - s)) (get_or query.steps s no_step)) (s + 1)
  putting-next lt = record {
    few = v.few;
    room = v.room;
    long = put-length plan' place t ∙ v.long;
    steps = λ k l. steps k l (ℕ_discrete k s);
    rest = λ j o. put_other plan' place t j (off j o) ∙ v.rest j o;
  }
    where
      t : StepWords
      t = get_or query.steps s no_step

      place : ℕ
      place = 3 * (query.count - s)

      off : (j : ℕ) → (j < 3) ⊎ (3 * query.count + 3 ≤ j) → (j < place) ⊎ (place + 3 ≤ j)
      off j (inl x) = inl (omega arith)
      off j (inr x) = inr (omega arith)

      steps : (k : ℕ) → k < s + 1 → Dec (k ≡ s) → words_of (put plan' place t) (query.count - k) ≡ get_or query.steps k no_step
      steps k l (yes e) = rw e (put-own plan' (query.count - s) t (omega arith))
      steps k l (no e) = put-later plan' (query.count - s) t (query.count - k) (omega arith) ∙ v.steps k (omega arith)

  -- It ends.
  pub putting-end : query.count ≤ s → Put query plan plan'
  putting-end le = record { long = v.long; steps = λ k lt. v.steps k (omega arith); rest = v.rest }

-- ---- the two sets

-- Two sets put in the place of step 0.
abbrev pub marked : List ℕ → ℕ → ℕ → List ℕ
marked plan deeps asks = set (set plan 0 deeps) 1 asks

module _ (plan : List ℕ) (deeps asks : ℕ) where
  -- The words from the third on stay, and so do the steps.
  marked_other : (j : ℕ) → 2 ≤ j → get_or (marked plan deeps asks) j 0 ≡ get_or plan j 0
  marked_other j le = get_or-set_other (set plan 0 deeps) 1 j asks 0 (λ e. omega arith) ∙ get_or-set_other plan 0 j deeps 0 (λ e. omega arith)

  marked-words : (k : ℕ) → 0 < k → words_of (marked plan deeps asks) k ≡ words_of plan k
  marked-words k lt = words-stay plan (marked plan deeps asks) k (λ j le. marked_other j (omega arith))

  -- The set of the steps of some kinds is the same in both plans.
  marked-bits : (n low high : ℕ) {a r : ℕ} → r ≡ a → Bits (kind_in plan n low high) a → Bits (kind_in (marked plan deeps asks) n low high) r
  marked-bits n low high e b = record { is = λ k. ap (λ (x : ℕ). has x k) e ∙ b.is k ∙ same k }
    where
      same : (k : ℕ) → kind_in plan n low high k ≡ kind_in (marked plan deeps asks) n low high k
      same zero = refl
      same (suc k) = ap (λ (t : StepWords). leb (suc k) n && (leb low t.kind && leb t.kind high)) (sym (marked-words (suc k) (omega arith)))

-- The steps put, and their two sets: the query is laid.
pub laid : {query : Query} {plan plan' : List ℕ} {deeps asks : ℕ} → length plan ≡ 51 → Put query plan plan'
    → Bits (kind_in plan' query.count 4 4) deeps → Bits (kind_in plan' query.count 1 2) asks → Laid query plan (marked plan' deeps asks)
laid {query} {plan} {plan'} {deeps} {asks} room p d a = record {
  long = length-set one_set 1 asks ∙ length-set plan' 0 deeps ∙ p.long;
  steps = λ k lt. marked-words plan' deeps asks (query.count - k) (omega arith) ∙ p.steps k lt;
  marked = record {
    deeps = marked-bits plan' deeps asks query.count 4 4 deeps-in d;
    asks = marked-bits plan' deeps asks query.count 1 2 asks-in a;
  };
  rest = rest;
}
  where
    one_set : List ℕ
    one_set = set plan' 0 deeps

    deeps-in : get_or (marked plan' deeps asks) 0 0 ≡ deeps
    deeps-in =
        let long = p.long in
        get_or-set_other one_set 1 0 asks 0 (λ e. omega arith) ∙ get_or-set_same plan' 0 deeps 0 (omega arith)

    asks-in : get_or (marked plan' deeps asks) 1 0 ≡ asks
    asks-in =
        let long = p.long in
        let longer = length-set plan' 0 deeps in
        get_or-set_same one_set 1 asks 0 (omega arith)

    rest : (j : ℕ) → (j ≡ 2) ⊎ (3 * query.count + 3 ≤ j) → get_or (marked plan' deeps asks) j 0 ≡ get_or plan j 0
    rest j (inl e) = marked_other plan' deeps asks j (omega arith) ∙ p.rest j (inl (omega arith))
    rest j (inr le) = marked_other plan' deeps asks j (omega arith) ∙ p.rest j (inr le)

-- ---- what the walk may rely on

-- The last n of so many steps: g tells them by how many are left, f by how many came before.
last-span : (f g : ℕ → Step) (count n : ℕ) → n ≤ count → ((k : ℕ) → k < n → g (suc k) ≡ f (count - suc k)) → last_of g n ≡ span f (count - n) n
unfolding last_of span
last-span f g count zero le h = refl
last-span f g count (suc n) le h =
    let a : suc (count - suc n) ≡ count - n = omega arith in
    rw a (ap₂ ◌∷◌ (h n (omega arith)) (last-span f g count n (omega arith) (λ k lt. h k (omega arith))))

module _ {query : Query} {plan plan' : List ℕ} (v : Laid query plan plan') (q : List ℕ) where
  -- A step of the plan is the query's that has as many left.
  laid-step : (k : ℕ) → k < query.count → words_of plan' (suc k) ≡ get_or query.steps (query.count - suc k) no_step
  laid-step k lt =
      let a : query.count - (query.count - suc k) ≡ suc k = omega arith in
      subst (λ (m : ℕ). words_of plan' m ≡ get_or query.steps (query.count - suc k) no_step) a (v.steps (query.count - suc k) (omega arith))

  -- The names lie in the query's bytes, and the steps are the query's.
  pub laid_in_lem : QueryIn q query → PlanIn q plan' query.count
  laid_in_lem i = record {
    few = i.few;
    names = λ k lt. subst (NameIn q) (sym (laid-step k lt)) (i.names (query.count - suc k) (omega arith));
    marked = v.marked;
  }

  pub laid-steps : last_of (planned q plan') query.count ≡ steps_from q query 0
  laid-steps =
      let a : query.count - 0 ≡ query.count = omega arith in
      let b : query.count - query.count ≡ 0 = omega arith in
      rw a (rw b at (last-span (step_no q query) (planned q plan') query.count query.count (omega arith) (λ k lt. ap (step_of q) (laid-step k lt))))
