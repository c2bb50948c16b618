-- The answer of rule 7's check is determined: its promise allows one for each document's length and words. It is document 01's.
-- Assumes nothing.
use Prim.Native.Nat.{ℕ}
use mathlib.Core.Path.{◌≡◌, refl}
use mathlib.Core.List.{List}
use Rattle.std.specs.Prelude.{Result, Ok, Err}
use Rattle.table.specs.declared.Unfit.{Unfit}
use Rattle.table.specs.declared.Unfit.TheVariants.{OverLimit, NoTable}
use Rattle.table.specs.Check.{VerdictIs, verdict_out, Answers}

-- Two answers to one question are the same.
pub one-verdict : (d : ℕ) (t : List ℕ) (r s : Result (Unit {0}) Unfit) → VerdictIs d t r → VerdictIs d t s → r ≡ s
one-verdict d t (Ok _) (Ok _) p q = refl
one-verdict d t (Ok _) (Err NoTable) p q = absurd (q.1 p.1)
one-verdict d t (Ok _) (Err OverLimit) p q = absurd (q p.0)
one-verdict d t (Err NoTable) (Ok _) p q = absurd (p.1 q.1)
one-verdict d t (Err NoTable) (Err NoTable) p q = refl
one-verdict d t (Err NoTable) (Err OverLimit) p q = absurd (q p.0)
one-verdict d t (Err OverLimit) (Ok _) p q = absurd (p q.0)
one-verdict d t (Err OverLimit) (Err NoTable) p q = absurd (p q.0)
one-verdict d t (Err OverLimit) (Err OverLimit) p q = refl

-- Each case is document 01's answer.
answers : (d : ℕ) (t : List ℕ) (r : Result (Unit {0}) Unfit) → VerdictIs d t r → Answers d t (verdict_out r)
answers d t (Ok _) p = record { large = λ n. absurd (n p.0); unfit = λ w n. absurd (n p.1); fit = λ w i. refl }
answers d t (Err NoTable) p = record { large = λ n. absurd (n p.0); unfit = λ w n. refl; fit = λ w i. absurd (p.1 i) }
answers d t (Err OverLimit) p = record { large = λ n. refl; unfit = λ w n. absurd (p w); fit = λ w i. absurd (p w) }

pub verdict-is : (d : ℕ) (t : List ℕ) (r : Result (Unit {0}) Unfit) → VerdictIs d t r → VerdictIs d t r × Answers d t (verdict_out r)
verdict-is d t r p = (p, answers d t r p)
