-- What the contracts of this crate cite: each enum of the code as the definitions' answer, and the records that stand in a table.
-- Assumes nothing.
use Rattle.std.specs.Prelude.{ℕ, ◌+◌, ◌*◌, ◌≤◌, ◌≡◌, List, Bool, Result, Ok, Err, length}
use Rattle.form.specs.Form.{Way}
use Rattle.form.specs.Answer.{Out, got, no}
use Rattle.form.specs.Table.{Head, Forest, none, node, size, word}
use Rattle.form.specs.Tables.{Fair, Within}
use Rattle.form.specs.Writing.{judged}
use Rattle.form.specs.Records.{Sits, Under}
use Rattle.form.specs.Refusals.{number_of}
use Rattle.form.specs.declared.refusals.Refused.{Refused}
use Rattle.nbt_judging.specs.Pieces.{one_judged, laid}

-- 01's number and place where a record is refused
abbrev pub fine_out : Result (Unit {0}) Refused → Out (Unit {0})
fine_out (Ok u) = got tt
fine_out (Err e) = no (number_of e.refusal) e.place

-- record n stands in the table, and its spans in the document
pub record Placed (doc t : List ℕ) (n : ℕ) : Type 0 where
  pub room : 9 * n + 9 ≤ length t
  pub name : word t n 1 + word t n 2 ≤ length doc
  pub body : word t n 3 + word t n 4 ≤ length doc

-- the records f stand in the table, fair, from record n up to `end`
pub record Rows (doc t : List ℕ) (list : Bool) (n end : ℕ) (f : Forest) : Type 0 where
  pub sits : Sits t n f
  pub parent : ℕ
  pub under : Under t parent n f
  pub fair : Fair (length doc) list f
  pub to : end ≡ n + size f
  pub fits : 9 * end ≤ length t

-- some records stand there
pub record Some (doc t : List ℕ) (list : Bool) (n end : ℕ) : Type 0 where
  pub small : Within (length doc) t
  pub forest : Forest
  pub rows : Rows doc t list n end forest

-- one record stands there, with those in it
pub record One (doc t : List ℕ) (list : Bool) (n end : ℕ) : Type 0 where
  pub small : Within (length doc) t
  pub head : Head
  pub inner : Forest
  pub rows : Rows doc t list n end (node head inner none)

-- the bytes bs, or the refusal, that records whose judgement is o give
abbrev pub Sized : Out (Unit {0}) → List ℕ → Result ℕ Refused → Type 0
Sized o bs (Ok n) = (o ≡ got tt) × (n ≡ length bs)
Sized o bs (Err e) = o ≡ no (number_of e.refusal) e.place

-- what judging the records from n up to `end` answers, whichever stand there; the table is as it was
abbrev pub JudgedIs : Way → List ℕ → List ℕ → ℕ → Bool → ℕ → ℕ → ℕ → Result ℕ Refused → List ℕ → Type 0
JudgedIs way doc t left list k n end r t' =
    ((p : Some doc t list n end) → Sized (judged way doc left list k none n p.forest) (laid way doc list p.forest) r) × (t' ≡ t)

-- and what judging one record answers, with those in it
abbrev pub OneJudgedIs : Way → List ℕ → List ℕ → ℕ → Bool → ℕ → Bool → ℕ → ℕ → Result ℕ Refused → List ℕ → Type 0
OneJudgedIs way doc t left list k twice n end r t' =
    ((p : One doc t list n end) → Sized (one_judged way doc left list k twice n p.head p.inner) (laid way doc list (node p.head p.inner none)) r) × (t' ≡ t)
