-- The bytes up to i are plain.
-- Assumes nothing.
use Rattle.plain.specs.Runs.{Plain}
use Rattle.plain.proofs.plain_from.Given as goal

abbrev pub invariant-loop-i : goal.invariant-loop-i
invariant-loop-i l = Plain l.p l.q l.text l.at l.i
