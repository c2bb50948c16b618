-- The bytes before the two at hand are the same.
use Rattle.nbt_siblings.proofs.Numbers.{Level}
use Rattle.nbt_siblings.proofs.names.order_rest.Given as goal

abbrev pub invariant-loop-i : goal.invariant-loop-i
invariant-loop-i l = Level l.doc l.a l.b l.n l.i
