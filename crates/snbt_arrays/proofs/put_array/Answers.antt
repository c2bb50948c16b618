-- `put_array` meets its contract: each turn keeps what stands in the output, and the closing brace writes the count.
-- Assumes nothing.
use Rattle.std.proofs.lemmas.Result.{err_from_is_err_and}
use Rattle.snbt_arrays.proofs.Gathers.{gather-start, gather-comma, gather-element, gather-end, gather-no}
use Rattle.snbt_arrays.proofs.put_array.Goals as goal

pub loop-index-init : goal.loop-index-init
loop-index-init c = let a = c.args in gather-start a.text.now a.out.now a.width a.brace.0 a.start a.at c.requires.0 c.requires.2

pub returns-in_err-index-clause-is : goal.returns-in_err-index-clause-is
returns-in_err-index-clause-is c =
    let p = err_from_is_err_and c.from_residual.result c.from_residual.ensures.1 in
    rw (p.1, p.2) (gather-no c.loop-index.invariant c.in_err-index.ensures)

pub loop-index-preserved-in-Comma : goal.loop-index-preserved-in-Comma
loop-index-preserved-in-Comma c = gather-comma c.loop-index.invariant (rw c.in-Comma.is at c.in_ok-index.ensures)

pub loop-index-preserved : goal.loop-index-preserved
loop-index-preserved c = gather-element c.loop-index.invariant c.requires.1 (rw c.in-Element.is at c.in_ok-index.ensures)

pub returns-in-End-clause-is : goal.returns-in-End-clause-is
returns-in-End-clause-is c = gather-end c.loop-index.invariant c.requires.1 (rw c.in-End.is at c.in_ok-index.ensures) c.array_kind-kind.ensures c.put_number.ensures
