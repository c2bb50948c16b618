-- Right since each turn goes from an edge to an edge over bytes that fit.
-- Assumes nothing.
use Rattle.std.proofs.Common.{arith}
use Rattle.mutf8.proofs.Alike.{passed_none, passed-join, fitting-passed}
use Rattle.mutf8.proofs.blocks.blocks.Goals as goal

pub loop-init : goal.loop-init
loop-init c = record { within = c.requires.1; edge = c.requires.0; passed = passed_none _ _ c.requires.1 }

pub all_fit-requires : goal.all_fit-requires
all_fit-requires c = (c.loop.invariant.edge.behind, omega arith)

pub loop-preserved : goal.loop-preserved
loop-preserved c =
    let v = c.loop.invariant in
    let w = c.whole-next.ensures in
    let edge = c.is_edge.ensures c.if-not-is_edge.false in
    let fit = c.all_fit.ensures c.if-not-all_fit.false in
    record {
      within = omega (arith, w);
      edge = edge;
      passed = passed-join _ _ _ _ v.passed (fitting-passed _ _ _ _ (omega (arith, w)) w.0 (omega arith) fit v.edge edge);
    }
