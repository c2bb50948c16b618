-- Those counted and those still to come are all.
-- Assumes nothing.
use Rattle.std.proofs.Common.{◌≡◌, ◌+◌, drop}
use Rattle.table_store.specs.Steps.{feeds}
use Rattle.table_store.proofs.count_feeds.Given as goal

abbrev pub invariant-loop-b : goal.invariant-loop-b
invariant-loop-b l = l.n + feeds (drop l.b-index l.lines) ≡ feeds l.lines
