-- `settle` meets its contract: the id is written, the key put among the others, then what follows.
-- Assumes nothing.
use Rattle.std.proofs.Common.{arith}
use Rattle.slices.proofs.Copies.{set-over-one}
use Rattle.snbt_entries.proofs.settle.Goals as goal

pub add-requires : goal.add-requires
add-requires c = rw (set-over-one c.args.out.now c.args.at c.args.kind (omega (arith, c.requires.1))) c.requires.3

pub returns-in_err-index-clause-wrote : goal.returns-in_err-index-clause-wrote
returns-in_err-index-clause-wrote c = set-over-one c.args.out.now c.args.at c.args.kind (omega (arith, c.requires.1))

pub returns-in-Comma-clause-wrote : goal.returns-in-Comma-clause-wrote
returns-in-Comma-clause-wrote c = set-over-one c.args.out.now c.args.at c.args.kind (omega (arith, c.requires.1))

pub returns-in-Close-clause-wrote : goal.returns-in-Close-clause-wrote
returns-in-Close-clause-wrote c = set-over-one c.args.out.now c.args.at c.args.kind (omega (arith, c.requires.1))
