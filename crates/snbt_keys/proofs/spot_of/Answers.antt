-- `snbt_keys::spot_of` meets its contract: a key is in the first run, or in the second, or belongs in the second.
-- Assumes nothing.
use Rattle.std.proofs.Common.{take}
use Rattle.snbt_keys.proofs.Runs.{taken-first, spot-second}
use Rattle.snbt_keys.proofs.spot_of.Goals as goal

pub returns-in_err-halve : goal.returns-in_err-halve
returns-in_err-halve c =
    let s = take c.args.size c.args.key.now in
    rw c.from_residual.ensures (taken-first c.requires.0 s (rw c.joint-mid.ensures at c.in_err-halve.ensures))

pub returns : goal.returns
returns c =
    let s = take c.args.size c.args.key.now in
    let f = rw c.joint-mid.ensures at c.in_ok-halve.ensures in
    spot-second c.requires.0 s c.halve-2.result f.new (rw c.joint-mid.ensures at c.halve-2.ensures)
