-- Right since the front of the table is filled.
-- Assumes nothing.
use Rattle.std.proofs.Common.{◌≡◌, length, take, replicate, rules}
use Rattle.lines.proofs.Buffers.{filled-front}
use Rattle.lines.proofs.untouched.Goals as goal

pub returns : goal.returns
returns c =
    let put : c.fill.new.self ≡ replicate (length (take c.min-end.result c.args.table.now)) 2863311530 = search rules in
    filled-front _ _ _ _ _ c.min-end.ensures put
