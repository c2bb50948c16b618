-- The three stores are a run of stores.
-- Assumes nothing.
use Rattle.nbt_gather.proofs.Asked.{line-put}
use Rattle.nbt_gather.proofs.put_line.Goals as goal

pub returns : goal.returns
returns c = let a = c.args in line-put a.lines.now a.level a.n a.promised a.kept c.requires.0
