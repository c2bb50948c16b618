-- A refusal clears the output.
-- Assumes nothing.
use Rattle.std.proofs.Common.{◌∙◌, ap}
use lib.ListN.{replicate}
use Rattle.snbt.proofs.Tops.{parse-refused, parse-read}
use Rattle.snbt.proofs.parse.Goals as goal

pub returns-in-Ok : goal.returns-in-Ok
returns-in-Ok c = parse-read c.args.text.now c.args.out.now _ _ _ c.in-Ok.ensures

pub returns-in-Err : goal.returns-in-Err
returns-in-Err c = parse-refused c.args.text.now c.args.out.now _ _ _ c.in-Err.ensures (c.clear.ensures ∙ ap (λ n. replicate n 0) c.judged.auto.out)
