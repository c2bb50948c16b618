-- Right since nothing but 0 among k bytes says that those k are plain.
-- Assumes nothing.
use Rattle.std.proofs.Common.{◌≡◌, sym, ap, arith}
use mathlib.Core.Path.{◌∙◌}
use Rattle.plain.specs.Runs.{mark}
use Rattle.plain.proofs.Plains.{marked, told, none_in, more-in}
use Rattle.plain.proofs.all_plain.Goals as goal

pub loop-k-init : goal.loop-k-init
loop-k-init c = none_in _ _ _ _

pub loop-k-preserved : goal.loop-k-preserved
loop-k-preserved c =
    marked _ _ c.loop-k.top c.unplain.result c.raise-top.result c.loop-k.invariant c.unplain.ensures c.raise-top.ensures
    ∙ ap mark (sym (more-in _ _ _ _ c.loop-k.k))

pub returns : goal.returns
returns c =
    let all : c.loop-k.k ≡ c.args.n = omega arith in
    told _ _ (rw (all) at c.loop-k.invariant)
