-- `snbt_keys::add` meets its contract: the second run has one key more, and where it is full it is merged into the first.
-- Assumes nothing.
use borrow.Author.Rules.{rules}
use native.Mathlib.Omega.{arith}
use Rattle.snbt_keys.proofs.Runs.{joint-near, added-stays}
use Rattle.snbt_keys.proofs.Merges.{full-whole, full-merged}
use Rattle.snbt_keys.proofs.add.Statement.{statement}
use Rattle.snbt_keys.proofs.add.Tie as tie

pub add_spec : {M : Type 1} → statement M
add_spec =
    tie.close
    (tie.spec
    (λ c κs. search rules)
    (λ c κs. search rules)
    (λ c. search rules)
    (λ c κs. (full-whole c.requires _ c.put_in.ensures c.joint-mid.ensures (omega arith), omega arith))
    (λ c. search rules)
    (λ c. (
      full-merged c.requires _ c.put_in.ensures c.joint-mid.ensures (omega arith) _ _ c.merge.ensures c.merge.auto.keys,
      λ h. absurd (h (omega (arith, c.joint-mid.ensures))),
    ))
    (λ c. search rules)
    (λ c.
    let k = c.requires.kept in
    let near = joint-near c.args.base c.args.top (omega (arith, k.first.low, k.second.low)) in (
      added-stays c.requires _ c.put_in.ensures (omega (arith, k.first.low, k.second.low, c.joint-mid.ensures, near)),
      λ h. c.put_in.ensures,
    )))
