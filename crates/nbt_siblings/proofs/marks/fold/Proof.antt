-- `fold` meets its contract.
-- Assumes nothing.
use native.Mathlib.Omega.{arith}
use Prim.Native.Nat.{◌+◌, ◌/◌, ◌%◌}
use Rattle.nbt_siblings.proofs.Bytes.{product-below}
use borrow.Author.Rules.{rules}
use Rattle.nbt_siblings.proofs.marks.fold.Statement.{statement}
use Rattle.nbt_siblings.proofs.marks.fold.Tie as tie

mul-result : tie.Need-overflow_mul-result
mul-result c =
    omega (arith, product-below ((c.args.x / 4294967296 + c.args.x % 4294967296) % 4294967296) c.args.k (omega arith) c.requires)

pub fold_spec : {M : Type 1} → statement M
fold_spec = tie.close (tie.spec (λ c. search rules) mul-result (λ c. search rules))
