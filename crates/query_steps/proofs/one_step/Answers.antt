-- `query_steps::one_step` meets its contract: the definition goes by the first byte, as the code does.
-- Assumes nothing.
use Rattle.std.proofs.Common.{arith}
use Rattle.query_steps.proofs.Spelling.{kind_is, any-or-deep, none_is}
use Rattle.query_steps.proofs.one_step.Goals as goal

pub returns-in-1 : goal.returns-in-1
returns-in-1 c = kind_is _ _ _ c.requires.0 1 c.name_step.result c.in-1.is c.name_step.ensures

pub returns-in-2 : goal.returns-in-2
returns-in-2 c = kind_is _ _ _ c.requires.0 2 c.index_step.result c.in-2.is (c.index_step.ensures _)

pub returns-in-3 : goal.returns-in-3
returns-in-3 c = any-or-deep _ _ _ c.requires.0 (omega arith) (omega arith)

pub returns-in_default : goal.returns-in_default
returns-in_default c = none_is _ _ _ c.requires.0 (λ e. omega arith) (λ e. omega arith) (λ e. omega arith) (λ e. omega arith)

pub returns-in_default-2 : goal.returns-in_default-2
returns-in_default-2 c = none_is _ _ _ c.requires.0 (λ e. omega arith) (λ e. omega arith) (λ e. omega arith) (λ e. omega arith)
