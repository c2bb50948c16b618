-- `table_store::digit_of` meets its contract: the byte lies in one of five ranges.
-- Assumes nothing.
use Rattle.std.proofs.Common.{sym, arith}
use Rattle.form.proofs.Stored.{below-digits, decimal_digit, below-letters, letter-digit, above-digits}
use Rattle.table_store.proofs.digit_of.Goals as goal

pub returns-in-48-to-57 : goal.returns-in-48-to-57
returns-in-48-to-57 c = sym (decimal_digit c.args.b (omega arith) (omega arith))

pub returns-in-97-to-102 : goal.returns-in-97-to-102
returns-in-97-to-102 c = sym (letter-digit c.args.b (omega arith) (omega arith))

pub returns-in_default : goal.returns-in_default
returns-in_default c = sym (below-digits c.args.b (omega arith))

pub returns-in_default-2 : goal.returns-in_default-2
returns-in_default-2 c = sym (below-letters c.args.b (omega arith) (omega arith))

pub returns-in_default-3 : goal.returns-in_default-3
returns-in_default-3 c = sym (above-digits c.args.b (omega arith))
