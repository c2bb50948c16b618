-- `table_store::value_of` meets its contract: a digit is in one of two ranges.
-- Assumes nothing.
use Rattle.std.proofs.Common.{sym, arith}
use Rattle.form.proofs.Stored.{decimal_digit, letter-digit}
use Rattle.table_store.proofs.Reading.{low-range, high-range}
use Rattle.table_store.proofs.value_of.Goals as goal

pub overflow_sub-result : goal.overflow_sub-result
overflow_sub-result c = low-range c.args.b c.requires (omega arith)

pub overflow_sub-result-else-b-le57 : goal.overflow_sub-result-else-b-le57
overflow_sub-result-else-b-le57 c = (high-range c.args.b c.requires (omega arith)).0

pub returns-then-b-le57 : goal.returns-then-b-le57
returns-then-b-le57 c = sym (decimal_digit c.args.b (low-range c.args.b c.requires (omega arith)) (omega arith))

pub returns-else-b-le57 : goal.returns-else-b-le57
returns-else-b-le57 c = let r = high-range c.args.b c.requires (omega arith) in sym (letter-digit c.args.b r.0 r.1)
