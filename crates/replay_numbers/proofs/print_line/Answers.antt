-- `print_line` is safe: a number that the code answers carries no NaN.
-- Assumes nothing.
use Rattle.snbt_numbers.proofs.NoNan.{number-quiet}
use Rattle.replay_numbers.proofs.print_line.Goals as goal

pub print_number-requires : goal.print_number-requires
print_number-requires c = number-quiet c.in-Ok.n _ 2 c.in-Ok.ensures
