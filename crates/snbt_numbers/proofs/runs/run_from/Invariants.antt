-- The bytes up to i are digits, and n is their number.
use Rattle.std.proofs.Common.{◌≡◌, true, ◌-◌, ◌^◌, ◌<◌}
use Rattle.std.proofs.Math.Seq.{slice}
use Rattle.snbt_form.specs.Numbers.{digits, worth}
use Rattle.snbt_numbers.proofs.runs.run_from.Given as goal

abbrev pub invariant-loop-i : goal.invariant-loop-i
invariant-loop-i l = record {
  row : digits (slice l.at l.i l.text) ≡ true;
  is : l.n ≡ worth l.first (slice l.at l.i l.text);
  small : l.n < 10 ^ (18 - (l.to - l.i));
}
