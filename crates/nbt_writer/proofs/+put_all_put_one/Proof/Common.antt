-- The measures of the cycle: there are fewer records in a record than it has with itself, and `put_all` calls `put_one` for no more than
-- it has. `m-at t` is what m is given at the measure t, and `m-below t` what a call of it asks below t.
-- Assumes nothing.
use Prim.Native.Nat.{ℕ, ◌<◌, ◌+◌, ◌-◌, ◌*◌}
use borrow.Fn.Kinds.{In}
use borrow.Fn.PlainCycle.{Measures, is, falls, and}
use Rattle.nbt_writer.proofs.put_all.Reads as put_all_lem
use Rattle.nbt_writer.proofs.put_all.Kinds as put-all-kinds
use Rattle.nbt_writer.proofs.put_one.Reads as put_one
use Rattle.nbt_writer.proofs.put_one.Kinds as put-one-kinds

abbrev pub μ-put-all : Measures 3 put-all-kinds.ps ℕ
μ-put-all κs a = 2 * (a.1.1.1.0 - a.1.1.0) + 1

abbrev pub put_all-at : ℕ → In 3 put-all-kinds.ps
put_all-at t = and 3 put-all-kinds.ps (is 3 put-all-kinds.ps μ-put-all t) put_all_lem.Pre

abbrev pub put_all-below : ℕ → In 3 put-all-kinds.ps
put_all-below t = and 3 put-all-kinds.ps (falls 3 put-all-kinds.ps ◌<◌ μ-put-all t) put_all_lem.Pre

abbrev pub μ-put-one : Measures 3 put-one-kinds.ps ℕ
μ-put-one κs a = 2 * (a.1.1.1.0 - a.1.1.0)

abbrev pub put_one-at : ℕ → In 3 put-one-kinds.ps
put_one-at t = and 3 put-one-kinds.ps (is 3 put-one-kinds.ps μ-put-one t) put_one.Pre

abbrev pub put_one-below : ℕ → In 3 put-one-kinds.ps
put_one-below t = and 3 put-one-kinds.ps (falls 3 put-one-kinds.ps ◌<◌ μ-put-one t) put_one.Pre
