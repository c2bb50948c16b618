-- `decimal::ten` meets its contract: each entry of the table is its power of ten exactly, by one test that antt computes over the table.
-- Assumes nothing.
use borrow.Author.Rules.{rules}
use mathlib.Core.Path.{refl}
use mathlib.Core.List.{List, [], ◌∷◌, map}
use lib.ListN.{get_or}
use mathlib.Core.Bool.{Bool, true, false}
use Prim.Native.Nat.{ℕ, ◌*◌, ◌^◌}
use lib.Dec.{T, eqb, eqb→eq}
use lib.Ieee.{binary64, Float, nan, inf, fin, up, down, of_bits}
use lib.Ieee.Exact.{HasValue}
use Rattle.snbt_floats.proofs.Table.{at}
use Rattle.snbt_floats.proofs.decimal.ten.Statement.{statement}
use Rattle.snbt_floats.proofs.decimal.ten.Tie as tie

-- x is the whole number n
abbrev is : ℕ → Float → Bool
is n nan = false
is n (inf s) = false
is n (fin true m e) = false
is n (fin false m e) = eqb (m * up e * 1) (n * down e)

is-value : (n : ℕ) (x : Float) → T (is n x) → HasValue x false n 1
is-value n nan t = absurd t
is-value n (inf s) t = absurd t
is-value n (fin true m e) t = absurd t
is-value n (fin false m e) t = (refl, eqb→eq (m * up e * 1) (n * down e) t)

mul-result : tie.Need-offset_bounds-p
mul-result c = search rules

array-read-result : tie.Need-bounds-p
array-read-result c = search rules

-- the table's entries, as bits
tens : List Float
tens =
    map (of_bits binary64)
    (0x3ff0000000000000 ∷ 0x4024000000000000 ∷ 0x4059000000000000 ∷ 0x408f400000000000 ∷ 0x40c3880000000000 ∷ 0x40f86a0000000000 ∷
    0x412e848000000000 ∷ 0x416312d000000000 ∷ 0x4197d78400000000 ∷ 0x41cdcd6500000000 ∷ 0x4202a05f20000000 ∷ 0x42374876e8000000 ∷
    0x426d1a94a2000000 ∷ 0x42a2309ce5400000 ∷ 0x42d6bcc41e900000 ∷ 0x430c6bf526340000 ∷ 0x4341c37937e08000 ∷ 0x4376345785d8a000 ∷
    0x43abc16d674ec800 ∷ 0x43e158e460913d00 ∷ 0x4415af1d78b58c40 ∷ 0x444b1ae4d6e2ef50 ∷ 0x4480f0cf064dd592 ∷ [])

returns : tie.Need-returns
unfolding tens of_bits
returns c =
    is-value (10 ^ c.args.p) (get_or tens c.args.p nan) (at (λ (k : ℕ) (x : Float). is (10 ^ k) x) nan tens tt c.args.p (search rules))

pub ten_spec : {M : Type 1} → statement M
ten_spec = tie.close (tie.spec mul-result array-read-result returns)
