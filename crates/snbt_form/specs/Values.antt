-- What a number of the text is worth: its sign, and the nearest double and single of rule 13.
-- All rounding is the float library's `round`, which takes a sign and the exact fraction; ties go to even there.
use Rattle.std.specs.Prelude.{ℕ, suc, ◌*◌, ◌^◌, Bool, true, false, ◌&&◌, leb, eqb, ℤ, pos, negsuc, neg_ℤ, nat_abs, Float}
use Rattle.std.specs.Float.{nan, inf, fin, binary32, binary64}
use Rattle.std.specs.Float.Ieee.{up, down, round}
use Rattle.form.specs.Answer.{Out, got, no, pick, decimal_beyond}

-- A whole number by its sign and its magnitude: minus n where the sign is true. There is one zero, so `-0d` is +0 (rule 13).
abbrev pub signed : Bool → ℕ → ℤ
signed false n = pos n
signed true n = neg_ℤ (pos n)

-- The double nearest to w × 10^p with a sign, a tie to the even one (rule 13): of the exact product, or of the exact quotient.
abbrev pub nearest_to : Bool → ℕ → ℤ → Float
nearest_to s w (pos k) = round binary64 s (w * 10 ^ k) 1
nearest_to s w (negsuc k) = round binary64 s w (10 ^ suc k)

-- A decimal's value by its sign, digits and power (rule 13): w = 0 is a signed zero; up to 2^53 and from -22 to 22 the nearest double; else 23.
abbrev pub scaled : Bool → ℕ → ℤ → ℕ → Out Float
scaled s w p place = pick (eqb w 0) (got (fin s 0 (pos 0))) (pick (leb w (2 ^ 53) && leb (nat_abs p) 22) (got (nearest_to s w p)) (no decimal_beyond place))

-- The single nearest to a double, a tie to the even one; an infinity and a NaN stay what they are (rule 13: as a tag, f rounds the double to f32).
abbrev pub to_single : Float → Float
to_single nan = nan
to_single (inf s) = inf s
to_single (fin s m e) = round binary32 s (m * up e) (down e)
