-- What can be asked of a token that carries a double: its bits, since it is no NaN.
-- Assumes nothing.
use Rattle.std.specs.Prelude.{not, T}
use Rattle.std.specs.Float.Ieee.{is_nan}
use Rattle.snbt_tokens.specs.declared.Token.{Token}
use Rattle.snbt_tokens.specs.declared.Token.TheVariants.{OpenCurly, ClosedCurly, OpenSquare, ClosedSquare, Comma, Colon, Semicolon, Str, Byte, Short, Int, Long, Float, Double}

-- A token carries no NaN.
abbrev pub Quiet : Token → Type 0
Quiet OpenCurly = Unit {0}
Quiet ClosedCurly = Unit {0}
Quiet OpenSquare = Unit {0}
Quiet ClosedSquare = Unit {0}
Quiet Comma = Unit {0}
Quiet Colon = Unit {0}
Quiet Semicolon = Unit {0}
Quiet (Str q a e) = Unit {0}
Quiet (Byte z) = Unit {0}
Quiet (Short z) = Unit {0}
Quiet (Int z) = Unit {0}
Quiet (Long z) = Unit {0}
Quiet (Float x) = T (not (is_nan x))
Quiet (Double x) = T (not (is_nan x))
