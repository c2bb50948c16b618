-- Rule 13: the number that the bytes of an unquoted token spell, or its refusal at the token's place.
-- It is asked of tokens that begin with a minus or a digit; any other is a string.
use Rattle.std.specs.Prelude.{ℕ, ◌+◌, ◌-◌, ◌*◌, ◌^◌, Bool, true, false, not, ◌&&◌, ◌||◌, List, [], ◌∷◌, ◌++◌, T, leb, eqb, ℤ, pos, ◌-ℤ◌, length, get_or, take, Float}
use Rattle.std.specs.Float.{binary64}
use Rattle.std.specs.Float.Ieee.{of_int, is_nan}
use Rattle.form.specs.Answer.{Out, got, no, ◌>>=◌, ◌>>◌, guard, pick, bad_number}
use Rattle.snbt_form.specs.Values.{signed, scaled}

-- What a number token carries: a whole number or a double. A float's double is rounded to a single only when it becomes a tag.
pub data Number : Type 0 where
  byte : ℤ → Number
  short : ℤ → Number
  int : ℤ → Number
  long : ℤ → Number
  float : Float → Number
  double : Float → Number

-- A double that a number carries is no NaN, so that its bits can be asked for (rule 13 gives none).
abbrev pub no_nan : Number → Type 0
no_nan (byte z) = Unit {0}
no_nan (short z) = Unit {0}
no_nan (int z) = Unit {0}
no_nan (long z) = Unit {0}
no_nan (float x) = T (not (is_nan x))
no_nan (double x) = T (not (is_nan x))

-- ---- bytes

-- A decimal digit (rule 13).
abbrev pub is_digit : ℕ → Bool
is_digit b = leb 48 b && leb b 57

-- The point (rule 13).
abbrev pub is_point : ℕ → Bool
is_point b = eqb b 46

-- A small letter or its capital (rule 13: either case). b is 98, d 100, e 101, f 102, l 108, s 115.
abbrev pub is_letter : ℕ → ℕ → Bool
is_letter small b = eqb b small || eqb b (small - 32)

-- ---- rows of bytes

-- There is none.
abbrev pub empty : List ℕ → Bool
empty [] = true
empty (b ∷ l) = false

-- Some byte passes a test.
unfoldable pub has : (ℕ → Bool) → List ℕ → Bool
has t [] = false
has t (b ∷ l) = t b || has t l

-- The bytes before the first that passes a test; all of them where none does.
unfoldable pub before : (ℕ → Bool) → List ℕ → List ℕ
before t [] = []
before t (b ∷ l) = pick (t b) [] (b ∷ before t l)

-- The bytes behind the first that passes a test; none where none does.
unfoldable pub behind : (ℕ → Bool) → List ℕ → List ℕ
behind t [] = []
behind t (b ∷ l) = pick (t b) l (behind t l)

-- The last byte, and 0 where there is none.
abbrev pub last_of : List ℕ → ℕ
last_of l = get_or l (length l - 1) 0

-- All bytes but the last.
abbrev pub but_last : List ℕ → List ℕ
but_last l = take (length l - 1) l

-- Every byte is a digit.
unfoldable pub digits : List ℕ → Bool
digits [] = true
digits (b ∷ l) = is_digit b && digits l

-- The number that digits spell behind the digits of n: 12 behind 345 is 34512.
unfoldable pub worth : ℕ → List ℕ → ℕ
worth n [] = n
worth n (b ∷ l) = worth (n * 10 + (b - 48)) l

-- ---- the sign

-- A minus, 45, stands first (rule 13).
abbrev pub negative : List ℕ → Bool
negative [] = false
negative (b ∷ l) = eqb b 45

-- The bytes without it (rule 13).
abbrev pub unsigned : List ℕ → List ℕ
unsigned [] = []
unsigned (b ∷ l) = pick (eqb b 45) l (b ∷ l)

-- ---- without a point

-- An i64 by its sign and its magnitude's bytes: digits, one at least, and within the range of the sign; else 18 (rule 13).
unfoldable pub whole_of : Bool → List ℕ → ℕ → Out ℤ
whole_of s l place = do
  guard (not (empty l) && digits l) bad_number place
  guard (leb (worth 0 l) (pick s (2 ^ 63) (2 ^ 63 - 1))) bad_number place
  got (signed s (worth 0 l))

-- One of the suffixes b s l f d, of either case (rule 13).
abbrev pub is_suffix : ℕ → Bool
is_suffix b = is_letter 98 b || (is_letter 115 b || (is_letter 108 b || (is_letter 102 b || is_letter 100 b)))

-- What a whole number becomes by its suffix: with f or d the nearest double, a tie to the even one; with none an int (rule 13).
abbrev pub suffixed : ℕ → ℤ → Number
suffixed b z =
    pick (is_letter 98 b) (byte z)
    (pick (is_letter 115 b) (short z)
    (pick (is_letter 108 b) (long z) (pick (is_letter 102 b) (float (of_int binary64 z)) (pick (is_letter 100 b) (double (of_int binary64 z)) (int z)))))

-- The bytes without their suffix (rule 13).
abbrev pub stem : List ℕ → List ℕ
stem l = pick (is_suffix (last_of l)) (but_last l) l

-- A token without a point (rule 13).
unfoldable pub whole_number : List ℕ → ℕ → Out Number
whole_number l place = do
  z ← whole_of (negative (stem l)) (unsigned (stem l)) place
  got (suffixed (last_of l) z)

-- ---- with a point

-- The power that digits spell, one at least; else 18 (rule 13).
abbrev pub power : Bool → List ℕ → ℕ → Out ℤ
power down l place = do
  guard (not (empty l) && digits l) bad_number place
  got (signed down (worth 0 l))

-- An exponent behind its letter: an optional minus, 45, or plus, 43, and digits (rule 13).
abbrev pub exponent : List ℕ → ℕ → Out ℤ
exponent [] place = no bad_number place
exponent (b ∷ l) place = pick (eqb b 45) (power true l place) (pick (eqb b 43) (power false l place) (power false (b ∷ l) place))

-- The exponent of what stands behind the point: 0 where there is no letter e or E (rule 13).
abbrev pub exponent_in : List ℕ → ℕ → Out ℤ
exponent_in l place = pick (has (is_letter 101) l) (exponent (behind (is_letter 101) l) place) (got (pos 0))

-- A decimal by its sign, the digits before the point, those behind it and its exponent (rule 13): a digit on one side at least, else 18;
-- w is all these digits as one number, and p the exponent less the digits behind the point.
abbrev pub decimal_by : Bool → List ℕ → List ℕ → Out ℤ → ℕ → Out Float
decimal_by s whole fraction exponent place = do
  guard (not (empty (whole ++ fraction)) && digits (whole ++ fraction)) bad_number place
  e ← exponent
  scaled s (worth 0 (whole ++ fraction)) (e -ℤ pos (length fraction)) place

-- Rust's grammar of a decimal without its sign: digits, a point, digits, an optional exponent; else 18 (rule 13).
unfoldable pub decimal_of : Bool → List ℕ → ℕ → Out Float
decimal_of s l place = do
  guard (has is_point l) bad_number place
  decimal_by s (before is_point l) (before (is_letter 101) (behind is_point l)) (exponent_in (behind is_point l) place) place

-- The same with its sign (rule 13).
abbrev pub decimal : List ℕ → ℕ → Out Float
decimal l place = decimal_of (negative l) (unsigned l) place

-- A float or a double token of a decimal's value; a refusal stays (rule 13).
abbrev pub real_number : Bool → Out Float → Out Number
real_number single value = do
  x ← value
  got (pick single (float x) (double x))

-- A token with a point: f F d D is dropped, otherwise the last character is a digit, else 18 (rule 13).
unfoldable pub decimal_number : List ℕ → ℕ → Out Number
decimal_number l place =
    pick (is_letter 102 (last_of l)) (real_number true (decimal (but_last l) place))
    (pick (is_letter 100 (last_of l)) (real_number false (decimal (but_last l) place))
    (pick (is_digit (last_of l)) (real_number false (decimal l place)) (no bad_number place)))

-- ---- the token

-- The number of a token's bytes, or its refusal at the token's place: 18, or 23 beyond what one rounding can do (rule 13).
unfoldable pub number : List ℕ → ℕ → Out Number
number l place = pick (has is_point l) (decimal_number l place) (whole_number l place)
