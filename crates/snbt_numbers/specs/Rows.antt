-- What the inner functions promise: rows of digits counted up to nineteen nines, and the place of a first byte.
-- Assumes nothing.
use Rattle.std.specs.Prelude.{ℕ, ◌+◌, ◌-◌, ◌^◌, ◌≤◌, ◌<◌, min, ◌≡◌, Bool, true, false, not, ◌&&◌, ◌||◌, List, [], ◌∷◌, ◌++◌, leb, eqb, pos, ◌-ℤ◌, length, Option, Some, None, Float as Real64}
use Rattle.std.proofs.Math.Seq.{slice}
use Rattle.form.specs.Answer.{Out, no, pick, bad_number}
use Rattle.snbt_form.specs.Values.{signed, scaled}
use Rattle.snbt_form.specs.Numbers.{is_digit, is_letter, empty, before, digits, worth, negative}
use Rattle.snbt_numbers.specs.declared.runs.Row.{Row}
use Rattle.snbt_numbers.specs.declared.decimals.Exponent.{Exponent}
use Rattle.snbt_numbers.specs.declared.decimals.Ending.{Ending}
use Rattle.snbt_numbers.specs.declared.decimals.Ending.TheVariants.{Float, Double, Digit, Other}

-- The number up to which a row of digits is counted: rule 13 refuses all that lies beyond it alike.
abbrev pub cap : ℕ
cap = 9999999999999999999

-- The number of digits behind those of n, or that some byte is no digit.
abbrev pub digits_of : ℕ → List ℕ → Option ℕ
digits_of n l = pick (digits l) (Some (min (worth n l) cap)) None

-- The magnitude of an i64 (rule 13).
abbrev pub whole_digits : Bool → List ℕ → Option ℕ
whole_digits s l = pick (not (empty l) && digits l) (pick (leb (worth 0 l) (pick s (2 ^ 63) (2 ^ 63 - 1))) (Some (worth 0 l)) None) None

-- A byte that is x or y.
abbrev pub either : ℕ → ℕ → ℕ → Bool
either x y b = eqb b x || eqb b y

-- r is the place of the first byte from at up to to that is x or y, and to where there is none.
pub record FirstAt (x y : ℕ) (s : List ℕ) (at to r : ℕ) : Type 0 where
  pub is : r ≡ at + length (before (either x y) (slice at to s))
  pub low : at ≤ r
  pub high : r ≤ to

-- A byte that is no digit.
abbrev pub not_digit : ℕ → Bool
not_digit b = not (is_digit b)

-- Digits from at on, behind those of first, up to the first byte that is none or to `to`: where they end, and their number, which 18
-- digits at most keep small.
pub record RunAt (s : List ℕ) (first at to : ℕ) (r : Row) : Type 0 where
  pub ends : r.end ≡ at + length (before not_digit (slice at to s))
  pub low : at ≤ r.end
  pub high : r.end ≤ to
  pub row : digits (slice at r.end s) ≡ true
  pub is : r.value ≡ worth first (slice at r.end s)
  pub small : r.value < 10 ^ (18 - (to - r.end))

-- The sign b of a token and its first digits, of the number v, up to at, where all its bytes behind the sign are 18 at most.
pub record HeadAt (s : List ℕ) (start end : ℕ) (b : Bool) (v at : ℕ) : Type 0 where
  pub sign : b ≡ negative (slice start end s)
  pub room : end ≤ pick b (start + 1) start + 18
  pub run : RunAt s 0 (pick b (start + 1) start) end (record { value = v; end = at })

-- A power by its sign and its magnitude.
abbrev pub powered : Bool → ℕ → Exponent
powered down e = record { down = down; e = e }

-- The power of a row that was counted.
abbrev pub counted : Bool → Option ℕ → Option Exponent
counted down (Some e) = Some (powered down e)
counted down None = None

-- The power that digits spell, one at least.
abbrev pub power_of : Bool → List ℕ → Option Exponent
power_of down l = pick (empty l) None (counted down (digits_of 0 l))

-- An exponent behind its letter: an optional sign, and digits.
abbrev pub exponent_of : List ℕ → Option Exponent
exponent_of [] = None
exponent_of (b ∷ l) = pick (eqb b 45) (power_of true l) (pick (eqb b 43) (power_of false l) (power_of false (b ∷ l)))

-- Digits and an exponent together: 18 where one of them is none.
abbrev pub combine : Bool → ℕ → Option ℕ → Option Exponent → ℕ → Out Real64
combine s n None x place = no bad_number place
combine s n (Some w) None place = no bad_number place
combine s n (Some w) (Some x) place = scaled s w (signed x.down x.e -ℤ pos n) place

-- The value of digits around a point, and of an exponent from its letter on, between places of a text (rule 13).
unfoldable pub value_in : Bool → List ℕ → ℕ → ℕ → ℕ → ℕ → ℕ → Out Real64
value_in s t from point ex to place =
    pick (eqb (point - from + (ex - (point + 1))) 0) (no bad_number place)
    (combine s (ex - (point + 1)) (digits_of 0 (slice from point t ++ slice (point + 1) ex t)) (pick (leb to ex) (Some (powered false 0)) (exponent_of (slice (ex + 1) to t))) place)

-- What a token with a point ends with (rule 13).
abbrev pub ending_of : ℕ → Ending
ending_of b = pick (is_letter 102 b) Float (pick (is_letter 100 b) Double (pick (is_digit b) Digit Other))
