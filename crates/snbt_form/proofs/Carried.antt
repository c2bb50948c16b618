-- What a number of the text carries: each double is a rounding or a signed zero, so it has whatever property these have.
-- Assumes nothing.
use Prim.Native.Nat.{ℕ, suc, ◌-◌, ◌*◌, ◌^◌, ◌<◌}
use mathlib.Core.Bool.{Bool, true, false, not, ◌&&◌}
use mathlib.Core.List.{List, [], ◌∷◌, ◌++◌}
use mathlib.Core.Path.{refl}
use lib.Dec.{T, leb, eqb}
use lib.IntN.{ℤ, pos, negsuc, nat_abs, ◌-ℤ◌}
use lib.ListN.{length}
use lib.Ieee.{Float, nan, inf, fin, Format, binary32, binary64, up, down, fits, to_bits, of_int, round}
use lib.Ieee.Fits.{round-fits, nan-fits, inf-fits}
use lib.Ieee.Bits.{to_bits-lt}
use Rattle.form.specs.Answer.{Out, pick}
use Rattle.form.specs.Numbers.{values_in}
use Rattle.snbt_form.specs.Values.{nearest_to, scaled, to_single}
use Rattle.snbt_form.specs.Numbers.{Number, byte, short, int, long, float, double, is_digit, is_point, is_letter, empty, has, before, behind, digits, worth, power, exponent, exponent_in}
use Rattle.snbt_form.specs.Numbers.{last_of, but_last, stem, negative, unsigned, suffixed, whole_of, whole_number, decimal_by, decimal_of, decimal, real_number, decimal_number, number}
use Rattle.snbt_form.specs.Lexing.{among}
use Rattle.snbt_form.proofs.Gives.{of_number, Gives, Any, gives-got, gives-no, gives-bind, gives-guard, gives-pick}

-- The double that a number carries, if it does, has a property.
abbrev pub Carries : (Float → Type 0) → Number → Type 0
Carries P (byte z) = Unit {0}
Carries P (short z) = Unit {0}
Carries P (int z) = Unit {0}
Carries P (long z) = Unit {0}
Carries P (float x) = P x
Carries P (double x) = P x

-- ---- whole numbers and exponents

whole-any : (s : Bool) (l : List ℕ) (place : ℕ) → Gives of_number Any (whole_of s l place)
unfolding whole_of among
whole-any s l place =
    gives-guard (not (empty l) && digits l) _ _ _ refl (λ _. gives-guard (leb (worth 0 l) (pick s (2 ^ 63) (2 ^ 63 - 1))) _ _ _ refl (λ _. gives-got tt))

power-any : (s : Bool) (l : List ℕ) (place : ℕ) → Gives of_number Any (power s l place)
unfolding among
power-any s l place = gives-guard (not (empty l) && digits l) _ _ _ refl (λ _. gives-got tt)

exponent-any : (l : List ℕ) (place : ℕ) → Gives of_number Any (exponent_in l place)
unfolding among
exponent-any l place = gives-pick (has (is_letter 101) l) (λ _. go (behind (is_letter 101) l)) (λ _. gives-got tt)
  where
    go : (k : List ℕ) → Gives of_number Any (exponent k place)
    go [] = gives-no refl
    go (b ∷ k) = gives-pick (eqb b 45) (λ _. power-any true k place) (λ _. gives-pick (eqb b 43) (λ _. power-any false k place) (λ _. power-any false (b ∷ k) place))

-- ---- a property of roundings and of zeros

module _ (P : Float → Type 0) (rounded : (s : Bool) (a c : ℕ) → P (round binary64 s a c)) (zeros : (s : Bool) → P (fin s 0 (pos 0))) where
  whole_carries : (z : ℤ) → P (of_int binary64 z)
  unfolding of_int
  whole_carries (pos n) = rounded false n 1
  whole_carries (negsuc n) = rounded true (suc n) 1

  nearest-carries : (s : Bool) (w : ℕ) (p : ℤ) → P (nearest_to s w p)
  nearest-carries s w (pos k) = rounded s (w * 10 ^ k) 1
  nearest-carries s w (negsuc k) = rounded s w (10 ^ suc k)

  scaled-carries : (s : Bool) (w : ℕ) (p : ℤ) (place : ℕ) → Gives of_number P (scaled s w p place)
  unfolding among
  scaled-carries s w p place =
      gives-pick (eqb w 0) (λ _. gives-got (zeros s)) (λ _. gives-pick (leb w (2 ^ 53) && leb (nat_abs p) 22) (λ _. gives-got (nearest-carries s w p)) (λ _. gives-no refl))

  value-carries : (s : Bool) (whole fraction : List ℕ) (exponent : Out ℤ) (place : ℕ) → Gives of_number Any exponent → Gives of_number P (decimal_by s whole fraction exponent place)
  unfolding among
  value-carries s whole fraction exponent place h =
      let l = whole ++ fraction in
      gives-guard (not (empty l) && digits l) _ _ _ refl
      (λ _. gives-bind exponent (λ e. scaled s (worth 0 l) (e -ℤ pos (length fraction)) place) h (λ e _. scaled-carries s (worth 0 l) (e -ℤ pos (length fraction)) place))

  decimal-carries : (s : Bool) (l : List ℕ) (place : ℕ) → Gives of_number P (decimal_of s l place)
  unfolding decimal_of among
  decimal-carries s l place =
      let r = behind is_point l in
      gives-guard (has is_point l) _ _ _ refl
      (λ _. value-carries s (before is_point l) (before (is_letter 101) r) (exponent_in r place) place (exponent-any r place))

  real-carries : (single : Bool) (o : Out Float) → Gives of_number P o → Gives of_number (Carries P) (real_number single o)
  real-carries single o h = gives-bind o _ h (λ x k. gives-got (go single x k))
    where
      go : (b : Bool) (x : Float) → P x → Carries P (pick b (float x) (double x))
      go true x k = k
      go false x k = k

  suffixed-carries : (b : ℕ) (z : ℤ) → Carries P (suffixed b z)
  suffixed-carries b z = go (is_letter 98 b) (is_letter 115 b) (is_letter 108 b) (is_letter 102 b) (is_letter 100 b)
    where
      go : (v w x y t : Bool) → Carries P (pick v (byte z) (pick w (short z) (pick x (long z) (pick y (float (of_int binary64 z)) (pick t (double (of_int binary64 z)) (int z))))))
      go true w x y t = tt
      go false true x y t = tt
      go false false true y t = tt
      go false false false true t = whole_carries z
      go false false false false true = whole_carries z
      go false false false false false = tt

  pub number-carries : (l : List ℕ) (place : ℕ) → Gives of_number (Carries P) (number l place)
  unfolding number whole_number decimal_number among
  number-carries l place = gives-pick (has is_point l)
      (λ _. gives-pick (is_letter 102 (last_of l)) (λ _. real true (but_last l))
      (λ _. gives-pick (is_letter 100 (last_of l)) (λ _. real false (but_last l))
      (λ _. gives-pick (is_digit (last_of l)) (λ _. real false l) (λ _. gives-no refl))))
      (λ _. gives-bind (whole_of (negative (stem l)) (unsigned (stem l)) place) _ (whole-any (negative (stem l)) (unsigned (stem l)) place) (λ z _. gives-got (suffixed-carries (last_of l) z)))
    where
      real : (b : Bool) (k : List ℕ) → Gives of_number (Carries P) (real_number b (decimal k place))
      real b k = real-carries b (decimal k place) (decimal-carries (negative k) (unsigned k) place)

-- ---- bits

-- What a format holds.
abbrev pub Held : Format → Float → Type 0
Held f x = T (fits f x)

zero_held : (s : Bool) → Held binary64 (fin s 0 (pos 0))
unfolding fits
zero_held s = tt

-- A double token's double is one that the format holds.
pub number-held : (l : List ℕ) (place : ℕ) → Gives of_number (Carries (Held binary64)) (number l place)
number-held = number-carries (Held binary64) (round-fits binary64) zero_held

-- The single nearest to any double is held too.
single-held : (x : Float) → Held binary32 (to_single x)
single-held nan = nan-fits binary32
single-held (inf s) = inf-fits binary32 s
single-held (fin s m e) = round-fits binary32 s (m * up e) (down e)

-- So their bits are those of 8 bytes and of 4.
pub double-bits : (x : Float) → Held binary64 x → to_bits binary64 x < values_in 8
double-bits x h = to_bits-lt binary64 x h

pub single-bits : (x : Float) → to_bits binary32 (to_single x) < values_in 4
single-bits x = to_bits-lt binary32 (to_single x) (single-held x)
