-- A double by its bits' fields, and what it is as a single.
-- Assumes nothing.
use mathlib.Core.Path.{◌≡◌, refl, sym, ap, ◌∙◌, subst}
use Prim.Native.Nat.{ℕ, zero, suc, ◌+◌, ◌-◌, ◌*◌, ◌/◌, ◌%◌, ◌^◌, ◌<◌}
use native.Mathlib.Nat.{zero-add, lt_irrefl, add-mod_left, mod-eq_of_lt, mul-add-mod_self_left, le-add_right}
use native.Mathlib.Omega.{arith}
use mathlib.Core.Bool.{Bool, true, false, not, cond}
use lib.Dec.{T, leb, eqb, le→leb, not_T, eqb→eq}
use lib.Arith.{lt→nleb}
use lib.Ieee.{Float, nan, inf, fin, Format, binary32, prec, low, up, down, odd, round, hid, ones, top, of_fields, of_bits}
use lib.Ieee.Fits.{down_pos}
use lib.Ieee.Bits.{is_true, is_false, cond_no}
use lib.Ieee.Exact.{HasValue, odd_sign}
use lib.Ieee.Scale.{round_same}
use Rattle.snbt_form.specs.Values.{to_single}

same : (f : Format) {s s' : Bool} {x x' t t' : ℕ} → s ≡ s' → x ≡ x' → t ≡ t' → of_fields f s x t ≡ of_fields f s' x' t'
same f {s} {s'} {x} {x'} {t} {t'} p q r = ap (λ (a : Bool). of_fields f a x t) p ∙ ap (λ (a : ℕ). of_fields f s' a t) q ∙ ap (λ (a : ℕ). of_fields f s' x' a) r

-- a sign's bit in front of the rest
pub fields : (f : Format) (s : Bool) (b : ℕ) → b < top f → of_bits f (cond s (top f) 0 + b) ≡ of_fields f s (b / hid f) (b % hid f)
unfolding of_bits
fields f true b h =
    same f (is_true (leb (top f) (top f + b)) (le→leb (top f) (top f + b) (le-add_right (top f) b)))
    (ap (λ (x : ℕ). x / hid f) (add-mod_left (top f) b ∙ mod-eq_of_lt h))
    (mul-add-mod_self_left (hid f) (suc (ones f)) b)
fields f false b h =
    ap (of_bits f) (zero-add b) ∙ same f (is_false (leb (top f) b) (lt→nleb (top f) b h)) (ap (λ (x : ℕ). x / hid f) (mod-eq_of_lt h)) refl

not-ones : (f : Format) (x : ℕ) → x < ones f → T (not (eqb x (ones f)))
not-ones f x h = not_T (eqb x (ones f)) (λ t. lt_irrefl (ones f) (subst (λ (y : ℕ). y < ones f) (eqb→eq x (ones f) t) h))

-- a field of 0, and any other below the highest
pub low_value : (f : Format) (s : Bool) (t : ℕ) → HasValue (of_fields f s 0 t) s (t * 2 ^ 0) (2 ^ low f)
unfolding of_fields
low_value f s t = odd_sign (prec f) s t 0 (low f)

pub mid-value : (f : Format) (s : Bool) (x t : ℕ) → 0 < x → x < ones f → HasValue (of_fields f s x t) s ((hid f + t) * 2 ^ (x - 1)) (2 ^ low f)
unfolding of_fields
mid-value f s zero t P h = absurd (lt_irrefl 0 P)
mid-value f s (suc x) t P h =
    subst (λ (v : Float). HasValue v s ((hid f + t) * 2 ^ (suc x - 1)) (2 ^ low f))
    (sym (cond_no (eqb (suc x) (ones f)) (cond (eqb t 0) (inf s) nan) (odd (prec f) s (hid f + t) x (low f)) (not-ones f (suc x) h)))
    (subst (λ (y : ℕ). HasValue (odd (prec f) s (hid f + t) x (low f)) s ((hid f + t) * 2 ^ y) (2 ^ low f)) (pred-suc x) (odd_sign (prec f) s (hid f + t) x (low f)))
  where
    pred-suc : (x : ℕ) → x ≡ suc x - 1
    pred-suc x = omega arith

-- a number as a single is rounded once, however it is written
pub single-value : (x : Float) (s : Bool) (a c : ℕ) → 0 < c → HasValue x s a c → to_single x ≡ round binary32 s a c
single-value nan s a c C v = absurd v
single-value (inf t) s a c C v = absurd v
single-value (fin t m e) s a c C v =
    ap (λ (b : Bool). round binary32 b (m * up e) (down e)) v.0 ∙ round_same binary32 s (m * up e) (down e) a c (down_pos e) C v.1
