-- One rounded operation on two exact operands is the exact result, rounded: a product and a quotient, at any format, of values given as fractions.
-- Assumes nothing.
use mathlib.Core.Path.{◌≡◌, refl, sym, ap, ◌∙◌, subst, ap₂}
use mathlib.Core.Bool.{Bool, true, false, not, cond}
use Prim.Native.Nat.{ℕ, zero, suc, ◌*◌, ◌^◌, ◌≤◌, ◌<◌}
use native.Mathlib.Nat.{mul_assoc, mul_comm, mul_left_comm, mul-pos, zero-mul, lt_irrefl, zero-lt-suc, one-le-pow}
use lib.IntN.{ℤ, pos}
use lib.Dec.{T, eqb, ltb, eqb→eq, not_T, le→leb, lit<}
use lib.Ieee.{Float, nan, inf, fin, Format, prec, low, up, down, unlike, odd, units, round, mul, div, neg, of_int, in_float}
use lib.Ieee.Back.{round_whole}
use lib.Ieee.Fits.{up_pos, down_pos, round_is}
use lib.Ieee.Bits.{cond_no}
use lib.Ieee.Exact.{HasValue}
use lib.Ieee.Order.{drop, kept}
use lib.Ieee.Scale.{round_same, overflow}

swap : (i j k l : ℕ) → i * j * (k * l) ≡ i * k * (j * l)
swap i j k l = mul_assoc i j (k * l) ∙ ap (λ (z : ℕ). i * z) (mul_left_comm j k l) ∙ sym (mul_assoc i k (j * l))

cross : (A B c d a b x y : ℕ) → A * c ≡ a * x → B * d ≡ b * y → A * B * (c * d) ≡ a * b * (x * y)
cross A B c d a b x y p q = swap A B c d ∙ ap₂ ◌*◌ p q ∙ swap a x b y

pub mul-values : (f : Format) (x y : Float) (s t : Bool) (a c b d : ℕ) → 0 < c → 0 < d → HasValue x s a c → HasValue y t b d
    → mul f x y ≡ round f (unlike s t) (a * b) (c * d)
unfolding mul
mul-values f nan y s t a c b d C D v w = absurd v
mul-values f (inf r) y s t a c b d C D v w = absurd v
mul-values f (fin r m e) nan s t a c b d C D v w = absurd w
mul-values f (fin r m e) (inf u) s t a c b d C D v w = absurd w
mul-values f (fin r m e) (fin u n g) s t a c b d C D v w =
    ap₂ (λ (i j : Bool). round f (unlike i j) (m * up e * (n * up g)) (down e * down g)) v.0 w.0
    ∙ round_same f (unlike s t) (m * up e * (n * up g)) (down e * down g) (a * b) (c * d) (mul-pos (down_pos e) (down_pos g)) (mul-pos C D)
    (cross (m * up e) (n * up g) c d a b (down e) (down g) v.1 w.1)

some : (n : ℕ) (g : ℤ) (b d : ℕ) → n * up g * d ≡ b * down g → 0 < b → 0 < n
some zero g b d e B = absurd (lt_irrefl 0 (subst (λ (x : ℕ). 0 < x) (sym e ∙ ap (λ (x : ℕ). x * d) (zero-mul (up g)) ∙ zero-mul d) (mul-pos B (down_pos g))))
some (suc n) g b d e B = zero-lt-suc n

nonzero : (n : ℕ) → 0 < n → T (not (eqb n 0))
nonzero n h = not_T (eqb n 0) (λ t. lt_irrefl 0 (subst (λ (x : ℕ). 0 < x) (eqb→eq n 0 t) h))

pub div-values : (f : Format) (x y : Float) (s t : Bool) (a c b d : ℕ) → 0 < c → 0 < d → 0 < b → HasValue x s a c → HasValue y t b d
    → div f x y ≡ round f (unlike s t) (a * d) (c * b)
unfolding div
div-values f nan y s t a c b d C D B v w = absurd v
div-values f (inf r) y s t a c b d C D B v w = absurd v
div-values f (fin r m e) nan s t a c b d C D B v w = absurd w
div-values f (fin r m e) (inf u) s t a c b d C D B v w = absurd w
div-values f (fin r m e) (fin u n g) s t a c b d C D B v w =
    let N : 0 < n = some n g b d w.1 B in
    cond_no (eqb n 0) (cond (eqb m 0) nan (inf (unlike r u))) (round f (unlike r u) (m * up e * down g) (n * up g * down e)) (nonzero n N)
    ∙ ap₂ (λ (i j : Bool). round f (unlike i j) (m * up e * down g) (n * up g * down e)) v.0 w.0
    ∙ round_same f (unlike s t) (m * up e * down g) (n * up g * down e) (a * d) (c * b) (mul-pos (mul-pos N (up_pos g)) (down_pos e)) (mul-pos C B)
    (cross (m * up e) (down g) c b a (n * up g) (down e) d v.1 (mul_comm (down g) b ∙ sym w.1) ∙ ap (λ (z : ℕ). a * (n * up g) * z) (mul_comm (down e) d) ∙ swap a (n * up g) d (down e))

-- ---- a negative number is rounded as its magnitude is
neg-odd : (d q k l : ℕ) → neg (odd d false q k l) ≡ odd d true q k l
unfolding neg odd
neg-odd d zero k l = refl
neg-odd d (suc q) k l = refl

neg-cond : (b : Bool) (x y : Float) → neg x ≡ y → neg (cond b x (inf false)) ≡ cond b y (inf true)
unfolding neg
neg-cond true x y e = e
neg-cond false x y e = refl

neg-units : (f : Format) (q k : ℕ) → neg (units f false q k) ≡ units f true q k
unfolding units
neg-units f q k = neg-cond (ltb (q * 2 ^ k) (overflow f)) (odd (suc (prec f)) false q k (low f)) (odd (suc (prec f)) true q k (low f)) (neg-odd (suc (prec f)) q k (low f))

pub neg-round : (f : Format) (a c : ℕ) → neg (round f false a c) ≡ round f true a c
neg-round f a c =
    ap neg (round_is f false a c) ∙ neg-units f (kept (prec f) (a * 2 ^ low f) c) (drop (prec f) (a * 2 ^ low f) c) ∙ sym (round_is f true a c)

-- ---- the exact cast of a whole number
pub cast-asks : (f : Format) (w : ℕ) → w ≤ 2 ^ prec f → T (in_float f (pos w))
unfolding in_float
cast-asks f w h = le→leb w (2 ^ prec f) h

pub cast-value : (f : Format) (w : ℕ) → w ≤ 2 ^ prec f → HasValue (of_int f (pos w)) false w 1
unfolding of_int
cast-value f w h = round_whole f false w h

pub ten-pos : (p : ℕ) → 0 < 10 ^ p
ten-pos p = one-le-pow p 10 (lit< tt)
