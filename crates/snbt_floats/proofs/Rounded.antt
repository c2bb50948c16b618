-- The bits of a rounded fraction, for any format, sign and fraction, subnormal results and overflow included: drop * hid + kept, where a carry
-- out of the kept digits runs into the exponent's field, and from an infinity's bits on they are an infinity's. Assumes nothing.
use mathlib.Core.Path.{◌≡◌, sym, ap, ap₂, ◌∙◌, subst}
use mathlib.Core.Logic.{◌⊎◌, inl, inr}
use Prim.Native.Nat.{ℕ, zero, suc, ◌+◌, ◌-◌, ◌*◌, ◌/◌, ◌%◌, ◌^◌, ◌≤◌, ◌<◌, compare}
use native.Mathlib.Nat.{le_trans, le_of_eq, le_antisymm, lt_of_lt_of_le, lt_of_le_of_lt, lt_of_not-le, lt_irrefl, le_of_suc-le-suc, eq-or-lt_of_le, eq-zero-or-pos, mul-one, mul_comm}
use native.Mathlib.Nat.{mul_assoc, suc-mul, mul-le-mul_right, mul-div_cancel, div-div-eq-div-mul, le-div_iff_mul-le, le_of_mul-le-mul_right, add_assoc, pow-succ'}
use native.Mathlib.Omega.{arith}
use mathlib.Core.Bool.{Bool, true, false, not, cond}
use lib.Dec.{T, ltb, ltb→lt, nltb→le}
use lib.Arith.{le→nltb}
use lib.Pow.{pow-add, pow_pos, pow_mono, pow-lt, shl_lt}
use lib.Ieee.{Float, nan, inf, fin, Format, prec, emax, low, up, down, size, odd, units, round, hid, ones, top, to_bits, is_nan, of_int}
use lib.IntN.{ℤ, pos, negsuc}
use lib.Ieee.Digits.{size-lt, size-le, size_reaches}
use lib.Ieee.Fits.{two, two-le_pos, kept-lt, nearest-le, round_is, round-fits, down_pos}
use lib.Ieee.Bits.{cond_no, to_bits-lt}
use lib.Ieee.Exact.{HasValue, units_val}
use lib.Ieee.Nearest.{nearest-ge}
use lib.Ieee.Order.{drop, kept}
use lib.Ieee.Scale.{overflow}

-- ---- how many digits
pow_lt_back : (i p : ℕ) → 2 ^ i < 2 ^ p → i < p
pow_lt_back i p h = lt_of_not-le (λ (g : p ≤ i). lt_irrefl (2 ^ i) (lt_of_lt_of_le h (pow_mono g)))

pub size_exact : (a n : ℕ) → 2 ^ a ≤ n → n < 2 ^ suc a → size n ≡ suc a
size_exact a n lo hi = le_antisymm (size-le n (suc a) hi) (pow_lt_back a (size n) (lt_of_le_of_lt lo (size-lt n)))

-- ---- the bits of a finite value, by its size in units of the smallest one
abbrev written : Format → Bool → ℕ → ℕ
written f s a = cond s (top f) 0 + (size a - prec f) * hid f + a / 2 ^ (size a - prec f)

of-value : (f : Format) (s : Bool) (x : Float) (a : ℕ) → HasValue x s a (2 ^ low f) → to_bits f x ≡ written f s a
unfolding to_bits
of-value f s nan a v = absurd v
of-value f s (inf t) a v = absurd v
of-value f s (fin t m e) a v =
    let q : m * up e * 2 ^ low f / down e ≡ a = ap (λ (x : ℕ). x / down e) v.1 ∙ mul-div_cancel a (down_pos e) in
    ap (λ (b : Bool). to_bits f (fin b m e)) v.0 ∙ ap (λ (x : ℕ). written f s x) q

-- ---- q * 2 ^ k units
suc-pred : (p : ℕ) → 0 < p → suc (p - 1) ≡ p
suc-pred p h = omega arith

twice_hid : (p : ℕ) → 0 < p → 2 ^ p ≡ 2 * 2 ^ (p - 1)
twice_hid p h = ap (λ (x : ℕ). 2 ^ x) (sym (suc-pred p h)) ∙ pow-succ' 2 (p - 1)

cut : (z p : ℕ) → z ≤ p → z - p ≡ 0
cut z p h = omega arith

past : (z p k : ℕ) → 0 < p → z ≡ suc (p - 1 + k) → z - p ≡ k
past z p k P e = omega arith

past_one : (z p k : ℕ) → z ≡ suc (p + k) → z - p ≡ suc k
past_one z p k e = omega arith

one_up : (p k : ℕ) → 0 < p → p + k ≡ suc (p - 1 + k)
one_up p k P = omega arith

twice : (c x y h w : ℕ) → y ≡ x + h → w ≡ 2 * h → c + y + h ≡ c + x + w
twice c x y h w e d = omega arith

-- what `written` gives at q * 2 ^ k, where d is the number of digits beyond the format's
at_drop : (f : Format) (s : Bool) (q k : ℕ) → size (q * 2 ^ k) - prec f ≡ k → written f s (q * 2 ^ k) ≡ cond s (top f) 0 + k * hid f + q
at_drop f s q k e =
    ap (λ (d : ℕ). cond s (top f) 0 + d * hid f + q * 2 ^ k / 2 ^ d) e
    ∙ ap (λ (x : ℕ). cond s (top f) 0 + k * hid f + x) (mul-div_cancel q (pow_pos k))

at-carry : (f : Format) (s : Bool) (k : ℕ) → written f s (2 ^ prec f * 2 ^ k) ≡ cond s (top f) 0 + k * hid f + 2 ^ prec f
at-carry f s k =
    let p = prec f in
    let P : 0 < p = two-le_pos p (two f) in
    let a = 2 ^ p * 2 ^ k in
    let is : a ≡ 2 ^ (p + k) = sym (pow-add 2 p k) in
    let z : size a ≡ suc (p + k) = size_exact (p + k) a (le_of_eq (sym is)) (lt_of_le_of_lt (le_of_eq is) (pow-lt (lt-suc (p + k)))) in
    let half : a ≡ hid f * 2 ^ suc k = ap (λ (x : ℕ). x * 2 ^ k) (twice_hid p P ∙ mul_comm 2 (hid f)) ∙ mul_assoc (hid f) 2 (2 ^ k) ∙ ap (λ (x : ℕ). hid f * x) (sym (pow-succ' 2 k)) in
    ap (λ (d : ℕ). cond s (top f) 0 + d * hid f + a / 2 ^ d) (past_one (size a) p k z)
    ∙ ap (λ (x : ℕ). cond s (top f) 0 + suc k * hid f + x) (ap (λ (x : ℕ). x / 2 ^ suc k) half ∙ mul-div_cancel (hid f) (pow_pos (suc k)))
    ∙ twice (cond s (top f) 0) (k * hid f) (suc k * hid f) (hid f) (2 ^ p) (suc-mul k (hid f)) (twice_hid p P)
  where
    lt-suc : (n : ℕ) → n < suc n
    lt-suc n = omega arith

few : (f : Format) (q : ℕ) → q < 2 ^ prec f → size (q * 2 ^ 0) - prec f ≡ 0
few f q h = cut (size (q * 2 ^ 0)) (prec f) (size-le (q * 2 ^ 0) (prec f) (subst (λ (x : ℕ). x < 2 ^ prec f) (sym (mul-one q)) h))

full : (f : Format) (q k : ℕ) → q < 2 ^ prec f → hid f ≤ q → size (q * 2 ^ k) - prec f ≡ k
full f q k h g =
    let p = prec f in
    let P : 0 < p = two-le_pos p (two f) in
    past (size (q * 2 ^ k)) p k P
    (size_exact (p - 1 + k) (q * 2 ^ k)
    (le_trans (le_of_eq (pow-add 2 (p - 1) k)) (mul-le-mul_right (2 ^ k) g))
    (subst (λ (x : ℕ). q * 2 ^ k < 2 ^ x) (one_up p k P) (shl_lt p k h)))

written_at : (f : Format) (s : Bool) (q k : ℕ) → q ≤ 2 ^ prec f → (k ≡ 0) ⊎ (hid f ≤ q) → written f s (q * 2 ^ k) ≡ cond s (top f) 0 + k * hid f + q
written_at f s q k a w = go (eq-or-lt_of_le a)
  where
    under : q < 2 ^ prec f → (k ≡ 0) ⊎ (hid f ≤ q) → size (q * 2 ^ k) - prec f ≡ k
    under h (inl z) = subst (λ (j : ℕ). size (q * 2 ^ j) - prec f ≡ j) (sym z) (few f q h)
    under h (inr g) = full f q k h g

    go : (q ≡ 2 ^ prec f) ⊎ (q < 2 ^ prec f) → written f s (q * 2 ^ k) ≡ cond s (top f) 0 + k * hid f + q
    go (inl e) = subst (λ (x : ℕ). written f s (x * 2 ^ k) ≡ cond s (top f) 0 + k * hid f + x) (sym e) (at-carry f s k)
    go (inr h) = at_drop f s q k (under h w)

-- ---- what `round` keeps
pub kept-le : (p n den : ℕ) → kept p n den ≤ 2 ^ p
kept-le p n den =
    let k = drop p n den in
    let u = den * 2 ^ k in
    le_trans (nearest-le (n / u) (compare (n % u * 2) u)) (subst (λ (x : ℕ). x < 2 ^ p) (div-div-eq-div-mul n den (2 ^ k)) (kept-lt p (n / den)))

all_in_use : (z p : ℕ) → 0 < p → 0 < z - p → p - 1 + (z - p) < z
all_in_use z p P h = omega arith

kept-ge : (p n den : ℕ) → 0 < p → 0 < drop p n den → 2 ^ (p - 1) ≤ kept p n den
kept-ge p n den P K =
    let k = drop p n den in
    let u = den * 2 ^ k in
    let w = n / den in
    let a : 2 ^ (p - 1) * 2 ^ k ≤ w = le_trans (le_of_eq (sym (pow-add 2 (p - 1) k))) (size_reaches w (p - 1 + k) (all_in_use (size w) p P K)) in
    le_trans (subst (λ (x : ℕ). 2 ^ (p - 1) ≤ x) (div-div-eq-div-mul n den (2 ^ k)) ((le-div_iff_mul-le (pow_pos k)).1 a)) (nearest-ge (n / u) (compare (n % u * 2) u))

kept_full : (p n den : ℕ) → 0 < p → (drop p n den ≡ 0) ⊎ (2 ^ (p - 1) ≤ kept p n den)
kept_full p n den P = go (eq-zero-or-pos (drop p n den))
  where
    go : (drop p n den ≡ 0) ⊎ (0 < drop p n den) → (drop p n den ≡ 0) ⊎ (2 ^ (p - 1) ≤ kept p n den)
    go (inl z) = inl z
    go (inr g) = inr (kept-ge p n den P g)

-- ---- the two laws: below an infinity, and from there on
pub rounded-bits : (f : Format) (s : Bool) (a c : ℕ) → kept (prec f) (a * 2 ^ low f) c * 2 ^ drop (prec f) (a * 2 ^ low f) c < overflow f
    → to_bits f (round f s a c) ≡ cond s (top f) 0 + drop (prec f) (a * 2 ^ low f) c * hid f + kept (prec f) (a * 2 ^ low f) c
rounded-bits f s a c h =
    let p = prec f in
    let q = kept p (a * 2 ^ low f) c in
    let k = drop p (a * 2 ^ low f) c in
    ap (to_bits f) (round_is f s a c)
    ∙ of-value f s (units f s q k) (q * 2 ^ k) (units_val f s q k h)
    ∙ written_at f s q k (kept-le p (a * 2 ^ low f) c) (kept_full p (a * 2 ^ low f) c (two-le_pos p (two f)))

infinite : (f : Format) (s : Bool) (q k : ℕ) → overflow f ≤ q * 2 ^ k → to_bits f (units f s q k) ≡ cond s (top f) 0 + ones f * hid f
unfolding units to_bits
infinite f s q k h = ap (to_bits f) (cond_no (ltb (q * 2 ^ k) (overflow f)) (odd (suc (prec f)) s q k (low f)) (inf s) (le→nltb (q * 2 ^ k) (overflow f) h))

pub overflown-bits : (f : Format) (s : Bool) (a c : ℕ) → overflow f ≤ kept (prec f) (a * 2 ^ low f) c * 2 ^ drop (prec f) (a * 2 ^ low f) c
    → to_bits f (round f s a c) ≡ cond s (top f) 0 + ones f * hid f
overflown-bits f s a c h = ap (to_bits f) (round_is f s a c) ∙ infinite f s (kept (prec f) (a * 2 ^ low f) c) (drop (prec f) (a * 2 ^ low f) c) h

-- ---- the sign is a bit of its own
pub sign_bit : (f : Format) (a c : ℕ) → to_bits f (round f true a c) ≡ top f + to_bits f (round f false a c)
sign_bit f a c = go (ltb (q * 2 ^ k) (overflow f)) (ltb→lt (q * 2 ^ k) (overflow f)) (nltb→le (q * 2 ^ k) (overflow f))
  where
    q : ℕ
    q = kept (prec f) (a * 2 ^ low f) c

    k : ℕ
    k = drop (prec f) (a * 2 ^ low f) c

    join : (t x y : ℕ) → t + x + y ≡ t + (0 + x + y)
    join t x y = omega arith

    join_one : (t x : ℕ) → t + x ≡ t + (0 + x)
    join_one t x = omega arith

    go : (b : Bool) → (T b → q * 2 ^ k < overflow f) → (T (not b) → overflow f ≤ q * 2 ^ k) → to_bits f (round f true a c) ≡ top f + to_bits f (round f false a c)
    go true h g = rounded-bits f true a c (h tt) ∙ join (top f) (k * hid f) q ∙ ap (λ (x : ℕ). top f + x) (sym (rounded-bits f false a c (h tt)))
    go false h g = overflown-bits f true a c (g tt) ∙ join_one (top f) (ones f * hid f) ∙ ap (λ (x : ℕ). top f + x) (sym (overflown-bits f false a c (g tt)))

pub unsigned-below : (f : Format) (a c : ℕ) → to_bits f (round f false a c) < top f
unsigned-below f a c = half (top f) (to_bits f (round f false a c)) (subst (λ (x : ℕ). x < 2 * top f) (sign_bit f a c) (to_bits-lt f (round f true a c) (round-fits f true a c)))
  where
    half : (t x : ℕ) → t + x < 2 * t → x < t
    half t x h = omega arith

-- ---- no NaN is written
odd_no_nan : (d : ℕ) (s : Bool) (q k l : ℕ) → T (not (is_nan (odd d s q k l)))
unfolding odd is_nan
odd_no_nan d s zero k l = tt
odd_no_nan d s (suc q) k l = tt

pick-no-nan : (b : Bool) (s : Bool) (x : Float) → T (not (is_nan x)) → T (not (is_nan (cond b x (inf s))))
unfolding is_nan
pick-no-nan true s x h = h
pick-no-nan false s x h = tt

units-no-nan : (f : Format) (s : Bool) (q k : ℕ) → T (not (is_nan (units f s q k)))
unfolding units
units-no-nan f s q k = pick-no-nan (ltb (q * 2 ^ k) (overflow f)) s (odd (suc (prec f)) s q k (low f)) (odd_no_nan (suc (prec f)) s q k (low f))

pub rounded-no-nan : (f : Format) (s : Bool) (a c : ℕ) → T (not (is_nan (round f s a c)))
rounded-no-nan f s a c = subst (λ (x : Float). T (not (is_nan x))) (sym (round_is f s a c)) (units-no-nan f s (kept (prec f) (a * 2 ^ low f) c) (drop (prec f) (a * 2 ^ low f) c))

-- ---- the first law up to the infinity itself: where the last kept digits carry into it, the bits are an infinity's
ones-at : (e p k : ℕ) → 2 ≤ p → k + p ≡ e + p - 2 + suc e → suc (suc k) ≡ 2 * e + 1
ones-at e p k h q = omega arith

carried : (f : Format) (k : ℕ) → k + prec f ≡ low f + suc (emax f) → ones f * hid f ≡ k * hid f + 2 ^ prec f
carried f k e =
    let p = prec f in
    ap (λ (x : ℕ). x * hid f) (sym (ones-at (emax f) p k (two f) e))
    ∙ suc-mul (suc k) (hid f)
    ∙ add-hid (k * hid f) (suc k * hid f) (hid f) (2 ^ p) (suc-mul k (hid f)) (twice_hid p (two-le_pos p (two f)))
  where
    add-hid : (x y h w : ℕ) → y ≡ x + h → w ≡ 2 * h → y + h ≡ x + w
    add-hid x y h w e d = omega arith

-- q * 2 ^ k reaches 2 ^ l only at the ends of both bounds
top-only : (p l q k : ℕ) → q ≤ 2 ^ p → k + p ≤ l → 2 ^ l ≤ q * 2 ^ k → (k + p ≡ l) × (q ≡ 2 ^ p)
top-only p l q k a b h =
    let up_to : 2 ^ l ≤ 2 ^ (k + p) = le_trans h (le_trans (mul-le-mul_right (2 ^ k) a) (le_of_eq (mul_comm (2 ^ p) (2 ^ k) ∙ sym (pow-add 2 k p)))) in
    let same : k + p ≡ l = le_antisymm b (le_of_suc-le-suc (pow_lt_back l (suc (k + p)) (lt_of_le_of_lt up_to (pow-lt (lt-suc (k + p)))))) in
    (same, le_antisymm a (le_of_mul-le-mul_right (le_trans (le_of_eq (mul_comm (2 ^ p) (2 ^ k) ∙ sym (pow-add 2 k p) ∙ ap (λ (x : ℕ). 2 ^ x) same)) h) (pow_pos k)))
  where
    lt-suc : (n : ℕ) → n < suc n
    lt-suc n = omega arith

pub rounded-to : (f : Format) (s : Bool) (a c k q : ℕ) → drop (prec f) (a * 2 ^ low f) c ≡ k → kept (prec f) (a * 2 ^ low f) c ≡ q → k + prec f ≤ low f + suc (emax f)
    → to_bits f (round f s a c) ≡ cond s (top f) 0 + (k * hid f + q)
rounded-to f s a c k q ke qe h = go (ltb (q' * 2 ^ k') (overflow f)) (ltb→lt (q' * 2 ^ k') (overflow f)) (nltb→le (q' * 2 ^ k') (overflow f))
  where
    q' : ℕ
    q' = kept (prec f) (a * 2 ^ low f) c

    k' : ℕ
    k' = drop (prec f) (a * 2 ^ low f) c

    form : cond s (top f) 0 + (k' * hid f + q') ≡ cond s (top f) 0 + (k * hid f + q)
    form = ap₂ (λ (x y : ℕ). cond s (top f) 0 + (x * hid f + y)) ke qe

    go : (b : Bool) → (T b → q' * 2 ^ k' < overflow f) → (T (not b) → overflow f ≤ q' * 2 ^ k') → to_bits f (round f s a c) ≡ cond s (top f) 0 + (k * hid f + q)
    go true l g = rounded-bits f s a c (l tt) ∙ add_assoc (cond s (top f) 0) (k' * hid f) q' ∙ form
    go false l g =
        let t = top-only (prec f) (low f + suc (emax f)) q' k' (kept-le (prec f) (a * 2 ^ low f) c) (subst (λ (x : ℕ). x + prec f ≤ low f + suc (emax f)) (sym ke) h) (g tt) in
        overflown-bits f s a c (g tt) ∙ ap (λ (x : ℕ). cond s (top f) 0 + x) (carried f k' t.0 ∙ ap (λ (x : ℕ). k' * hid f + x) (sym t.1)) ∙ form

pub kept-lead : (p n den : ℕ) → 0 < p → 0 < drop p n den → 2 ^ (p - 1) ≤ kept p n den
kept-lead p n den P K = kept-ge p n den P K

-- a whole number as a float is no NaN
pub whole-no-nan : (f : Format) (z : ℤ) → T (not (is_nan (of_int f z)))
unfolding of_int
whole-no-nan f (pos n) = rounded-no-nan f false n 1
whole-no-nan f (negsuc n) = rounded-no-nan f true (suc n) 1
