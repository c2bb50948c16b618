-- What the proofs know of each string rule: that it is a coding, and that it reads what both read alike. All else holds of any rule.
-- Assumes nothing.
use Prim.Native.Nat.{ℕ, ◌<◌}
use mathlib.Core.Path.{◌≡◌, refl, sym, ap, ◌∙◌}
use mathlib.Core.List.{List, [], ◌∷◌, ◌++◌}
use native.Mathlib.Omega.{arith}
use borrow.Author.Tests.{lt-ltb, le-ltb, le-leb}
use lib.ListN.{length}
use Rattle.form.specs.Form.{Rule, modified, utf8}
use Rattle.form.specs.Strings.{IsScalar, enc_of}
use Rattle.form.specs.Decoding.{Sequence, is, stuck, unit_of, paired, unpaired, scalar_of, utf8_of, one_of}
use Rattle.form.proofs.Picks.{pick-eq, pick-lt, pick-le}
use Rattle.form.proofs.Coding.{SoundBy, Coding}
use Rattle.form.proofs.Scalars.{mutf8, scalar-of}
use Rattle.form.proofs.Utf8 as U
use Rattle.chars.proofs.Sequences.{unit-none, unit-zero, unit-high}
use Rattle.mutf8.specs.Runs.{common_of}

-- ---- what both codings read alike

stuck-is : {c n : ℕ} → stuck ≡ is c n → ⊥
stuck-is e = let z : ◌≡◌ {A = ℕ} 0 1 = cc in omega arith

paired-of : (l : List ℕ) (w : Sequence) (c n : ℕ) → unpaired w ≡ is c n → paired l w ≡ is c n
paired-of l stuck c n e = absurd (stuck-is e)
paired-of l (is u m) c n e =
    (let P : Sequence → Type 0 = λ x. x ≡ is c n → paired l (is u m) ≡ is c n in
    pick-eq P u 0 (λ _ e. absurd (stuck-is e)) (λ _.
    pick-lt P u 55296 (λ h e. simp (lt-ltb u 55296 h) e) (λ h.
    pick-lt P u 57344 (λ _ e. absurd (stuck-is e)) (λ k e. simp (le-ltb u 55296 h, le-leb 57344 u k) e)))) e

common-scalar : (l : List ℕ) (c n : ℕ) → common_of l ≡ is c n → scalar_of l ≡ is c n
unfolding common_of
common-scalar l c n e = scalar-of l (unit_of l) refl ∙ paired-of l (unit_of l) c n e

common-utf8 : (l : List ℕ) (c n : ℕ) → common_of l ≡ is c n → utf8_of l ≡ is c n
unfolding common_of utf8_of
common-utf8 [] c n e = absurd (stuck-is (sym (ap unpaired unit-none) ∙ e))
common-utf8 (a ∷ l) c n e =
    let P : Sequence → Type 0 = λ x. x ≡ is c n in
    pick-eq P a 0 (λ h. absurd (stuck-is (sym (ap unpaired (unit-zero a l h)) ∙ e))) (λ _.
    pick-le P 240 a (λ h. absurd (stuck-is (sym (ap unpaired (unit-high a l h)) ∙ e))) (λ _. e))

-- so do the readers of both rules
pub alike : (r : Rule) (l : List ℕ) (c n : ℕ) → common_of l ≡ is c n → one_of r l ≡ is c n
alike modified = common-scalar
alike utf8 = common-utf8

-- ---- each is a coding

-- a value takes a byte at least
pub some : (r : Rule) (c : ℕ) → 0 < length (enc_of r c)
some modified = mutf8.some
some utf8 = (U.utf8).some

-- what was read is a scalar value, whose bytes stand there
pub sound : (r : Rule) (l : List ℕ) → SoundBy (enc_of r) l (one_of r l)
sound modified = mutf8.sound
sound utf8 = (U.utf8).sound

-- what was written is read back, whatever follows
pub back : (r : Rule) (c : ℕ) → IsScalar c → (l : List ℕ) → one_of r (enc_of r c ++ l) ≡ is c (length (enc_of r c))
back modified = mutf8.back
back utf8 = (U.utf8).back

-- so a rule is a coding
abbrev pub coding_of : Rule → Coding
coding_of r = record { enc = enc_of r; one = one_of r; some = some r; sound = sound r; back = back r }

-- a value that was read tells how many bytes it takes
width-go : (r : Rule) (l : List ℕ) (w : Sequence) (c n : ℕ) → SoundBy (enc_of r) l w → w ≡ is c n → n ≡ length (enc_of r c)
width-go r l stuck c n s e = absurd (stuck-is e)
width-go r l (is d m) c n s e = let p : d ≡ c = cc in let q : m ≡ n = cc in rw (← p, ← q) s.1

pub width : (r : Rule) (l : List ℕ) (c n : ℕ) → one_of r l ≡ is c n → n ≡ length (enc_of r c)
width r l c n e = width-go r l (one_of r l) c n (sound r l) e
