-- The string rules (rule 2; refusals 4 and 15; 02, [2]): what Decoding.antt computes is what Strings.antt says, both ways, for every rule.
-- Assumes nothing.
use Prim.Native.Nat.{ℕ, ◌+◌, ◌-◌, ◌<◌}
use mathlib.Core.Path.{◌≡◌, refl, sym, ap, ◌∙◌}
use mathlib.Core.Logic.{◌↔◌}
use mathlib.Core.Bool.{true, false}
use mathlib.Core.List.{List, [], ◌∷◌}
use native.Mathlib.Omega.{arith}
use lib.ListN.{length, length-append}
use Rattle.form.specs.Form.{Rule, modified, utf8}
use Rattle.form.specs.Spans.{part}
use Rattle.form.specs.Strings.{enc_of, encode_by, WellFormedIn, FirstBadIn}
use Rattle.form.specs.Decoding.{Verdict, good, bad, one_of, verdict_in, is_good, well_formed_in, Judged}
use Rattle.form.proofs.Picks.{differ}
use Rattle.form.proofs.Scalars.{mutf8}
use Rattle.form.proofs.Utf8 as U
use Rattle.form.proofs.Walks as W

-- The verdict by a rule is sound and complete.
pub string-judged : (r : Rule) (l : List ℕ) → Judged (enc_of r) (one_of r) l (verdict_in r l)
string-judged modified l = W.judged mutf8 l (verdict_in modified l) refl
string-judged utf8 l = W.judged U.utf8 l (verdict_in utf8 l) refl

-- The test holds where the verdict is good.
pub is_good-iff : (v : Verdict) → (is_good v ≡ true) ↔ (v ≡ good)
is_good-iff good = (λ _. refl, λ _. refl)
is_good-iff (bad k) = (λ e. differ (sym e), λ e. let z : ◌≡◌ {A = ℕ} 0 1 = cc in absurd (omega arith))

-- Where the test fails, the verdict is bad somewhere.
pub is_good-not : (v : Verdict) → is_good v ≡ false → (k : ℕ) × (v ≡ bad k)
is_good-not good e = differ e
is_good-not (bad k) e = (k, refl)

-- Refusal 4's test holds exactly of well-formed bytes.
pub well_formed-iff : (r : Rule) (l : List ℕ) → (well_formed_in r l ≡ true) ↔ WellFormedIn r l
well_formed-iff r l = let j = string-judged r l in let g = is_good-iff (verdict_in r l) in
    (λ e. j.good_is.0 (g.0 e), λ w. g.1 (j.good_is.1 w))

-- Where it fails, the bytes encode no list of scalar values.
pub well_formed-not : (r : Rule) (l : List ℕ) → well_formed_in r l ≡ false → WellFormedIn r l → ⊥
well_formed-not r l e w = differ (sym ((well_formed-iff r l).1 w) ∙ e)

-- The first sequence that can't be read begins within the bytes.
pub bad-within : (r : Rule) (l : List ℕ) (k : ℕ) → verdict_in r l ≡ bad k → k < length l
bad-within r l k e = go ((string-judged r l).bad_is k e)
  where
    some : (t : List ℕ) → (t ≡ [] → ⊥) → 0 < length t
    some [] n = absurd (n refl)
    some (a ∷ t) n = omega arith

    go : FirstBadIn r l k → k < length l
    go f =
        let long = length-append (encode_by (enc_of r) f.before) f.rest in
        omega (arith, ap length f.split, long, f.place, some f.rest f.more)

-- A span is judged by its length where the code has its end.
pub judged-part : {A : Type 0} (f : List ℕ → A) (doc : List ℕ) (a n : ℕ) {v : A} → f (part doc a (a + n - a)) ≡ v → f (part doc a n) ≡ v
judged-part f doc a n e = let k : n ≡ a + n - a = omega arith in rw k e
