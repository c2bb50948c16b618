-- Laws of a text that is judged as a whole (refusals 9 and 15), and of places on its characters.
-- Assumes nothing.
use Prim.Native.Nat.{ℕ, ◌≤◌, ◌<◌}
use mathlib.Core.Path.{◌≡◌, refl, sym, ap, ◌∙◌}
use mathlib.Core.Bool.{Bool, true, false, ◌&&◌}
use mathlib.Core.List.{List}
use native.Mathlib.Omega.{arith}
use borrow.Author.Tests.{lt-ltb, le-leb, lt-leb, leb-true}
use lib.Dec.{leb, ltb}
use lib.ListN.{length}
use Rattle.form.specs.Answer.{no, pick, guard, text_limit, over_limit, bad_text}
use Rattle.form.specs.Strings.{utf8_bytes}
use Rattle.form.specs.Decoding.{utf8_of, utf8_verdict, is_good, Judged}
use Rattle.form.proofs.Picks.{and_left, and_right}
use Rattle.std.specs.Prelude.{Result}
use Rattle.mutf8.specs.declared.Unreadable.{Unreadable}
use Rattle.mutf8.specs.Answers.{verdict_of}
use Rattle.snbt_form.specs.Lexing.{begins, judged_text, on_character}

pub begins-le : (b : ℕ) → begins b ≤ 1
begins-le b = go (ltb b 128) (ltb b 192)
  where
    go : (t u : Bool) → pick t 1 (pick u 0 1) ≤ 1
    go true u = omega arith
    go false true = omega arith
    go false false = omega arith

pub begins-low : (b : ℕ) → b < 128 → begins b ≡ 1
begins-low b h = simp (lt-ltb b 128 h)

pub text-long : (t : List ℕ) → text_limit < length t → no over_limit 0 ≡ judged_text t
unfolding judged_text
text-long t h = rw (lt-leb (length t) text_limit h) refl

-- by what a call answered
pub text-judged : (t : List ℕ) (r v : Result (Unit {0}) Unreadable) → length t ≤ text_limit → Judged utf8_bytes utf8_of t (verdict_of r) → r ≡ v
    → guard (is_good (verdict_of v)) bad_text 0 ≡ judged_text t
unfolding judged_text
text-judged t r v h j e =
    let z : is_good (verdict_of v) ≡ is_good (utf8_verdict t) = ap is_good (sym (ap verdict_of e) ∙ j.is) in
    rw (le-leb (length t) text_limit h, z) refl

-- two places in order are within the text
pub ordered : (t : List ℕ) (s e : ℕ) → (on_character t s && (on_character t e && leb s e)) ≡ true → (s ≤ e) × (e ≤ length t)
ordered t s e h =
    let x = and_right (on_character t s) _ h in
    let on = and_left (on_character t e) (leb s e) x in
    (leb-true s e (and_right (on_character t e) (leb s e) x), leb-true e (length t) (and_left (leb e (length t)) _ on))
