-- The width that a token announces (rule 15): that of its letter, where it is an unquoted string of one byte.
-- Assumes nothing.
use Prim.Native.Nat.{ℕ, ◌+◌}
use mathlib.Core.Path.{◌≡◌, refl}
use mathlib.Core.Bool.{Bool, false}
use mathlib.Core.List.{List}
use borrow.Author.Tests.{eq-eqb}
use lib.Dec.{eqb}
use lib.ListN.{get_or}
use Rattle.form.specs.Answer.{pick}
use Rattle.snbt_form.specs.Lexing.{Token, string}
use Rattle.snbt_form.specs.Text.{letter_width}
use Rattle.snbt_tokens.specs.Answers.{token_is}
use Rattle.snbt_tokens.specs.declared.Token as code
use Rattle.snbt_tokens.specs.declared.Token.TheVariants.{OpenCurly, ClosedCurly, OpenSquare, ClosedSquare, Comma, Colon, Semicolon, Str, Byte, Short, Int, Long, Float, Double}

-- The width by the letter: B, I, L, or another.
abbrev pub width_of : ℕ → ℕ
width_of b = pick (eqb b 66) 1 (pick (eqb b 73) 4 (pick (eqb b 76) 8 0))

module _ (t : List ℕ) {k : Token} (q : Bool) (a e : ℕ) (is : k ≡ string q a e) where
  pub by-letter : q ≡ false → e ≡ a + 1 → (room : ℕ) → letter_width t room k ≡ width_of (get_or t a 0)
  by-letter h l room = rw (is, h, eq-eqb e (a + 1) l) refl

-- What the arm of a string leaves is none.
pub unstrung-none : (t : List ℕ) (k : code.Token) → ((q : Bool) (a e : ℕ) → k ≡ Str q a e → ⊥) → (room : ℕ) → letter_width t room (token_is k) ≡ 0
unstrung-none t OpenCurly h room = refl
unstrung-none t ClosedCurly h room = refl
unstrung-none t OpenSquare h room = refl
unstrung-none t ClosedSquare h room = refl
unstrung-none t Comma h room = refl
unstrung-none t Colon h room = refl
unstrung-none t Semicolon h room = refl
unstrung-none t (Str q a e) h room = absurd (h q a e refl)
unstrung-none t (Byte z) h room = refl
unstrung-none t (Short z) h room = refl
unstrung-none t (Int z) h room = refl
unstrung-none t (Long z) h room = refl
unstrung-none t (Float x) h room = refl
unstrung-none t (Double x) h room = refl
