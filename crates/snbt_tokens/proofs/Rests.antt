-- What the rest arm of a `match` on a token knows: which tokens are left, by the tags of their cases.
-- Assumes nothing.
use Prim.Native.Nat.{ℕ}
use mathlib.Core.Path.{◌≡◌, refl, ap, ◌∙◌}
use mathlib.Core.Bool.{false}
use mathlib.Core.List.{List, [], ◌∷◌}
use mathlib.Core.Logic.{inl, inr}
use lib.Dec.{eqb}
use lib.ListN.{get_or}
use types.Run.{OneOf, miss}
use denote.Enum.Declared as enum
use Rattle.snbt_form.specs.Lexing as rule
use Rattle.snbt_form.specs.Text.{sign_of}
use Rattle.snbt_tokens.specs.Answers.{token_is}
use Rattle.snbt_tokens.specs.declared.Token.{Token}
use Rattle.snbt_tokens.specs.declared.Token.TheVariants.{OpenCurly, ClosedCurly, OpenSquare, ClosedSquare, Comma, Colon, Semicolon, Str, Byte, Short, Int, Long, Float, Double}
use Rattle.snbt_tokens.specs.contracts.Token as token

-- The tag of a token's case.
abbrev pub tag_of : Token → ℕ
tag_of t = enum.tag_of token.the_type t

-- The character of a sign by its case's tag, and 0 for a string or a number.
abbrev sign_at : ℕ → ℕ
sign_at n = get_or (123 ∷ 125 ∷ 91 ∷ 93 ∷ 44 ∷ 58 ∷ 59 ∷ []) n 0

sign_at_lem : (t : Token) → sign_of (token_is t) ≡ sign_at (tag_of t)
sign_at_lem OpenCurly = refl
sign_at_lem ClosedCurly = refl
sign_at_lem OpenSquare = refl
sign_at_lem ClosedSquare = refl
sign_at_lem Comma = refl
sign_at_lem Colon = refl
sign_at_lem Semicolon = refl
sign_at_lem (Str q a e) = refl
sign_at_lem (Byte z) = refl
sign_at_lem (Short z) = refl
sign_at_lem (Int z) = refl
sign_at_lem (Long z) = refl
sign_at_lem (Float x) = refl
sign_at_lem (Double x) = refl

-- Where the character of each case is another, a token of one of these cases is not that sign.
abbrev pub NoneIs : ℕ → List ℕ → Type 0
NoneIs b [] = Unit {0}
NoneIs b (k ∷ ks) = (eqb (sign_at k) b ≡ false) × NoneIs b ks

none-at : (b n : ℕ) (ks : List ℕ) → NoneIs b ks → OneOf ks n → eqb (sign_at n) b ≡ false
none-at b n [] h o = absurd o
none-at b n (k ∷ []) h e = ap (λ (x : ℕ). eqb (sign_at x) b) e ∙ h.0
none-at b n (k ∷ k' ∷ ks) h (inl e) = ap (λ (x : ℕ). eqb (sign_at x) b) e ∙ h.0
none-at b n (k ∷ k' ∷ ks) h (inr o) = none-at b n (k' ∷ ks) h.1 o

-- A token that the rest arm takes is not the sign b, where none of the cases left is.
pub other_sign : (b : ℕ) (t : Token) (ks : List ℕ) → NoneIs b ks → OneOf ks (tag_of t) → eqb (sign_of (token_is t)) b ≡ false
other_sign b t ks h o = ap (λ (x : ℕ). eqb x b) (sign_at_lem t) ∙ none-at b (tag_of t) ks h o

-- A token that is no string.
abbrev pub Unstrung : rule.Token → Type 0
Unstrung rule.open_curly = Unit {0}
Unstrung rule.closed_curly = Unit {0}
Unstrung rule.open_square = Unit {0}
Unstrung rule.closed_square = Unit {0}
Unstrung rule.comma = Unit {0}
Unstrung rule.colon = Unit {0}
Unstrung rule.semicolon = Unit {0}
Unstrung (rule.string q a e) = ⊥
Unstrung (rule.numeral n) = Unit {0}

-- What the arm of a string leaves is none.
abbrev pub all_but_strings : List ℕ
all_but_strings = 0 ∷ 1 ∷ 2 ∷ 3 ∷ 4 ∷ 5 ∷ 6 ∷ 8 ∷ 9 ∷ 10 ∷ 11 ∷ 12 ∷ 13 ∷ []

pub no-string : (t : Token) → OneOf all_but_strings (tag_of t) → Unstrung (token_is t)
no-string OpenCurly o = tt
no-string ClosedCurly o = tt
no-string OpenSquare o = tt
no-string ClosedSquare o = tt
no-string Comma o = tt
no-string Colon o = tt
no-string Semicolon o = tt
no-string (Str q a e) o = miss all_but_strings 7 tt o
no-string (Byte z) o = tt
no-string (Short z) o = tt
no-string (Int z) o = tt
no-string (Long z) o = tt
no-string (Float x) o = tt
no-string (Double x) o = tt

-- A token that is a sign.
abbrev pub Sign : rule.Token → Type 0
Sign rule.open_curly = Unit {0}
Sign rule.closed_curly = Unit {0}
Sign rule.open_square = Unit {0}
Sign rule.closed_square = Unit {0}
Sign rule.comma = Unit {0}
Sign rule.colon = Unit {0}
Sign rule.semicolon = Unit {0}
Sign (rule.string q a e) = ⊥
Sign (rule.numeral n) = ⊥

-- What the arms of strings and numbers leave is one.
abbrev pub all_signs : List ℕ
all_signs = 0 ∷ 1 ∷ 2 ∷ 3 ∷ 4 ∷ 5 ∷ 6 ∷ []

pub a-sign : (t : Token) → OneOf all_signs (tag_of t) → Sign (token_is t)
a-sign OpenCurly o = tt
a-sign ClosedCurly o = tt
a-sign OpenSquare o = tt
a-sign ClosedSquare o = tt
a-sign Comma o = tt
a-sign Colon o = tt
a-sign Semicolon o = tt
a-sign (Str q a e) o = miss all_signs 7 tt o
a-sign (Byte z) o = miss all_signs 8 tt o
a-sign (Short z) o = miss all_signs 9 tt o
a-sign (Int z) o = miss all_signs 10 tt o
a-sign (Long z) o = miss all_signs 11 tt o
a-sign (Float x) o = miss all_signs 12 tt o
a-sign (Double x) o = miss all_signs 13 tt o
