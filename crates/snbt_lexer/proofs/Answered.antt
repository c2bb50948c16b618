-- A token that the lexer answers carries no NaN, for those who ask for its bits.
-- Assumes nothing.
use Prim.Native.Nat.{ℕ}
use mathlib.Core.Path.{◌≡◌, sym, refl}
use mathlib.Core.List.{List}
use Rattle.form.specs.Answer.{Out, got, no, ◌>>◌, guard, bad_text}
use Rattle.form.proofs.Answer.{got-no}
use Rattle.snbt_form.specs.Lexing.{Stops, numeral, found, token_at, judged_text, on_character, lexed}
use Rattle.snbt_form.specs.Numbers.{Number, float, double, no_nan}
use Rattle.snbt_tokens.specs.Answers.{token_is, data_is, lexed_out}
use Rattle.snbt_tokens.specs.Quiet.{Quiet}
use Rattle.snbt_tokens.specs.declared.Token.{Token}
use Rattle.snbt_tokens.specs.declared.Token.TheVariants.{OpenCurly, ClosedCurly, OpenSquare, ClosedSquare, Comma, Colon, Semicolon, Str, Byte, Short, Int, Long, Float, Double}
use Rattle.snbt_tokens.specs.declared.TokenData.{TokenData as Data}
use Rattle.std.specs.Prelude.{Result, Ok}
use Rattle.form.specs.declared.refusals.Refused.{Refused}
use Rattle.snbt_tokens.specs.declared.Lexed.{Lexed as Answer}
use Rattle.snbt_lexer.proofs.Quiet.{token-quiet}

-- What is behind two questions is the answer where there is one.
behind : {A B C : Type 0} (x : Out A) (y : Out B) (z : Out C) (c : C) → (x >> (y >> z)) ≡ got c → z ≡ got c
behind (got a) (got b) z c h = h
behind (got a) (no n p) z c h = absurd (got-no (sym h))
behind (no n p) y z c h = absurd (got-no (sym h))

quiet_of : (k : Token) → ((n : Number) → token_is k ≡ numeral n → no_nan n) → Quiet k
quiet_of OpenCurly h = tt
quiet_of ClosedCurly h = tt
quiet_of OpenSquare h = tt
quiet_of ClosedSquare h = tt
quiet_of Comma h = tt
quiet_of Colon h = tt
quiet_of Semicolon h = tt
quiet_of (Str q a e) h = tt
quiet_of (Byte z) h = tt
quiet_of (Short z) h = tt
quiet_of (Int z) h = tt
quiet_of (Long z) h = tt
quiet_of (Float x) h = h (float x) refl
quiet_of (Double x) h = h (double x) refl

-- Of `token_at`.
pub at-quiet : (set : Stops) (t : List ℕ) (p : ℕ) (d : Data) (n : ℕ) (r : Result Answer Refused) → r ≡ Ok (Answer.Found d n) → lexed_out r ≡ token_at set t p → Quiet d.token
at-quiet set t p d n r e h = quiet_of d.token (λ k q. token-quiet set t p (data_is d) n (rw (← h, e) refl) k q)

-- Of `token`.
pub found-quiet : (set : Stops) (t : List ℕ) (p : ℕ) (d : Data) (n : ℕ) (r : Result Answer Refused) → r ≡ Ok (Answer.Found d n) → lexed_out r ≡ lexed t p set → Quiet d.token
unfolding lexed
found-quiet set t p d n r e h =
    quiet_of d.token (λ k q. token-quiet set t p (data_is d) n (behind (judged_text t) (guard (on_character t p) bad_text 0) (token_at set t p) (found (data_is d) n) (rw (← h, e) refl)) k q)
