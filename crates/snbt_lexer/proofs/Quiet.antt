-- What a number token carries is no NaN, so that its bits can be asked for.
-- Assumes nothing.
use Prim.Native.Nat.{ℕ, ◌-◌}
use mathlib.Core.Path.{◌≡◌, subst}
use mathlib.Core.Bool.{◌||◌}
use mathlib.Core.List.{List}
use lib.Dec.{leb, eqb}
use lib.ListN.{length, get_or}
use Rattle.form.specs.Answer.{got}
use Rattle.form.specs.Spans.{part}
use Rattle.snbt_form.specs.Numbers.{Number, no_nan, is_digit, number}
use Rattle.snbt_form.specs.Lexing.{Stops, Token, open_curly, closed_curly, open_square, closed_square, comma, colon, semicolon, string, numeral, TokenData, Lexed, found, ended, word, unquoted}
use Rattle.snbt_form.specs.Lexing.{quoted, made, unquoted_at, quoted_at, token_by, skip, token_at}
use Rattle.snbt_form.proofs.Moves.{Holds, holds-bind, either_way, from-got}
use Rattle.snbt_numbers.proofs.NoNan.{number-no-nan}

-- A token's number, if it has one, is no NaN.
abbrev QuietToken : Token → Type 0
QuietToken open_curly = Unit {0}
QuietToken closed_curly = Unit {0}
QuietToken open_square = Unit {0}
QuietToken closed_square = Unit {0}
QuietToken comma = Unit {0}
QuietToken colon = Unit {0}
QuietToken semicolon = Unit {0}
QuietToken (string q a e) = Unit {0}
QuietToken (numeral k) = no_nan k

abbrev QuietIn : Lexed → Type 0
QuietIn (found d n) = QuietToken d.token
QuietIn (ended p) = Unit {0}

unquoted-quiet : (t : List ℕ) (i e : ℕ) → Holds QuietToken (unquoted t i e)
unquoted-quiet t i e =
    either_way (Holds QuietToken) (eqb (get_or t i 0) 45 || is_digit (get_or t i 0))
    (holds-bind QuietToken (number (part t i (e - i)) i) (λ (k : Number). got (numeral k)) (λ k h. number-no-nan (part t i (e - i)) i k h))
    tt

unquoted-at-quiet : (set : Stops) (t : List ℕ) (i : ℕ) → Holds QuietIn (unquoted_at set t i)
unfolding unquoted_at
unquoted-at-quiet set t i =
    let w = word set t i in
    holds-bind QuietIn (unquoted t i w.end) (λ (k : Token). got (made k i w.width w.next))
    (λ k h. from-got QuietToken (unquoted t i w.end) k (unquoted-quiet t i w.end) h)

quoted-at-quiet : (t : List ℕ) (i : ℕ) → Holds QuietIn (quoted_at t i)
unfolding quoted_at
quoted-at-quiet t i = holds-bind QuietIn (quoted t i) _ (λ r h. tt)

by-quiet : (set : Stops) (t : List ℕ) (i b : ℕ) → Holds QuietIn (token_by set t i b)
unfolding token_by
by-quiet set t i b =
    let P = Holds QuietIn in
    either_way P (eqb b 44) tt
    (either_way P (eqb b 58) tt
    (either_way P (eqb b 59) tt
    (either_way P (eqb b 91) tt
    (either_way P (eqb b 93) tt
    (either_way P (eqb b 123) tt
    (either_way P (eqb b 125) tt
    (either_way P (eqb b 34 || eqb b 39) (quoted-at-quiet t i) (unquoted-at-quiet set t i))))))))

at-quiet : (set : Stops) (t : List ℕ) (p : ℕ) → Holds QuietIn (token_at set t p)
unfolding token_at
at-quiet set t p = either_way (Holds QuietIn) (leb (length t) (skip t p)) tt (by-quiet set t (skip t p) (get_or t (skip t p) 0))

-- A number token carries no NaN.
pub token-quiet : (set : Stops) (t : List ℕ) (p : ℕ) (d : TokenData) (n : ℕ) → token_at set t p ≡ got (found d n) → (k : Number) → d.token ≡ numeral k → no_nan k
token-quiet set t p d n e k h = subst QuietToken h (from-got QuietIn (token_at set t p) (found d n) (at-quiet set t p) e)
