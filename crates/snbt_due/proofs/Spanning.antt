-- What holds of every token of the lexer: its span lies in the text, and its number is no NaN.
-- Assumes nothing.
use Prim.Native.Nat.{ℕ, ◌≤◌}
use mathlib.Core.List.{List}
use mathlib.Core.Path.{◌≡◌, refl}
use lib.ListN.{length}
use Rattle.form.specs.Answer.{got}
use Rattle.snbt_form.specs.Lexing.{Stops, Token, open_curly, closed_curly, open_square, closed_square, comma, colon, semicolon, string, numeral, TokenData, found, token_at}
use Rattle.snbt_form.proofs.Moves.{token-span}
use Rattle.snbt_lexer.proofs.Quiet.{token-quiet}
use Rattle.snbt_placing.specs.Done.{TokenFits, Spanned}
use Rattle.snbt_due.specs.Due.{Met}

-- What the lexer finds can be made a scalar or a key.
pub token-spanned : (set : Stops) (t : List ℕ) (p : ℕ) (d : TokenData) (n : ℕ) → token_at set t p ≡ got (found d n) → p ≤ length t → Spanned d (length t)
token-spanned set t p d n e h = record { token = by d.token refl }
  where
    by : (k : Token) → d.token ≡ k → TokenFits k (length t)
    by open_curly f = tt
    by closed_curly f = tt
    by open_square f = tt
    by closed_square f = tt
    by comma f = tt
    by colon f = tt
    by semicolon f = tt
    by (string q a b) f = let s = token-span set t p d n e h q a b f in (s.0, s.1)
    by (numeral m) f = token-quiet set t p d n e m f

-- So it is of one that was met.
pub met-spanned : {t : List ℕ} {d : TokenData} {n : ℕ} → Met t d n → Spanned d (length t)
met-spanned {t} {d} {n} met = token-spanned met.set t met.from d n met.is met.within
