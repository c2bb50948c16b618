-- How long a key is: at most 6 bytes for each byte of its token, so that a place in the output fits a word.
-- Assumes nothing.
use Prim.Native.Nat.{ℕ, ◌-◌, ◌*◌, ◌≤◌}
use mathlib.Core.Path.{◌≡◌}
use mathlib.Core.List.{List}
use lib.ListN.{length}
use Rattle.form.specs.Answer.{got}
use Rattle.snbt_form.specs.Lexing.{Token, open_curly, closed_curly, open_square, closed_square, comma, colon, semicolon, string, numeral}
use Rattle.snbt_form.specs.Lexing.{TokenData}
use Rattle.snbt_form.specs.Text.{key_of}
use Rattle.snbt_form.proofs.Moves.{Holds, from-got}
use Rattle.snbt_due.specs.Due.{Met}
use Rattle.snbt_due.proofs.Sizes.{InToken, met-in, Short, string-size}

key-holds : (t : List ℕ) (room : ℕ) (tok : Token) (p i n : ℕ) → InToken tok i n → Holds (Short i n) (key_of t room tok p)
unfolding key_of
key-holds t room open_curly p i n h = tt
key-holds t room closed_curly p i n h = tt
key-holds t room open_square p i n h = tt
key-holds t room closed_square p i n h = tt
key-holds t room comma p i n h = tt
key-holds t room colon p i n h = tt
key-holds t room semicolon p i n h = tt
key-holds t room (string q a e) p i n h = string-size t room q a e p i n h.0 h.1
key-holds t room (numeral m) p i n h = tt

-- A key's length, by its token.
pub key-size : {t : List ℕ} {d : TokenData} {n : ℕ} → Met t d n → (room p : ℕ) (s : List ℕ) → key_of t room d.token p ≡ got s → (length s ≤ 65535) × (length s ≤ 6 * (n - d.index))
key-size {t} {d} {n} met room p s e =
    from-got (Short d.index n) _ s (key-holds t room d.token p d.index n (met-in met)) e
