-- The code's state within an unquoted token and its answers as those of the definitions.
-- Assumes nothing.
use Rattle.std.specs.Prelude.{ℕ, ◌≡◌, List, get_or}
use Rattle.form.specs.Answer.{Out, got, ◌>>=◌}
use Rattle.snbt_form.specs.Numbers as numbers
use Rattle.snbt_form.specs.Lexing as rule
use Rattle.snbt_lexer.specs.declared.Peeked.{Peeked}
use Rattle.snbt_lexer.specs.declared.words.State.{State}
use Rattle.snbt_lexer.specs.declared.words.Word.{Word}

-- How an unquoted token stands.
abbrev pub scan_of : State → rule.Scan
scan_of s = record {
  curly = s.curly;
  square = s.square;
  single = s.single;
  double = s.double;
  escape = s.escape;
  end = s.end;
  width = s.width.0;
}

-- Where it ends, its width, and the next place.
abbrev pub word_is : Word → rule.Word
word_is w = record { end = w.end; width = w.width.0; next = w.next }

-- A number's token at i of width w, and the next place; a refusal stays.
abbrev pub numeral_at : Out numbers.Number → ℕ → ℕ → ℕ → Out rule.Lexed
numeral_at o i w n = do
  k ← o
  got (rule.made (rule.numeral k) i w n)

-- What stands in front of the token from p on: the first place that is not blank, and its byte; 0 at the text's end.
pub record PeekedIs (t : List ℕ) (p : ℕ) (f : Peeked) : Type 0 where
  pub place : f.index.0 ≡ rule.skip t p
  pub byte : f.byte ≡ get_or t (rule.skip t p) 0
