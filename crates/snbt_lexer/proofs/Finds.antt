-- The token at a place, from what the calls answered.
-- Assumes nothing.
use Prim.Native.Nat.{ℕ, ◌+◌, ◌-◌, ◌≤◌, ◌<◌}
use mathlib.Core.Path.{◌≡◌, refl, sym, ap, ◌∙◌}
use mathlib.Core.Bool.{Bool, true, false, ◌||◌}
use mathlib.Core.Logic.{◌⊎◌, inl, inr}
use mathlib.Core.List.{List}
use native.Mathlib.Omega.{arith}
use borrow.Author.Tests.{le-leb, lt-leb, ne_eqb, leb-true}
use lib.Dec.{leb, eqb}
use lib.ListN.{length, get_or}
use Rattle.form.specs.Answer.{Out, got, no, ◌>>=◌, bad_text}
use Rattle.form.specs.Spans.{part}
use Rattle.form.proofs.Picks.{and_left}
use Rattle.snbt_form.specs.Numbers.{Number, is_digit, number}
use Rattle.snbt_form.specs.Lexing.{Stops, Token, string, numeral, Lexed, ended, Word, word, quoted, made, unquoted_at, quoted_at, token_by, skip, token_at, begins, on_character, judged_text, lexed}
use Rattle.snbt_form.proofs.Moves.{word-reach, EndsIn, quoted-ends, from-got}
use Rattle.snbt_quotes.specs.Answers.{quoted_is, quoted_out}
use Rattle.std.specs.Prelude.{Result, Ok, Err}
use Rattle.form.specs.Refusals.{number_of}
use Rattle.form.specs.declared.refusals.Refused.{Refused}
use Rattle.snbt_quotes.specs.declared.Closed.{Closed}
use Rattle.snbt_lexer.specs.Answers.{numeral_at}

-- ---- an unquoted token

module _ (set : Stops) (t : List ℕ) (i : ℕ) (w : Word) (is : w ≡ word set t i) where
  pub reaches : i < length t → (i ≤ w.end) × (w.end ≤ length t)
  reaches h = let z = word-reach set t i h in rw is (omega (arith, z.some), omega (arith, z.before, z.within))

  module _ (n : Bool) (r : Out Lexed) (opens : n ≡ (eqb (get_or t i 0) 45 || is_digit (get_or t i 0))) where
    pub unquoted-number : (o : Out Number) → n ≡ true → o ≡ number (part t i (w.end - i)) i → r ≡ numeral_at o i w.width w.next → r ≡ unquoted_at set t i
    unfolding unquoted_at
    unquoted-number o e p q = rw (← is, sym opens ∙ e, ← p) (q ∙ chain o)
      where
        chain : (o : Out Number) → numeral_at o i w.width w.next ≡ ((o >>= (λ (k : Number). got (numeral k))) >>= (λ (k : Token). got (made k i w.width w.next)))
        chain (got k) = refl
        chain (no m p) = refl

    pub unquoted-string : n ≡ false → r ≡ got (made (string false i w.end) i w.width w.next) → r ≡ unquoted_at set t i
    unfolding unquoted_at
    unquoted-string e q = rw (← is, sym opens ∙ e) q

-- ---- a quoted token

module _ (t : List ℕ) (i : ℕ) (x : Result Closed Refused) (is : quoted_out x ≡ quoted t i) where
  pub closed-within : (c : Closed) → i < length t → x ≡ Ok c → c.end < length t
  closed-within c h f =
      (from-got (EndsIn (i + 1) (length t)) (quoted t i) (quoted_is c) (quoted-ends t i h) (sym is ∙ ap quoted_out f)).1

  pub quoted-closed : (c : Closed) (r : Out Lexed) → x ≡ Ok c → r ≡ got (made (string true (i + 1) c.end) i c.width.0 (c.end + 1)) → r ≡ quoted_at t i
  unfolding quoted_at
  quoted-closed c r f q = rw (sym is ∙ ap quoted_out f) q

  pub quoted-refused : (e : Refused) → x ≡ Err e → no (number_of e.refusal) e.place ≡ quoted_at t i
  unfolding quoted_at
  quoted-refused e f = rw (sym is ∙ ap quoted_out f) refl

-- ---- a token by its first byte

module _ (set : Stops) (t : List ℕ) (i b : ℕ) (r : Out Lexed) where
  pub by-quote : (b ≡ 34) ⊎ (b ≡ 39) → r ≡ quoted_at t i → r ≡ token_by set t i b
  unfolding token_by
  by-quote (inl e) q = rw e q
  by-quote (inr e) q = rw e q

  pub by_word : (b ≡ 44 → ⊥) → (b ≡ 58 → ⊥) → (b ≡ 59 → ⊥) → (b ≡ 91 → ⊥) → (b ≡ 93 → ⊥) → (b ≡ 123 → ⊥) → (b ≡ 125 → ⊥) → ((b ≡ 34) ⊎ (b ≡ 39) → ⊥)
      → r ≡ unquoted_at set t i → r ≡ token_by set t i b
  unfolding token_by
  by_word x₁ x₂ x₃ x₄ x₅ x₆ x₇ x₈ q =
      rw (
        ne_eqb b 44 x₁,
        ne_eqb b 58 x₂,
        ne_eqb b 59 x₃,
        ne_eqb b 91 x₄,
        ne_eqb b 93 x₅,
        ne_eqb b 123 x₆,
        ne_eqb b 125 x₇,
        ne_eqb b 34 (λ e. x₈ (inl e)),
        ne_eqb b 39 (λ e. x₈ (inr e)),
      ) q

-- ---- a token from a place on

module _ (set : Stops) (t : List ℕ) (p i : ℕ) (is : i ≡ skip t p) where
  pub token_end : length t ≤ i → got (ended (length t)) ≡ token_at set t p
  unfolding token_at
  token_end h = rw (← is, le-leb (length t) i h) refl

  pub token-here : (r : Out Lexed) → i < length t → r ≡ token_by set t i (get_or t i 0) → r ≡ token_at set t p
  unfolding token_at
  token-here r h q = rw (← is, lt-leb (length t) i h) q

-- ---- a token of a text that is judged first

module _ (set : Stops) (t : List ℕ) (p : ℕ) (j : Out (Unit {0})) (is : j ≡ judged_text t) where
  pub text-refused : (n m : ℕ) → j ≡ no n m → no n m ≡ lexed t p set
  unfolding lexed
  text-refused n m e = rw (sym is ∙ e) refl

  module _ (fine : j ≡ got tt) (o : Bool) (on : o ≡ on_character t p) where
    pub off-character : o ≡ false → no bad_text 0 ≡ lexed t p set
    unfolding lexed
    off-character e = rw (sym is ∙ fine, sym on ∙ e) refl

    pub on-a-character : (r : Out Lexed) → o ≡ true → r ≡ token_at set t p → r ≡ lexed t p set
    unfolding lexed
    on-a-character r e q = rw (sym is ∙ fine, sym on ∙ e) q

-- a place on a character lies in the text
pub place-within : (t : List ℕ) (p : ℕ) (o : Bool) → o ≡ on_character t p → o ≡ true → p ≤ length t
place-within t p o on e = leb-true p (length t) (and_left (leb p (length t)) (eqb (begins (get_or t p 0)) 1) (sym on ∙ e))
