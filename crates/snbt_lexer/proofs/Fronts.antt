-- What stands in front of a token: its index, and a sign's character where it is a sign (rule 10).
-- Assumes nothing.
use Prim.Native.Nat.{ℕ, ◌-◌, ◌<◌}
use mathlib.Core.Path.{◌≡◌, refl, sym, ap, ◌∙◌}
use mathlib.Core.Bool.{◌||◌}
use mathlib.Core.Logic.{⊎_elim}
use mathlib.Core.List.{List}
use native.Mathlib.Omega.{arith}
use lib.Dec.{leb, eqb}
use lib.ListN.{length, get_or, get_or-eq_default}
use Rattle.form.specs.Answer.{got}
use Rattle.form.specs.Spans.{part}
use Rattle.form.proofs.Picks.{pick-eq, lt-or}
use Rattle.snbt_form.specs.Numbers.{Number, is_digit, number}
use Rattle.snbt_form.specs.Lexing.{Stops, Token, open_curly, closed_curly, open_square, closed_square, comma, colon, semicolon, string, numeral, TokenData, Lexed, found, ended, word, unquoted}
use Rattle.snbt_form.specs.Lexing.{quoted, made, sign, unquoted_at, quoted_at, token_by, skip, token_at}
use Rattle.snbt_form.specs.Text.{sign_of}
use Rattle.snbt_form.proofs.Moves.{Holds, holds-bind, either_way, from-got}
use Rattle.snbt_lexer.specs.Answers.{PeekedIs}
use Rattle.snbt_lexer.specs.declared.Peeked.{Peeked}
use Rattle.snbt_lexer.proofs.Finds.{token-here}

-- ---- a token that was found

-- A string or a number.
abbrev Unsigned : Token → Type 0
Unsigned k = sign_of k ≡ 0

-- A token at i, a sign only where b is its character.
abbrev InFront : ℕ → ℕ → Lexed → Type 0
InFront b i (found d n) = (d.index ≡ i) × (0 < sign_of d.token → b ≡ sign_of d.token)
InFront b i (ended p) = Unit {0}

module _ (t : List ℕ) (i b : ℕ) where
  unquoted-unsigned : (e : ℕ) → Holds Unsigned (unquoted t i e)
  unquoted-unsigned e =
      either_way (Holds Unsigned) (eqb (get_or t i 0) 45 || is_digit (get_or t i 0))
      (holds-bind Unsigned (number (part t i (e - i)) i) (λ (k : Number). got (numeral k)) (λ k h. refl))
      refl

  unquoted-front : (set : Stops) → Holds (InFront b i) (unquoted_at set t i)
  unfolding unquoted_at
  unquoted-front set =
      let w = word set t i in
      holds-bind (InFront b i) (unquoted t i w.end) (λ (k : Token). got (made k i w.width w.next))
      (λ k h. (refl, λ z. absurd (omega (arith, z, from-got Unsigned (unquoted t i w.end) k (unquoted-unsigned w.end) h))))

  quoted-front : Holds (InFront b i) (quoted_at t i)
  unfolding quoted_at
  quoted-front = holds-bind (InFront b i) (quoted t i) _ (λ r h. (refl, λ z. absurd (omega (arith, z))))

  by_front : (set : Stops) → Holds (InFront b i) (token_by set t i b)
  unfolding token_by
  by_front set =
      let P = Holds (InFront b i) in
      pick-eq P b 44 (λ e. (refl, λ _. e)) (λ _.
      pick-eq P b 58 (λ e. (refl, λ _. e)) (λ _.
      pick-eq P b 59 (λ e. (refl, λ _. e)) (λ _.
      pick-eq P b 91 (λ e. (refl, λ _. e)) (λ _.
      pick-eq P b 93 (λ e. (refl, λ _. e)) (λ _.
      pick-eq P b 123 (λ e. (refl, λ _. e)) (λ _.
      pick-eq P b 125 (λ e. (refl, λ _. e)) (λ _.
      either_way P (eqb b 34 || eqb b 39) quoted-front (unquoted-front set))))))))

at_front : (set : Stops) (t : List ℕ) (p : ℕ) → Holds (InFront (get_or t (skip t p) 0) (skip t p)) (token_at set t p)
unfolding token_at
at_front set t p = either_way (Holds (InFront (get_or t (skip t p) 0) (skip t p))) (leb (length t) (skip t p)) tt (by_front t (skip t p) (get_or t (skip t p) 0) set)

-- ---- a sign's character

by_sign : (set : Stops) (t : List ℕ) (i b : ℕ) (k : Token) → 0 < sign_of k → b ≡ sign_of k → token_by set t i b ≡ sign k i
unfolding token_by
by_sign set t i b open_curly z e = rw e refl
by_sign set t i b closed_curly z e = rw e refl
by_sign set t i b open_square z e = rw e refl
by_sign set t i b closed_square z e = rw e refl
by_sign set t i b comma z e = rw e refl
by_sign set t i b colon z e = rw e refl
by_sign set t i b semicolon z e = rw e refl
by_sign set t i b (string q x y) z e = absurd (omega (arith, z))
by_sign set t i b (numeral n) z e = absurd (omega (arith, z))

-- ---- both

module _ (t : List ℕ) (p : ℕ) (f : Peeked) (is : PeekedIs t p f) where
  byte-there : f.byte ≡ get_or t f.index.0 0
  byte-there = is.byte ∙ ap (λ (i : ℕ). get_or t i 0) (sym is.place)

  -- 0 is what the end has
  before-end : 0 < f.byte → f.index.0 < length t
  before-end z = ⊎_elim (λ h. h) (λ h. absurd (omega (arith, z, byte-there, get_or-eq_default t 0 h))) (lt-or f.index.0 (length t))

  -- a sign's character in front: the token is that sign
  pub front-sign : (set : Stops) (k : Token) → 0 < sign_of k → f.byte ≡ sign_of k → token_at set t p ≡ sign k f.index.0
  front-sign set k z e =
      sym (token-here set t p f.index.0 is.place _ (before-end (omega (arith, z, e))) refl) ∙ by_sign set t f.index.0 (get_or t f.index.0 0) k z (sym byte-there ∙ e)

  -- a token stands where its front does, and is a sign only by its character
  pub front-token : (set : Stops) (d : TokenData) (n : ℕ) → token_at set t p ≡ got (found d n) → (d.index ≡ f.index.0) × (0 < sign_of d.token → f.byte ≡ sign_of d.token)
  front-token set d n e =
      let h = from-got (InFront (get_or t (skip t p) 0) (skip t p)) (token_at set t p) (found d n) (at_front set t p) e in
      (h.0 ∙ sym is.place, λ z. is.byte ∙ h.1 z)
