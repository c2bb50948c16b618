-- What the byte in front of a token leads to: a sign by its character, any other token by what it is not.
-- Assumes nothing.
use Prim.Native.Nat.{ℕ, ◌+◌, ◌≤◌, ◌<◌}
use mathlib.Core.Path.{◌≡◌, refl, sym, subst, ◌∙◌}
use mathlib.Core.Logic.{◌⊎◌, inl, inr}
use mathlib.Core.List.{List}
use native.Mathlib.Omega.{arith}
use lib.ListN.{length}
use Rattle.form.specs.Answer.{got, no, unexpected_token}
use Rattle.snbt_form.specs.Lexing.{default, Token, comma, closed_square, closed_curly, TokenData, found, token_at}
use Rattle.snbt_form.specs.Text.{sign_of, following}
use Rattle.snbt_form.proofs.Moves.{token-moves}
use Rattle.snbt_lexer.specs.Answers.{PeekedIs}
use Rattle.snbt_lexer.specs.declared.Peeked.{Peeked}
use Rattle.snbt_lexer.proofs.Fronts.{front-sign, front-token}
use Rattle.std.specs.Prelude.{Ok}
use Rattle.snbt_due.specs.declared.After.{After}
use Rattle.snbt_due.specs.Due.{AfterIs}
use Rattle.snbt_due.proofs.Steps.{after-comma, after-close, after-other}

module _ (t : List ℕ) (p : ℕ) (f : Peeked) (is : PeekedIs t p f) (h : p ≤ length t) where
  -- the sign in front as a token
  abbrev pub ahead : Token → TokenData
  ahead k = record { token = k; index = f.index.0; width = 1 }

  -- behind a sign the text goes on or ends
  pub sign-within : (k : Token) → 0 < sign_of k → f.byte ≡ sign_of k → f.index.0 + 1 ≤ length t
  sign-within k z e = (token-moves default t p (ahead k) (f.index.0 + 1) (front-sign t p f is default k z e) h).2

  -- ---- what follows an element or an entry

  module _ {N : Type 0} (v : N → ℕ) (closing n q : ℕ) where
    pub front-comma : f.byte ≡ 44 → AfterIs v t closing p n q (Ok (After.Comma f.index (f.index.0 + 1)))
    front-comma e = after-comma t closing p n q (ahead comma) (f.index.0 + 1) (front-sign t p f is default comma (omega arith) e) h refl

    closed : (k : Token) → 0 < sign_of k → (sign_of k ≡ 44 → ⊥) → closing ≡ sign_of k → f.byte ≡ closing → AfterIs v t closing p n q (Ok (After.Close f.index (f.index.0 + 1)))
    closed k z g s e = after-close t closing p n q (ahead k) (f.index.0 + 1) (front-sign t p f is default k z (e ∙ s)) h g (sym s)

    pub front-close : (closing ≡ 93) ⊎ (closing ≡ 125) → f.byte ≡ closing → AfterIs v t closing p n q (Ok (After.Close f.index (f.index.0 + 1)))
    front-close (inl s) e = closed closed_square (omega arith) (λ z. omega (arith, z)) s e
    front-close (inr s) e = closed closed_curly (omega arith) (λ z. omega (arith, z)) s e

    positive : (closing ≡ 93) ⊎ (closing ≡ 125) → 0 < closing
    positive (inl s) = omega (arith, s)
    positive (inr s) = omega (arith, s)

    pub front-other : (closing ≡ 93) ⊎ (closing ≡ 125) → (f.byte ≡ 44 → ⊥) → (f.byte ≡ closing → ⊥) → (d : TokenData) (m : ℕ) → token_at default t p ≡ got (found d m)
        → (room : ℕ) → following t room closing p n q ≡ no unexpected_token f.index.0
    front-other x g s d m e room =
        let z = front-token t p f is default d m e in
        subst (λ (i : ℕ). following t room closing p n q ≡ no unexpected_token i) z.0
        (after-other t closing p n q d m e h (λ y. g (z.1 (omega (arith, y)) ∙ y)) (λ y. s (z.1 (omega (arith, y, positive x)) ∙ y)) room)
