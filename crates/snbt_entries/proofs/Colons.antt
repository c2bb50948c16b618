-- The colon behind a key: what a token there leads to, and what the byte in front of it tells.
-- Assumes nothing.
use Prim.Native.Nat.{ℕ, ◌+◌, ◌≤◌}
use mathlib.Core.Path.{◌≡◌, refl, subst, ◌∙◌}
use mathlib.Core.List.{List}
use native.Mathlib.Omega.{arith}
use lib.ListN.{length}
use Rattle.form.specs.Answer.{got, no, unexpected_token, unmatched_brace}
use Rattle.snbt_form.specs.Lexing.{default, colon, TokenData, found, token_at}
use Rattle.snbt_form.specs.Text.{sign_of, colon_at}
use Rattle.snbt_form.proofs.Moves.{token-moves}
use Rattle.snbt_lexer.specs.Answers.{PeekedIs}
use Rattle.snbt_lexer.specs.declared.Peeked.{Peeked}
use Rattle.snbt_lexer.proofs.Fronts.{front-sign, front-token}
use Rattle.snbt_due.proofs.Reading.{due-found}
use Rattle.snbt_due.proofs.Fronts.{ahead}
use Rattle.std.specs.Prelude.{Ok, Err}
use Rattle.form.specs.declared.refusals.Refusal.TheVariants.{UnexpectedToken}
use Rattle.snbt_entries.specs.Entries.{ColonIs}
use Rattle.snbt_entries.proofs.Turns.{colon-other, colon-is}

-- ---- by its token

module _ (t : List ℕ) (brace p : ℕ) (d : TokenData) (m : ℕ) (e : token_at default t p ≡ got (found d m)) where
  colon-none : (sign_of d.token ≡ 58 → ⊥) → (room : ℕ) → colon_at t room brace p ≡ no unexpected_token d.index
  colon-none g room = colon-other t room brace p (record { td = d; next = m }) (due-found t room default p unmatched_brace brace d m e) g

  pub colon-to : p ≤ length t → sign_of d.token ≡ 58 → ColonIs t brace p (Ok m)
  colon-to h s =
      let y = token-moves default t p d m e h in
      ((λ room. colon-is t room brace p (record { td = d; next = m }) (due-found t room default p unmatched_brace brace d m e) s), omega (arith, y.0, y.1), y.2)

-- ---- by the byte in front

module _ (t : List ℕ) (p : ℕ) (f : Peeked) (is : PeekedIs t p f) (h : p ≤ length t) (brace : ℕ) where
  pub front-colon : f.byte ≡ 58 → ColonIs t brace p (Ok (f.index.0 + 1))
  front-colon e = colon-to t brace p (ahead t p f is h colon) (f.index.0 + 1) (front-sign t p f is default colon (omega arith) e) h refl

  pub front-none : (f.byte ≡ 58 → ⊥) → (d : TokenData) (m : ℕ) → token_at default t p ≡ got (found d m) → ColonIs t brace p (Err (record { refusal = UnexpectedToken; place = f.index.0 }))
  front-none g d m e room =
      let z = front-token t p f is default d m e in
      subst (λ (i : ℕ). colon_at t room brace p ≡ no unexpected_token i) z.0
      (colon-none t brace p d m e (λ y. g (z.1 (omega (arith, y)) ∙ y)) room)
