-- `call_token::carried_first` meets its contract: case by case, what the token carries; a double is no NaN, so its bits can be asked for.
-- Assumes nothing.
use mathlib.Core.Path.{refl, subst, ◌∙◌}
use borrow.Author.Rules.{rules}
use Rattle.snbt_tokens.specs.Quiet.{Quiet}
use Rattle.call_token.proofs.Words.{bits-kept}
use Rattle.call_token.proofs.carried_first.Statement.{statement}
use Rattle.call_token.proofs.carried_first.Tie as tie

pub carried_first_spec : {M : Type 1} → statement M
carried_first_spec =
    tie.close
    (tie.spec
    (λ c. search rules)
    (λ c. search rules)
    (λ c. search rules)
    (λ c. search rules)
    (λ c. search rules)
    (λ c. search rules)
    (λ c. search rules)
    (λ c. search rules)
    (λ c. search rules)
    (λ c κs. search rules)
    (λ c. search rules)
    (λ c κs. search rules)
    (λ c. search rules)
    (λ c κs. search rules)
    (λ c. search rules)
    (λ c κs. search rules)
    (λ c. search rules)
    (λ c. subst Quiet c.in-Float.is c.requires)
    (λ c. search rules)
    (λ c. subst Quiet c.in-Double.is c.requires)
    (λ c. search rules)
    (λ c. search rules)
    (λ c. search rules)
    (λ c. search rules)
    (λ c. search rules)
    (λ c. search rules)
    (λ c. search rules)
    (λ c. rw c.in-Str.is refl)
    (λ c.
    rw c.in-Byte.is (c.bits_of.ensures ∙ bits-kept c.in-Byte.z (record { sfits = c.in-Byte.known_told-in-Byte-1-own.given.0.1 })))
    (λ c.
    rw c.in-Short.is (c.bits_of-in-Short.ensures ∙ bits-kept c.in-Short.z (record { sfits = c.in-Short.known_told-in-Short-1-own.given.0.1 })))
    (λ c.
    rw c.in-Int.is (c.bits_of-in-Int.ensures ∙ bits-kept c.in-Int.z (record { sfits = c.in-Int.known_told-in-Int-1-own.given.0.1 })))
    (λ c.
    rw c.in-Long.is (c.bits_of-in-Long.ensures ∙ bits-kept c.in-Long.z (record { sfits = c.in-Long.known_told-in-Long-1-own.given.0.1 })))
    (λ c. rw c.in-Float.is refl)
    (λ c. rw c.in-Double.is refl))
