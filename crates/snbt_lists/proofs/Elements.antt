-- One turn of a list's elements, by what follows the element before (rule 14).
-- Assumes nothing.
use Prim.Native.Nat.{ℕ}
use mathlib.Core.Path.{refl, sym}
use mathlib.Core.List.{List}
use lib.ListN.{length}
use Rattle.form.specs.Answer.{text_ends}
use Rattle.snbt_form.specs.Lexing.{later}
use Rattle.snbt_form.specs.Text.{due, elements_by}
use Rattle.std.specs.Prelude.{Ok, Err}
use Rattle.form.specs.declared.refusals.Refusal.{Refusal}
use Rattle.form.specs.declared.refusals.Refused.{Refused}
use Rattle.form.specs.Refusals.{number_of}
use Rattle.snbt_tokens.specs.declared.Index.{Index}
use Rattle.snbt_due.specs.declared.After.{After}
use Rattle.snbt_due.specs.declared.Told.{Told}
use Rattle.snbt_due.specs.Due.{AfterIs, TurnsTo, value_from}
use Rattle.snbt_due.proofs.Reading.{bind_assoc}
use Rattle.snbt_lists.specs.declared.NextElement.{NextElement}
use Rattle.snbt_lists.specs.Lists.{ElementIs}

module _ (t : List ℕ) (p : ℕ) where
  pub element-no : (e : Told Refusal) (r : Refused) → TurnsTo e r → AfterIs number_of t 93 p text_ends (length t) (Err e) → ElementIs t p (Err r)
  unfolding elements_by
  element-no e r x h room f val k u = rw (h room, x.0, x.1) refl

  module _ (i : Index) (m : ℕ) where
    pub element-end : AfterIs number_of t 93 p text_ends (length t) (Ok (After.Close i m)) → ElementIs t p (Ok (NextElement.End m))
    unfolding elements_by
    element-end (e, h, l) = ((λ room f val k u. rw (e room) refl), h, l)

    pub element-next : AfterIs number_of t 93 p text_ends (length t) (Ok (After.Comma i m)) → ElementIs t p (Ok (NextElement.Is m))
    unfolding elements_by value_from
    element-next (e, h, l) = (
      (λ room f val k u.
          rw (e room)
          (sym (bind_assoc (due t room later m text_ends (length t)) (λ x. val k x.td x.next u) _))),
      h,
      l,
    )
