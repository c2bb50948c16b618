-- Each way through the code is a law of the definition.
-- Assumes nothing.
use Rattle.std.proofs.Common.{ℕ, ◌+◌, List, ◌≡◌, sym, ap, ◌∙◌, arith}
use Rattle.form.specs.Answer.{got}
use Rattle.form.specs.Form.{Form}
use Rattle.form.specs.Reading.{named, entry_at}
use Rattle.std.proofs.lemmas.Result.{err_from_is_err_and}
use Rattle.form.proofs.Fields.{entry-no, entry-kind, entry-got, string-within}
use Rattle.std.specs.Prelude.{Some, Ok}
use Rattle.nbt_fields.specs.Answers.{entry_out}
use Rattle.nbt_fields.proofs.named.Goals as goal

-- an entry of a kind that was read before, whose payload begins behind its name: over variables, since `rw` at the terms of a place is slow or
-- refused
named-as : (form : Form) (doc : List ℕ) (at k j s l x : ℕ) → k ≡ j → s + l ≡ x
    → entry_at form doc at ≡ got (named j (record { start = s; size = l; count = 0; next = x })) → entry_out (Ok (Some (record { kind = k; start = s; len = l }))) ≡ entry_at form doc at
named-as form doc at k j s l x e n f =
    ap (λ y. got (named y (record { start = s; size = l; count = 0; next = s + l }))) e
    ∙ ap (λ y. got (named j (record { start = s; size = l; count = 0; next = y }))) n
    ∙ sym f

pub returns-in_err-name : goal.returns-in_err-name
returns-in_err-name c = let q = c.requires in let p = err_from_is_err_and c.from_residual.result c.from_residual.ensures.1 in rw (p.1, p.2) (sym (entry-no _ _ _ q.0 (λ z. q.2 (q.1 ∙ z)) (sym c.in_err-name.ensures)))

pub returns-then-kind-gt-LONG_ARRAY : goal.returns-then-kind-gt-LONG_ARRAY
returns-then-kind-gt-LONG_ARRAY c =
    let p = c.requires in
    sym (entry-kind _ _ _ p.0 (λ z. p.2 (p.1 ∙ z)) (sym c.in_ok-name.ensures) (omega (arith, p.1, c.if-kind-gt-LONG_ARRAY.true)))

pub returns : goal.returns
returns c =
    let p = c.requires in
    let read = sym c.in_ok-name.ensures in
    named-as _ _ _ _ _ _ _ _ p.1 (string-within _ _ _ read).sum (entry-got _ _ _ p.0 (λ z. p.2 (p.1 ∙ z)) read (omega (arith, p.1, c.if-kind-gt-LONG_ARRAY.false)))
