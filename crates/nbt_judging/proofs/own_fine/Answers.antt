-- The name is judged first, then the rest.
use Rattle.std.proofs.Common.{sym, ◌∙◌}
use Rattle.std.proofs.lemmas.Result.{err_from_is_err_and}
use Rattle.nbt_judging.proofs.Pieces.{own_name, own-twice, own_on}
use Rattle.nbt_judging.proofs.own_fine.Goals as goal

pub returns-in_err-name_fine : goal.returns-in_err-name_fine
returns-in_err-name_fine c =
    let p = err_from_is_err_and c.from_residual.result c.from_residual.ensures.1 in
    rw (p.1, p.2) (sym (own_name _ _ _ _ _ _ _ _ (sym c.in_err-name_fine.ensures)))

pub returns-then-twice : goal.returns-then-twice
returns-then-twice c = sym (own-twice _ _ _ _ _ _ _ _ (sym c.in_ok-name_fine.ensures) c.if-twice.true)

pub returns : goal.returns
returns c = c.rest_fine.ensures ∙ sym (own_on _ _ _ _ _ _ _ _ (sym c.in_ok-name_fine.ensures) c.if-twice.false)
