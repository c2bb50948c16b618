-- The first token decides.
-- Assumes nothing.
use Rattle.std.proofs.Common.{length, ap, arith}
use Rattle.std.proofs.lemmas.Result.{err_from_is_err_and}
use Rattle.snbt_form.specs.Lexing.{default}
use Rattle.snbt_form.specs.Text.{sign_of}
use Rattle.snbt_form.proofs.Moves.{token-moves}
use Rattle.snbt_tokens.specs.Answers.{token_is}
use Rattle.snbt.proofs.Held.{no-curly}
use Rattle.snbt.proofs.Tops.{root-no, root-other, root_in, root-as}
use Rattle.snbt.proofs.scratch.root.Goals as goal

pub returns-in_err-due : goal.returns-in_err-due
returns-in_err-due c =
    let n = length c.args.out.now in
    let p = err_from_is_err_and c.from_residual.result c.from_residual.ensures.1 in
    rw (p.1, p.2.0, p.2.1) (root-no c.args.text.now n _ _ (c.in_err-due.ensures n))

pub rooted-requires : goal.rooted-requires
rooted-requires c =
    let z = token-moves default _ 0 _ _ c.in_ok-due.ensures (omega arith) in
    (c.requires, z.2, omega (arith, z.1))

pub returns-in-OpenCurly : goal.returns-in-OpenCurly
returns-in-OpenCurly c =
    let a = c.args in
    let r = c.rooted in
    root-as a.out.now r.result r.new.out
    (root_in a.text.now (length a.out.now) _ _ c.in_ok-due.ensures (ap (λ x. sign_of (token_is x)) c.in-OpenCurly.is)) r.ensures

pub returns-in_default : goal.returns-in_default
returns-in_default c =
    let a = c.args in
    root-other a.text.now (length a.out.now) _ _ c.in_ok-due.ensures (no-curly c.in_ok-due.due.td.token c.in_default.not-OpenCurly)
