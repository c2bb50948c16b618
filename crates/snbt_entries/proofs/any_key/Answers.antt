-- `any_key` meets its contract: the `}` ends the compound, and any other token is a key's.
-- Assumes nothing.
use Rattle.std.proofs.Common.{◌-◌, ap}
use Rattle.std.proofs.lemmas.Result.{err_from_is_err_and}
use Rattle.snbt_form.specs.Lexing.{key}
use Rattle.snbt_form.specs.Text.{sign_of}
use Rattle.snbt_tokens.specs.Answers.{token_is, last_is}
use Rattle.snbt_keys.specs.Keys.{names_in}
use Rattle.snbt_due.proofs.Steps.{met_at}
use Rattle.snbt_entries.proofs.Turns.{turn-no}
use Rattle.snbt_entries.proofs.Keyed.{not-closed, keyed-named, keyed-ended}
use Rattle.snbt_entries.proofs.any_key.Goals as goal

pub returns-in_err-due : goal.returns-in_err-due
returns-in_err-due c =
    let a = c.args in
    let p = err_from_is_err_and c.from_residual.result c.from_residual.ensures.1 in
    rw (p.1, p.2.0, p.2.1)
    (λ room val u.
    turn-no a.text.now room val a.block.brace.0 (names_in a.out.now a.keys.now a.block.base (a.top - a.block.base)) (last_is a.last) a.place u _ _ (c.in_err-due.ensures room))

pub named-requires : goal.named-requires
named-requires c = (met_at key c.args.text.now c.args.place _ _ c.in_ok-due.ensures c.requires.0, c.requires.1, c.requires.2)

pub returns-in-ClosedCurly : goal.returns-in-ClosedCurly
returns-in-ClosedCurly c =
    let a = c.args in
    keyed-ended a.text.now a.block.brace.0 (last_is a.last) a.place a.out.now a.keys.now a.block.base a.top _ _ _ c.in_ok-due.ensures c.requires.0
    c.ended.result (ap (λ k. sign_of (token_is k)) c.in-ClosedCurly.is) c.ended.ensures

pub returns-in_default : goal.returns-in_default
returns-in_default c =
    let a = c.args in
    keyed-named a.text.now a.block.brace.0 (last_is a.last) a.place a.out.now a.keys.now a.block.base a.top _ _ _ c.in_ok-due.ensures c.requires.0
    c.named.result (not-closed c.in_ok-due.due.td.token c.in_default.not-ClosedCurly) c.named.ensures
