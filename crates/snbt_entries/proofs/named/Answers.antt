-- `named` meets its contract: the key, its place among the keys, then the colon.
-- Assumes nothing.
use Rattle.std.proofs.Common.{◌-◌, refl, arith}
use Rattle.std.proofs.lemmas.Result.{err_from_is_err_and}
use Rattle.snbt_tokens.specs.Answers.{data_is}
use Rattle.snbt_keys.specs.Keys.{names_in}
use Rattle.snbt_due.proofs.Sizes.{met-within}
use Rattle.snbt_due.proofs.Spanning.{met-spanned}
use Rattle.snbt_entries.proofs.Turns.{entry-key-no, entry-twice, entry-colon-no}
use Rattle.snbt_entries.proofs.Keyed.{key-is, key-within, key-length, named-is}
use Rattle.snbt_entries.proofs.named.Goals as goal

pub take_key-requires : goal.take_key-requires
take_key-requires c = (met-spanned c.requires.0, c.requires.2)

pub returns-in_err-size : goal.returns-in_err-size
returns-in_err-size c =
    let a = c.args in
    let p = err_from_is_err_and c.from_residual.result c.from_residual.ensures.1 in
    rw (p.1, p.2)
    (λ room val u.
    entry-key-no a.text.now room val a.block.brace.0 (names_in a.out.now a.keys.now a.block.base (a.top - a.block.base)) (record { td = data_is a.td; next = a.next }) u _ _
    (c.in_err-size.ensures room).0)

pub spot_of-requires : goal.spot_of-requires
spot_of-requires c = (c.requires.1, omega (arith, key-within c.args.text.now _ _ (data_is c.args.td) _ c.in_ok-size.ensures))

pub returns-in_default : goal.returns-in_default
returns-in_default c room val u =
    let a = c.args in
    let is = key-is a.text.now _ _ (data_is a.td) _ c.in_ok-size.ensures room in
    entry-twice a.text.now room val a.block.brace.0 (names_in a.out.now a.keys.now a.block.base (a.top - a.block.base)) (record { td = data_is a.td; next = a.next }) u _ is
    c.in_default.ensures

pub behind_key-requires : goal.behind_key-requires
behind_key-requires c = (met-within c.requires.0).1

pub returns-in_err-behind : goal.returns-in_err-behind
returns-in_err-behind c =
    let a = c.args in
    let p = err_from_is_err_and c.from_residual-in_err-behind.result c.from_residual-in_err-behind.ensures.1 in
    rw (p.1, p.2)
    (λ room val u.
    let is = key-is a.text.now _ _ (data_is a.td) _ c.in_ok-size.ensures room in
    entry-colon-no a.text.now room val a.block.brace.0 (names_in a.out.now a.keys.now a.block.base (a.top - a.block.base)) (record { td = data_is a.td; next = a.next }) u _ is
    c.in-Some.ensures.new _ _ (c.in_err-behind.ensures room))

pub returns : goal.returns
returns c =
    let a = c.args in
    let k = c.in_ok-size.ensures in
    named-is a.text.now (data_is a.td) a.next a.block.brace.0 c.requires.0 a.out.now a.keys.now a.block.base a.top _ _ _ _ _
    (key-is a.text.now _ _ (data_is a.td) _ k) (key-length a.text.now _ _ (data_is a.td) _ k) refl c.in-Some.ensures c.in_ok-behind.ensures
