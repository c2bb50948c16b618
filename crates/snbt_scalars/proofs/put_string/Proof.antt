-- `put_string` meets its contract: a span that is its own content is put as it is, any other is measured first.
-- Assumes nothing.
use borrow.Author.Rules.{rules}
use mathlib.Core.Path.{sym, ◌∙◌}
use Rattle.snbt_contents.proofs.Sofar.{verbatim}
use Rattle.snbt_scalars.proofs.put_string.Statement.{statement}
use Rattle.snbt_scalars.proofs.put_string.Tie as tie

-- The span was asked for at the beginning, and lent as a slice of its own.
abbrev lent_of : tie.After-is_plain → tie.After-slice_known-1
lent_of c = c.before.before

abbrev start_of : tie.After-is_plain → tie.Start
start_of c = (lent_of c).before.before

put_plain-requires : tie.Need-put_plain-requires
put_plain-requires c κs =
    let own = c.before in
    let s = start_of own.before in
    let e = sym own.before.is_plain.ensures ∙ own.if-is_plain.true in
    (s.requires.0, s.requires.1, verbatim s.args.text.now s.args.start s.args.end s.requires.0 s.requires.1 e)

pub put_string_spec : {M : Type 1} → statement M
put_string_spec =
    tie.close
    (tie.spec
    (λ c. search rules)
    (λ c. search rules)
    (λ c. search rules)
    (λ c κs. search rules)
    put_plain-requires
    (λ c. search rules)
    (λ c. let put = c.before.before in let own = put.before.before in put.put_plain.ensures (start_of own.before).args.quoted)
    (λ c κs. search rules)
    (λ c. search rules)
    (λ c. search rules))
