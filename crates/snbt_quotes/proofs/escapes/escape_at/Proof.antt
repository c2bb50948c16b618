-- Right by the letter behind the backslash, where there is one.
-- Assumes nothing.
use Prim.Native.Nat.{◌+◌}
use mathlib.Core.Path.{sym, ◌∙◌}
use native.Mathlib.Omega.{arith}
use borrow.Author.Rules.{rules}
use Rattle.snbt_quotes.proofs.Backslashes.{escape-cut, escape-u, escape-other}
use Rattle.snbt_quotes.proofs.escapes.escape_at.Statement.{statement}
use Rattle.snbt_quotes.proofs.escapes.escape_at.Tie as tie

-- where the function begins, seen from the letter
abbrev start_of : tie.After-shared_slice_known-2-1 → tie.Start
start_of c = c.before.before.before

returns-2 : tie.Need-returns-then-b-eq117
returns-2 c =
    let a = (start_of c.before.before).args in
    c.unicode_at.ensures ∙ escape-u a.text.now a.at a.end (omega arith) (omega arith) c.before.if-b-eq117.true

returns-3 : tie.Need-returns
returns-3 c =
    let a = (start_of c.before.before).args in
    c.letter.ensures ∙ escape-other a.text.now a.at a.end (omega arith) (omega arith) c.before.if-b-eq117.false

pub escape_at_spec : {M : Type 1} → statement M
escape_at_spec =
    tie.close
    (tie.spec
    (λ c. search rules)  -- add-if1
    (λ c. let a = c.before.before.args in sym (escape-cut a.text.now (a.at + 1) a.end a.at (omega arith)))  -- returns
    (λ c. search rules)  -- add-b
    (λ c. search rules)  -- shared-slice-read-b
    (λ c κs. search rules)  -- unicode-at-requires
    returns-2
    (λ c κs. search rules)  -- letter-requires
    returns-3)
