-- `after_byte` meets its contract: a backslash, a quote of either sort, or any other byte.
-- Assumes nothing.
use borrow.Author.Rules.{rules}
use Rattle.snbt_lexer.specs.Answers.{scan_of}
use Rattle.snbt_lexer.proofs.Scans.{after-slash, after-single, after-double, after-other}
use Rattle.snbt_lexer.proofs.words.after_byte.Statement.{statement}
use Rattle.snbt_lexer.proofs.words.after_byte.Tie as tie

pub after_byte_spec : {M : Type 1} → statement M
after_byte_spec =
    tie.close
    (tie.spec
    (λ c. let a = c.args in after-slash (scan_of a.st) a.b a.i c.if-b-eq92.true)
    (λ c κs. search rules)
    (λ c.
    let a = c.args in
    after-single (scan_of a.st) a.b a.i _ c.if-b-eq92.false c.if-b-eq39.true c.toggled.ensures)
    (λ c κs. search rules)
    (λ c.
    let a = c.args in
    after-double (scan_of a.st) a.b a.i _ c.if-b-eq92.false c.if-b-eq39.false c.if-b-eq34.true c.toggled-then-b-eq34.ensures)
    (λ c κs. search rules)
    (λ c.
    let a = c.args in
    after-other (scan_of a.st) a.b a.i _ c.if-b-eq92.false c.if-b-eq39.false c.if-b-eq34.false c.grown_by.ensures))
