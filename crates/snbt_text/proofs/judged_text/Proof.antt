-- Right since the limit is tested first, and the verdict on the bytes is the definition's.
-- Assumes nothing.
use native.Mathlib.Omega.{arith}
use borrow.Author.Rules.{rules}
use Rattle.snbt_text.proofs.Texts.{text-long, text-judged}
use Rattle.snbt_text.proofs.judged_text.Statement.{statement}
use Rattle.snbt_text.proofs.judged_text.Tie as tie

pub judged_text_spec : {M : Type 1} → statement M
judged_text_spec =
    tie.close
    (tie.spec
    (λ c. text-long _ c.if-text-gt-TEXT.true)  -- returns
    (λ c κs. search rules)  -- check-utf8-requires
    (λ c. search rules)  -- enum_told
    (λ c. search rules)  -- enum-told-2
    (λ c. text-judged _ _ _ (omega arith) c.before.check_utf8.ensures c.in-Ok.is)  -- returns-2
    (λ c. text-judged _ _ _ (omega arith) c.before.check_utf8.ensures c.in-Err.is))  -- returns-3
