-- `table_stored::list_kind_at` meets its contract: one case of the definition for each answer.
-- Assumes nothing.
use Rattle.std.proofs.Common.{ℕ, ◌+◌, ◌≡◌, sym, ◌∙◌, subst, arith}
use Rattle.form.proofs.Rows.{kind-other, kind-empty, kind-past, kind-first}
use Rattle.table_stored.specs.Words.{edition_of, line_word}
use Rattle.table_stored.proofs.Words.{lined-word, word-past}
use Rattle.table_stored.proofs.list_kind_at.Goals as goal

pub word-requires : goal.word-requires
word-requires c = lined-word _ _ _ _ 0 c.requires.1 c.requires.0 (omega arith)

pub returns-then-word-ne-LIST : goal.returns-then-word-ne-LIST
returns-then-word-ne-LIST c = kind-other _ _ (λ e. c.if-word-ne-LIST.true (c.word.ensures ∙ e))

pub word-requires-2 : goal.word-requires-2
word-requires-2 c = lined-word _ _ _ _ 5 c.requires.1 c.requires.0 (omega arith)

pub returns-then-word-eq0 : goal.returns-then-word-eq0
returns-then-word-eq0 c = kind-empty _ _ (sym c.word.ensures ∙ c.if-word-ne-LIST.false) (sym c.word-2.ensures ∙ c.if-word-eq0.true)

pub returns-then-n-i : goal.returns-then-n-i
returns-then-n-i c =
    let a = c.args in
    let last : a.n ≡ a.i + 1 = omega (arith, c.requires.0, c.if-n-i.true) in
    kind-past _ _ (sym c.word.ensures ∙ c.if-word-ne-LIST.false) (λ e. c.if-word-eq0.false (c.word-2.ensures ∙ e))
    (subst (λ (x : ℕ). line_word (edition_of a.nine) a.lines.now x 0 ≡ 0) last (word-past _ _ _ c.requires.1))

pub word-requires-3 : goal.word-requires-3
word-requires-3 c = lined-word _ _ _ _ 0 c.requires.1 c.if-n-i.false (omega arith)

pub returns : goal.returns
returns c = c.word-3.ensures ∙ kind-first _ _ (sym c.word.ensures ∙ c.if-word-ne-LIST.false) (λ e. c.if-word-eq0.false (c.word-2.ensures ∙ e))
