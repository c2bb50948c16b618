-- Right since each kind's size is a law of the definition.
-- Assumes nothing.
use borrow.Author.Rules.{rules}
use native.Mathlib.Omega.{arith}
use Prim.Native.Nat.{◌+◌}
use mathlib.Core.Path.{◌≡◌, sym, ap, ◌∙◌}
use lib.ListN.{length}
use Rattle.form.specs.Form.{way_no}
use Rattle.form.specs.Spans.{part}
use Rattle.form.specs.Turned.{recoded}
use Rattle.form.specs.Table.{head_of}
use Rattle.nbt_judging.proofs.Bytes.{size-bound, size-fixed, size-string, size-list, size-compound, size_array}
use Rattle.nbt_judging.proofs.body_size.Statement.{statement}
use Rattle.nbt_judging.proofs.body_size.Tie as tie

-- The string that is measured is the record's.
measured : (c : tie.After-text_size) →
    let a = c.args in
    let h = head_of a.table.now a.n in
    c.text_size.result ≡ length (recoded (way_no a.way) (part a.doc.now h.start h.size))
measured c =
    let a = c.args in
    c.text_size.ensures ∙ (λ i. length (recoded (way_no a.way) (part a.doc.now (c.word-start.ensures i) (c.word-size.ensures i))))

returns : tie.Need-returns-in-8
returns c =
    ap (λ n. n + 2) (measured c) ∙ sym (size-string _ _ _ (omega (arith, c.in-8.is)))

-- The sum stays small, since it is the payload's size.
add-result : tie.Need-overflow_add-result
add-result c =
    let a = c.args in
    omega (arith, returns c, size-bound (way_no a.way) a.doc.now (head_of a.table.now a.n))

returns-4 : tie.Need-returns-in-0-to-6
returns-4 c =
    c.word-size.ensures ∙ sym (size-fixed _ _ _ (omega arith))

-- An array: what is left of the kinds from 7.
returns-5 : tie.Need-returns-in_default
returns-5 c =
    let other = c.in_default.in_default-own.rest in
    let k = c.word.ensures in
    ap (λ n. n + 4) c.word-size.ensures
    ∙ sym (size_array _ _ _ (omega arith) (λ q. other.0.0.1 (k ∙ q)) (λ q. other.0.1 (k ∙ q)) (λ q. other.1 (k ∙ q)))

pub body_size_spec : {M : Type 1} → statement M
body_size_spec =
    tie.close
    (tie.spec
    (λ c κs. search rules)
    (λ c κs. search rules)
    (λ c κs. search rules)
    (λ c κs. search rules)
    add-result
    (λ c. search rules)
    returns
    (λ c. sym (size-list _ _ _ (omega (arith, c.in-9.is))))
    (λ c. sym (size-compound _ _ _ (omega (arith, c.in-10.is))))
    returns-4
    returns-5)
