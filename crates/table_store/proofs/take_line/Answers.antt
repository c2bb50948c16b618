-- `table_store::take_line` meets its contract: each word is put behind those that stand.
-- Assumes nothing.
use Rattle.std.proofs.Common.{◌≡◌, ◌+◌, ◌*◌, true, set, sym, ap, ◌∙◌, subst, arith}
use Rattle.form.specs.Spans.{part, over}
use Rattle.form.specs.Stored.{all_digits, hex_value, words_of}
use Rattle.form.proofs.Stored.{span-digits}
use Rattle.table_store.proofs.Reading.{no_words, word-put, part-part}
use Rattle.table_store.proofs.take_line.Goals as goal

pub loop-k-init : goal.loop-k-init
loop-k-init c = no_words c.args.table.now (9 * c.args.n) (part c.args.lines.now (73 * c.args.n) 72)

pub word_at-requires : goal.word_at-requires
word_at-requires c =
    let s = c.args.lines.now in
    let at = 73 * c.args.n in
    let k = c.loop-k.k in (
      omega arith,
      subst (λ x. all_digits x ≡ true) (part-part s at 72 (8 * k) 8 c.requires.0 (omega arith)) (span-digits (part s at 72) c.requires.2 (8 * k) 8),
    )

pub loop-k-preserved : goal.loop-k-preserved
loop-k-preserved c =
    let l = c.loop-k in
    let s = c.args.lines.now in
    let t = c.args.table.now in
    let n = c.args.n in
    let line = part s (73 * n) 72 in
    let word : c.word_at.result ≡ hex_value (part line (8 * l.k) 8) =
    c.word_at.ensures ∙ ap hex_value (sym (part-part s (73 * n) 72 (8 * l.k) 8 c.requires.0 (omega arith))) in
    ap (λ x. set x (9 * n + l.k) c.word_at.result) l.invariant
    ∙ ap (set (over t (9 * n) (words_of l.k line)) (9 * n + l.k)) word
    ∙ word-put t line (9 * n) l.k (omega arith)
