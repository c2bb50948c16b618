-- The theorems on texts, as specs/Texts.antt states them.
-- Assumes nothing.
use Prim.Native.Nat.{ℕ, ◌+◌}
use mathlib.Core.Bool.{Bool, true, false}
use mathlib.Core.Bool.{false≢true}
use mathlib.Core.List.{[]}
use mathlib.Core.Path.{◌≡◌, refl, sym, ap, ◌∙◌}
use native.Mathlib.Omega.{arith}
use lib.ListN.{length}
use lib.Dec.{leb}
use borrow.Author.Tests.{leb-true, leb-false}
use Rattle.form.specs.Answer.{Out, got, no, over_limit, bad_text, text_limit}
use Rattle.form.specs.Strings.{WellFormedUtf8}
use Rattle.form.specs.Decoding.{Verdict, good, bad, utf8_verdict}
use Rattle.form.specs.Numbers.{digits}
use Rattle.form.specs.Spans.{over}
use Rattle.form.specs.Tree.{Entries}
use Rattle.form.specs.Layout.{entry_bytes, layout, layout_in}
use Rattle.form.proofs.Answer.{got-no}
use Rattle.form.specs.Form.{java, utf8}
use Rattle.form.proofs.Strings.{string-judged}
use Rattle.form.proofs.Places.{part-over}
use Rattle.form.proofs.Table.{over-length}
use Rattle.snbt_form.specs.Lexing.{among}
use Rattle.snbt_form.specs.Lexing.{judged_text}
use Rattle.snbt_form.specs.Text.{document_of, output_after}
use Rattle.snbt_form.proofs.Gives.{gives-it}
use Rattle.demands.specs.Texts.{TextJudged, IsTextJudged, IsLawfulText, IsTextFills, IsTextConsumed, IsTextOutput, IsTextReadBack, IsTextNeverZero, IsOneTextAnswer}
use Rattle.demands.proofs.Meant.{parsed-fine}
use Rattle.demands.proofs.Numbers.{parse-numbers}
use Rattle.demands.proofs.Reading.{canonical, complete}

-- A good verdict is no bad one.
good-bad : {i : ℕ} → good ≡ bad i → ⊥
good-bad {i} e = let z : ◌≡◌ {A = ℕ} 0 1 = cc in omega arith

-- 9 and 15 are apart, and neither is an acceptance.
numbers_apart : {n m p q : ℕ} → ◌≡◌ {A = Out (Unit {0})} (no n p) (no m q) → n ≡ m
numbers_apart {n} {m} {p} {q} e = cc

-- The computed test of UTF-8 is the declared one.
pub text-judged : IsTextJudged
unfolding judged_text
text-judged t = go (leb (length t) text_limit) (utf8_verdict t) refl refl
  where
    go : (b : Bool) (v : Verdict) → leb (length t) text_limit ≡ b → utf8_verdict t ≡ v → TextJudged t
    go false v h k =
        let long = leb-false (length t) text_limit h in
        let is : judged_text t ≡ no over_limit 0 = rw h refl in
        record {
          fine = (λ e. absurd (got-no (sym e ∙ is)), λ p. absurd (omega (arith, p.0, long)));
          large = (λ e. long, λ l. is);
          bad = (λ e. absurd (omega (arith, numbers_apart (sym e ∙ is))), λ p. absurd (omega (arith, p.0, long)));
        }
    go true good h k =
        let short = leb-true (length t) text_limit h in
        let is : judged_text t ≡ got tt = rw (h, k) refl in
        let formed = (string-judged utf8 t).good_is.0 k in
        record {
          fine = (λ e. (short, formed), λ p. is);
          large = (λ e. absurd (got-no (sym is ∙ e)), λ l. absurd (omega (arith, short)));
          bad = (λ e. absurd (got-no (sym is ∙ e)), λ p. absurd (p.1 formed));
        }
    go true (bad i) h k =
        let short = leb-true (length t) text_limit h in
        let is : judged_text t ≡ no bad_text 0 = rw (h, k) refl in
        let not-formed : WellFormedUtf8 t → ⊥ = λ w. good-bad (sym ((string-judged utf8 t).good_is.1 w) ∙ k) in
        record {
          fine = (λ e. absurd (got-no (sym e ∙ is)), λ p. absurd (not-formed p.1));
          large = (λ e. absurd (omega (arith, numbers_apart (sym e ∙ is))), λ l. absurd (omega (arith, short)));
          bad = (λ e. (short, not-formed), λ p. is);
        }

-- What a text means keeps the rules.
pub lawful-text : IsLawfulText
lawful-text t room b e =
    let x = gives-it e (parsed-fine t room) in
    record { name = (([], tt, refl), omega arith); valid = x.valid; depth_le = omega (arith, x.deep) }

-- A root without a name takes three bytes.
root-length : (es : Entries) → length (layout (record { name = []; root = es })) ≡ 3 + length (entry_bytes es)
unfolding layout_in digits
root-length es = omega arith

-- It takes the bytes counted.
pub text-fills : IsTextFills
text-fills t room b e = let x = gives-it e (parsed-fine t room) in (omega (arith, x.used, root-length b.entries), x.fits)

-- It ends in the text.
pub text-consumed : IsTextConsumed
text-consumed t room b e = (gives-it e (parsed-fine t room)).ahead.1

-- So its layout stands in the output, and nothing behind it.
pub text-output : IsTextOutput
text-output t o b answer o' e p =
    let w = layout (document_of b) in
    let f = text-fills t (length o) b e in
    let q : o' ≡ over o 0 w = p.output_is ∙ ap (λ x. output_after x o) e in
    rw (q, f.0) (over-length o 0 w (omega (arith, f.0, f.1)), part-over o 0 w (omega arith))

-- Its layout is lawful and canonical, so it is read back.
pub text-read-back : IsTextReadBack
text-read-back t room b e rest small records few =
    let d = document_of b in
    complete java d (layout d) rest records (canonical java d) (lawful-text t room b e) few small

-- Each turn moves on in the text, so that no bound runs out: 0 is none of the numbers of a parse.
pub text-never-zero : IsTextNeverZero
unfolding among
text-never-zero t room p e = false≢true (parse-numbers t room 0 p e)

-- Both are what the definition says.
pub one-text-answer : IsOneTextAnswer
one-text-answer t o a₁ a₂ o₁ o₂ p q = (p.answer_is ∙ sym q.answer_is, p.output_is ∙ sym q.output_is)
