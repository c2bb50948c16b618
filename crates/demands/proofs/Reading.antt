-- The theorems on reading, as specs/Reading.antt states them: sound, complete, unambiguous, canonical, never 0.
-- Assumes nothing.
use Prim.Native.Nat.{◌+◌}
use mathlib.Core.Bool.{false≢true}
use mathlib.Core.List.{◌++◌}
use mathlib.Core.Path.{◌≡◌, refl, sym, ap, subst, ◌∙◌}
use native.Mathlib.Omega.{arith}
use lib.Dec.{leb}
use borrow.Author.Tests.{leb-false}
use lib.ListN.{length}
use Rattle.form.specs.Form.{Form}
use Rattle.form.specs.Answer.{document_limit}
use Rattle.form.specs.Spans.{part}
use Rattle.form.proofs.Strings.{well_formed-iff}
use Rattle.form.specs.Tree.{entries_count}
use Rattle.form.specs.Layout.{entry_bytes_in, layout_in}
use Rattle.form.specs.Table.{value_of}
use Rattle.form.specs.Reading.{One, document_at}
use Rattle.snbt_form.specs.Lexing.{among}
use Rattle.demands.specs.Reading.{IsSound, IsComplete, IsUnambiguous, IsCanonical, IsNeverZero}
use Rattle.demands.proofs.Sits.{Sits, sits-front}
use Rattle.form.proofs.Answers.{guard-answers, accepted, of-got}
use Rattle.demands.proofs.Fields.{StringLaw}
use Rattle.demands.proofs.Canonical.{entries-laid}
use Rattle.demands.proofs.Documents.{root_at, document-sound, root-read}
use Rattle.demands.proofs.Numbers.{read-numbers}

-- The layout that a writer gives is a layout.
pub canonical : (form : Form) → IsCanonical form
unfolding layout_in
canonical form d = record { body = entry_bytes_in form d.root; entries = entries-laid form d.root; is = refl }

-- The one law of strings that they rest on: the computed test of a string is the declared one.
wf : (form : Form) → StringLaw form
wf form = well_formed-iff form.strings

-- What is accepted is laid out as the tag layout says.
pub sound : (form : Form) → IsSound form
sound form doc bytes room x e = of-got e (document-sound form (wf form) doc room bytes)

-- All that is laid out so is accepted, whatever follows it, with the tree that was laid out.
pub complete : (form : Form) → IsComplete form
unfolding document_at
complete form d bs rest room laid lawful fits small =
    let doc = bs ++ rest in
    let r = root-read form (wf form) doc room d bs (sits-front bs rest) laid lawful fits in
    let a = accepted (document_at form doc room) (guard-answers (leb (length doc) document_limit) _ _ _ (λ e. absurd (omega (arith, leb-false (length doc) document_limit e, small))) (λ e. r)) in
    record { x = a.0; accepted = a.1; consumed = a.2.0; tree = a.2.1 }

-- So a layout has one reading.
pub unambiguous : (form : Form) → IsUnambiguous form
unambiguous form d₁ d₂ bs₁ rest₁ bs₂ rest₂ lawful₁ lawful₂ laid₁ laid₂ e =
    let doc = bs₁ ++ rest₁ in
    let room = 1 + entries_count d₁.root + entries_count d₂.root in
    let s₁ = sits-front bs₁ rest₁ in
    let s₂ : Sits doc 0 bs₂ = subst (λ l. Sits l 0 bs₂) (sym e) (sits-front bs₂ rest₂) in
    let a₁ = accepted (root_at form doc room) (root-read form (wf form) doc room d₁ bs₁ s₁ laid₁ lawful₁ (omega arith)) in
    let a₂ = accepted (root_at form doc room) (root-read form (wf form) doc room d₂ bs₂ s₂ laid₂ lawful₂ (omega arith)) in
    let x : a₁.0 ≡ a₂.0 = cc (a₁.1, a₂.1) in
    let tree : d₁ ≡ d₂ = sym a₁.2.1 ∙ ap (λ (y : One). value_of form doc y.head y.inner) x ∙ a₂.2.1 in
    let long : length bs₁ ≡ length bs₂ = sym a₁.2.0 ∙ ap (λ (y : One). y.next) x ∙ a₂.2.0 in
    (tree, sym s₁.is ∙ ap (part doc 0) long ∙ s₂.is)

-- No document is answered with the number 0, which is none of a read's.
pub never-zero : (form : Form) → IsNeverZero form
unfolding among
never-zero form doc bytes room p e = false≢true (read-numbers form doc bytes room 0 p e)
