-- A name or a payload behind its length or count, each way: as it stands, and as the other form has it; where both forms are alike these are
-- the same bytes.
-- Assumes nothing.
use Prim.Native.Nat.{ℕ, ◌+◌, ◌≤◌, ◌<◌}
use mathlib.Core.Bool.{Bool, true, false, ◌&&◌}
use mathlib.Core.List.{List, [], ◌++◌}
use mathlib.Core.Path.{◌≡◌, refl, sym, ap, ◌∙◌}
use native.Mathlib.Omega.{arith}
use borrow.Author.Tests.{eq-eqb, ne_eqb, eqb-true, eqb-false, lt-ltb, le-ltb}
use lib.ListN.{length}
use lib.Dec.{eqb}
use Rattle.form.specs.Form.{Way, same_order, same_rule}
use Rattle.form.specs.Numbers.{bytes_in}
use Rattle.form.specs.Spans.{part}
use Rattle.form.specs.Turned.{recoded}
use Rattle.form.proofs.Picks.{and_left, and_right}
use Rattle.form.proofs.Spans.{part_length}
use Rattle.form.proofs.Turned.{recoded-same}
use Rattle.recode.specs.Steps.{numbers}
use Rattle.recode.proofs.Numbers.{same-order}
use Rattle.nbt_judging.specs.Pieces.{count_bytes, element_width, text_bytes, span_bytes}
use Rattle.nbt_writer.specs.Steps.{length_bytes, same_bytes}

-- ---- both forms are alike

module _ (way : Way) {r : Bool} (is : r ≡ (same_order way.from.order way.to.order && same_rule way.from.strings way.to.strings)) (alike : r ≡ true) where
  -- Numbers have the same order.
  pub alike-order : same_order way.from.order way.to.order ≡ true
  alike-order = and_left (same_order way.from.order way.to.order) (same_rule way.from.strings way.to.strings) (sym is ∙ alike)

  -- Strings have the same rule.
  pub alike-rule : same_rule way.from.strings way.to.strings ≡ true
  alike-rule = and_right (same_order way.from.order way.to.order) (same_rule way.from.strings way.to.strings) (sym is ∙ alike)

-- ---- what stands before a span

module _ (way : Way) (kind size count : ℕ) where
  -- A string's length.
  pub length-string : kind ≡ 8 → length_bytes way kind size count ≡ bytes_in way.to.order 2 size
  unfolding length_bytes
  length-string e = rw (length_bytes, eq-eqb kind 8 e) refl

  -- Of any other kind what the definition of a payload has.
  pub length-other : (kind ≡ 8 → ⊥) → length_bytes way kind size count ≡ count_bytes way kind count
  unfolding length_bytes count_bytes
  length-other e = rw (length_bytes, ne_eqb kind 8 e) refl

  -- An array's count.
  pub length-array : (kind ≡ 8 → ⊥) → 6 < kind → length_bytes way kind size count ≡ bytes_in way.to.order 4 count
  unfolding count_bytes
  length-array e l = length-other e ∙ rw (count_bytes, lt-ltb 6 kind l) refl

  -- Nothing before a number alone.
  pub length-fixed : kind ≤ 6 → length_bytes way kind size count ≡ []
  unfolding count_bytes
  length-fixed l = length-other (λ e. omega arith) ∙ rw (count_bytes, le-ltb 6 kind l) refl

-- ---- a span behind it

module _ (way : Way) (doc : List ℕ) (kind count start size : ℕ) where
  -- A string as it is written.
  abbrev text : List ℕ
  text = recoded way (part doc start size)

  -- The span of a string.
  pub span-text : kind ≡ 8 → span_bytes way doc kind count start size ≡ text_bytes way doc start size
  unfolding span_bytes
  span-text e = rw (span_bytes, eq-eqb kind 8 e) refl

  -- It is the string as it is written, behind the length that it has there.
  pub span-string : kind ≡ 8 → {n : ℕ} → n ≡ length text → span_bytes way doc kind count start size ≡ length_bytes way kind n count ++ text
  span-string e {n} q =
      span-text e ∙ ap (λ bs. bs ++ text) (ap (bytes_in way.to.order 2) (sym q) ∙ sym (length-string way kind n count e))

  -- The span of any other kind: its numbers, behind an array's count.
  pub span-numbers : (kind ≡ 8 → ⊥) → span_bytes way doc kind count start size ≡ length_bytes way kind size count ++ numbers way (element_width kind) (part doc start size)
  unfolding span_bytes
  span-numbers e =
      rw (span_bytes, ne_eqb kind 8 e) refl ∙ ap (λ bs. bs ++ numbers way (element_width kind) (part doc start size)) (sym (length-other way kind size count e))

  module _ (strings : same_rule way.from.strings way.to.strings ≡ true) (within : start + size ≤ length doc) where
    -- A string that is written by its own rule is written as it stands.
    pub text_same : kind ≡ 8 → same_bytes way doc kind count start size ≡ text_bytes way doc start size
    text_same e =
        let same = recoded-same way (part doc start size) strings in
        let long : size ≡ length text = sym (ap length same ∙ part_length doc start size within) in
        ap (λ bs. bs ++ part doc start size) (length-string way kind size count e) ∙ (λ i. bytes_in way.to.order 2 (long i) ++ sym same i)

    -- So is every span where the order is the same too.
    pub span_same : same_order way.from.order way.to.order ≡ true → same_bytes way doc kind count start size ≡ span_bytes way doc kind count start size
    span_same order = go (eqb kind 8) refl
      where
        go : (b : Bool) → eqb kind 8 ≡ b → same_bytes way doc kind count start size ≡ span_bytes way doc kind count start size
        go true q = let e = eqb-true kind 8 q in text_same e ∙ sym (span-text e)
        go false q =
            ap (λ bs. length_bytes way kind size count ++ bs) (sym (same-order way (element_width kind) doc start size order))
            ∙ sym (span-numbers (eqb-false kind 8 q))
