-- Refusal 4's place (02, [3]): each way to find it is a law of the definition.
-- Assumes nothing.
use Prim.Native.Nat.{ℕ, ◌+◌, ◌≤◌}
use mathlib.Core.List.{List}
use mathlib.Core.Path.{◌≡◌, refl}
use native.Mathlib.Omega.{arith}
use borrow.Author.Tests.{ne_eqb}
use lib.ListN.{length}
use Rattle.form.specs.Form.{Way}
use Rattle.form.specs.Answer.{no, failed, bad_string}
use Rattle.form.specs.Refusals.{number_of}
use Rattle.form.specs.declared.refusals.Refusal.{Refusal}
use Rattle.form.specs.declared.refusals.Refusal.TheVariants.{DataEnds, RootId, TagId, BadString, NegativeCount, NameTwice, TooDeep, TableFull, OverLimit, NoTable, MixedList, LongString, OutputFull, BadQuery, BadText, QuoteOpen, UnknownEscape, BadNumber, UnexpectedToken, TextEnds, TrailingComma, UnmatchedBrace, DecimalBeyond, MoreMatches, BadLine, NotCut, RootCut}
use Rattle.form.specs.Spans.{part}
use Rattle.form.specs.Decoding.{good, bad, verdict_in}
use Rattle.form.specs.Table.{Head, head_of}
use Rattle.form.specs.Writing.{bad_place, answer_of}
use Rattle.form.proofs.Spans.{part_length}
use Rattle.form.proofs.Strings.{bad-within}

-- A sequence that can't be read begins within its span.
pub place-within : (way : Way) (doc : List ℕ) (start size k : ℕ) → start + size ≤ length doc → verdict_in way.from.strings (part doc start size) ≡ bad k → start + k ≤ length doc
place-within way doc start size k l e = omega (arith, bad-within way.from.strings (part doc start size) k e, part_length doc start size l, l)

module _ (way : Way) (doc : List ℕ) (h : Head) where
  -- The name can't be read.
  pub place-name : {k : ℕ} → verdict_in way.from.strings (part doc h.name h.name_length) ≡ bad k → h.name + k ≡ bad_place way doc h
  unfolding bad_place
  place-name e = rw (bad_place, e) refl

  module _ (fine : verdict_in way.from.strings (part doc h.name h.name_length) ≡ good) where
    -- It can, and the payload can't.
    pub place-string : {k : ℕ} → verdict_in way.from.strings (part doc h.start h.size) ≡ bad k → h.start + k ≡ bad_place way doc h
    unfolding bad_place
    place-string e = rw (bad_place, fine, e) refl

    -- Both can.
    pub place_none : verdict_in way.from.strings (part doc h.start h.size) ≡ good → 0 ≡ bad_place way doc h
    unfolding bad_place
    place_none e = rw (bad_place, fine, e) refl

-- No other refusal has 4's number.
other-number : (r : Refusal) → (r ≡ BadString → ⊥) → number_of r ≡ bad_string → ⊥
other-number DataEnds n e = omega arith
other-number RootId n e = omega arith
other-number TagId n e = omega arith
other-number BadString n e = n refl
other-number NegativeCount n e = omega arith
other-number NameTwice n e = omega arith
other-number TooDeep n e = omega arith
other-number TableFull n e = omega arith
other-number OverLimit n e = omega arith
other-number NoTable n e = omega arith
other-number MixedList n e = omega arith
other-number LongString n e = omega arith
other-number OutputFull n e = omega arith
other-number BadQuery n e = omega arith
other-number BadText n e = omega arith
other-number QuoteOpen n e = omega arith
other-number UnknownEscape n e = omega arith
other-number BadNumber n e = omega arith
other-number UnexpectedToken n e = omega arith
other-number TextEnds n e = omega arith
other-number TrailingComma n e = omega arith
other-number UnmatchedBrace n e = omega arith
other-number DecimalBeyond n e = omega arith
other-number MoreMatches n e = omega arith
other-number BadLine n e = omega arith
other-number NotCut n e = omega arith
other-number RootCut n e = omega arith

module _ (way : Way) (doc t : List ℕ) (n : ℕ) where
  -- The refusal is 4.
  pub answer-bad : {p : ℕ} → p ≡ bad_place way doc (head_of t n) → failed bad_string p n ≡ answer_of way doc t (no bad_string n)
  answer-bad q = rw q refl

  -- It is another.
  pub answer-other : (r : Refusal) → (r ≡ BadString → ⊥) → failed (number_of r) n 0 ≡ answer_of way doc t (no (number_of r) n)
  answer-other r e = rw (ne_eqb (number_of r) bad_string (other-number r e)) refl
