-- The step at a place, case by case: each way through the code is a law of the definition.
-- Assumes nothing.
use Prim.Native.Nat.{ℕ, ◌+◌, ◌^◌, ◌≤◌, ◌<◌}
use mathlib.Core.Path.{◌≡◌, refl, sym, subst, ◌∙◌}
use mathlib.Core.List.{List}
use Rattle.std.specs.Prelude.{Option, Some, None}
use mathlib.Core.Bool.{true, false}
use mathlib.Core.Logic.{⊎_elim}
use native.Mathlib.Omega.{arith}
use lib.ListN.{length, get_or}
use borrow.Author.Tests.{lt-ltb, le-ltb, ne_eqb}
use Rattle.form.proofs.Picks.{lt-or}
use Rattle.form.specs.Form.{Form, asks}
use Rattle.form.specs.Answer.{Out, got, no, bad_query, data_ends, negative_count}
use Rattle.form.specs.Spans.{part}
use Rattle.form.specs.Numbers.{big_endian}
use Rattle.form.specs.Decoding.{well_formed_in}
use Rattle.form.specs.Reading.{number_at, string_at, count_at}
use Rattle.form.specs.Query.{Spelt, blamed, step_by, step_at}
use Rattle.form.proofs.Strings.{is_good-iff, is_good-not}
use Rattle.form.proofs.Fields.{byte-got, number-got, number-no, string-no, string-cut, string-bad, string-got}
use Rattle.query_steps.specs.Steps.{step_of}
use Rattle.query_steps.specs.Spelling.{words_at, bytes_at, Goes, Reads}
use Rattle.query_steps.specs.declared.Step.{Step as StepWords}
use Rattle.query_steps.specs.declared.One.{One}

-- The step of a kind, with its words.
abbrev pub words_of : ℕ → ℕ → ℕ → StepWords
words_of k a n = record { kind = k; at = a; len = n }

-- A step that was read.
abbrev pub one : StepWords → ℕ → Option One
one s i = Some (record { step = s; next = i })

-- A refusal goes nowhere.
pub bad-goes : (q : List ℕ) (at : ℕ) (t : One) → None ≡ Some t → Goes q at t.step t.next
bad-goes q at t e = absurd (let z : ◌≡◌ {A = ℕ} 0 1 = cc in omega arith)

module _ (form : Form) (q : List ℕ) (at : ℕ) where
  -- What a step that was read goes by.
  pub next-goes : (s : StepWords) (i : ℕ) → Goes q at s i → (t : One) → one s i ≡ Some t → Goes q at t.step t.next
  next-goes s i g t e =
      let a : ◌≡◌ {A = One} (record { step = s; next = i }) t = cc in
      subst (λ (x : One). Goes q at x.step x.next) a g

  bad_is : (o : Out Spelt) → no bad_query at ≡ o → Reads q at o None
  bad_is o e = record { is = e; goes = bad-goes q at }

  -- ---- 01

  -- The string is refused.
  name-off : {n p : ℕ} → string_at (asks form) q (at + 1) ≡ no n p → Reads q at (blamed at (step_by form q 1 at)) None
  unfolding step_by
  name-off e = bad_is (blamed at (step_by form q 1 at)) (rw e)

  pub name-short : length q < at + 3 → Reads q at (blamed at (step_by form q 1 at)) None
  name-short h = name-off (string-no (asks form) q (at + 1) (number-no (asks form) q 2 (at + 1) (omega arith)))

  module _ (whole : at + 3 ≤ length q) where
    length_is : number_at (asks form) q 2 (at + 1) ≡ got (big_endian (part q (at + 1) 2))
    length_is = number-got (asks form) q 2 (at + 1) (omega arith)

    pub name-cut : length q < at + 3 + big_endian (part q (at + 1) 2) → Reads q at (blamed at (step_by form q 1 at)) None
    name-cut h = name-off (string-cut (asks form) q (at + 1) (big_endian (part q (at + 1) 2)) length_is (omega arith))

    module _ (fits : at + 3 + big_endian (part q (at + 1) 2) ≤ length q) where
      pub name-bad : well_formed_in form.strings (part q (at + 3) (big_endian (part q (at + 1) 2))) ≡ false → Reads q at (blamed at (step_by form q 1 at)) None
      name-bad w =
          let z : at + 3 ≡ at + 1 + 2 = omega arith in
          name-off (string-bad (asks form) q (at + 1) (big_endian (part q (at + 1) 2)) length_is (omega arith) (is_good-not _ (rw z at w)).1)

      pub name-got : get_or q at 0 ≡ 1 → well_formed_in form.strings (part q (at + 3) (big_endian (part q (at + 1) 2))) ≡ true → big_endian (part q (at + 1) 2) < 65536
          → Reads q at (blamed at (step_by form q 1 at)) (one (words_of 1 (at + 3) (big_endian (part q (at + 1) 2))) (at + 3 + big_endian (part q (at + 1) 2)))
      unfolding step_by step_of words_at bytes_at
      name-got b w small =
          let n = big_endian (part q (at + 1) 2) in
          let z : at + 3 ≡ at + 1 + 2 = omega arith in
          let s = string-got (asks form) q (at + 1) n length_is (omega arith) ((is_good-iff _).0 (rw z at w)) in
          record {
            is = rw (s, z);
            goes = next-goes (words_of 1 (at + 3) n) (at + 3 + n) (record { words = rw b refl; place = rw b (omega arith); after = omega arith; near = omega arith; name = λ e. fits });
          }

  -- ---- 02

  -- The count is refused.
  index-off : {n p : ℕ} → count_at (asks form) q (at + 1) ≡ no n p → Reads q at (blamed at (step_by form q 2 at)) None
  unfolding step_by
  index-off e = bad_is (blamed at (step_by form q 2 at)) (rw e)

  pub index_short : length q < at + 5 → Reads q at (blamed at (step_by form q 2 at)) None
  unfolding count_at
  index_short h = index-off {n = data_ends} {p = at + 1} (rw (number-no (asks form) q 4 (at + 1) (omega arith)))

  pub index_below : at + 5 ≤ length q → 2 ^ 31 ≤ big_endian (part q (at + 1) 4) → Reads q at (blamed at (step_by form q 2 at)) None
  unfolding count_at
  index_below h b = index-off {n = negative_count} {p = at + 1} (rw (number-got (asks form) q 4 (at + 1) (omega arith), le-ltb (big_endian (part q (at + 1) 4)) (2 ^ 31) b))

  pub index-got : get_or q at 0 ≡ 2 → at + 5 ≤ length q → big_endian (part q (at + 1) 4) < 2 ^ 31
      → Reads q at (blamed at (step_by form q 2 at)) (one (words_of 2 (big_endian (part q (at + 1) 4)) 0) (at + 5))
  unfolding step_by step_of count_at words_at bytes_at
  index-got two h b =
      let n = big_endian (part q (at + 1) 4) in
      let s : count_at (asks form) q (at + 1) ≡ got n = rw (number-got (asks form) q 4 (at + 1) (omega arith), lt-ltb n (2 ^ 31) b) in
      record {
        is = rw s;
        goes = next-goes (words_of 2 n 0) (at + 5)
            (record { words = rw two refl; place = rw two refl; after = omega arith; near = omega arith; name = λ (e : 2 ≡ 1). absurd (omega arith) });
      }

  -- ---- the step at a place

  module _ (in-q : at < length q) where
    -- It is that of its first byte.
    by_kind : (k : ℕ) → get_or q at 0 ≡ k → step_at form q at ≡ blamed at (step_by form q k at)
    unfolding step_at
    by_kind k e = rw (byte-got q at in-q, e)

    pub kind_is : (k : ℕ) (r : Option One) → get_or q at 0 ≡ k → Reads q at (blamed at (step_by form q k at)) r → Reads q at (step_at form q at) r
    kind_is k r e s = record { is = s.is ∙ sym (by_kind k e); goes = s.goes }

    -- 03 and 04 are a byte.
    plain-goes : (get_or q at 0 ≡ 1 → ⊥) → (get_or q at 0 ≡ 2 → ⊥) → (t : One) → one (words_of (get_or q at 0) 0 0) (at + 1) ≡ Some t → Goes q at t.step t.next
    unfolding words_at bytes_at
    plain-goes n m = next-goes (words_of (get_or q at 0) 0 0) (at + 1) (record {
      words = rw (ne_eqb (get_or q at 0) 1 n, ne_eqb (get_or q at 0) 2 m) refl;
      place = rw (ne_eqb (get_or q at 0) 1 n, ne_eqb (get_or q at 0) 2 m) refl;
      after = omega arith;
      near = omega arith;
      name = λ (e : get_or q at 0 ≡ 1). absurd (n e);
    })

    pub any-is : get_or q at 0 ≡ 3 → Reads q at (step_at form q at) (one (words_of (get_or q at 0) 0 0) (at + 1))
    unfolding step_by step_of
    any-is e = record { is = rw e (sym (by_kind 3 e)); goes = plain-goes (λ f. omega arith) (λ f. omega arith) }

    pub deep_is : get_or q at 0 ≡ 4 → Reads q at (step_at form q at) (one (words_of (get_or q at 0) 0 0) (at + 1))
    unfolding step_by step_of
    deep_is e = record { is = rw e (sym (by_kind 4 e)); goes = plain-goes (λ f. omega arith) (λ f. omega arith) }

    pub any-or-deep : 3 ≤ get_or q at 0 → get_or q at 0 < 5 → Reads q at (step_at form q at) (one (words_of (get_or q at 0) 0 0) (at + 1))
    any-or-deep lo hi = ⊎_elim (λ l. any-is (omega arith)) (λ l. deep_is (omega arith)) (lt-or (get_or q at 0) 4)

    -- Any other byte is no step.
    pub none_is : (get_or q at 0 ≡ 1 → ⊥) → (get_or q at 0 ≡ 2 → ⊥) → (get_or q at 0 ≡ 3 → ⊥) → (get_or q at 0 ≡ 4 → ⊥) → Reads q at (step_at form q at) None
    unfolding step_by
    none_is a b c d =
        bad_is (step_at form q at)
        (sym (by_kind (get_or q at 0) refl ∙ rw (step_by, ne_eqb (get_or q at 0) 1 a, ne_eqb (get_or q at 0) 2 b, ne_eqb (get_or q at 0) 3 c, ne_eqb (get_or q at 0) 4 d)))
