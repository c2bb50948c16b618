-- A step and a level, case by case: what a struct's step is, what a level is in the table's words, and whether the one takes the other.
-- Assumes nothing.
use Prim.Native.Nat.{ℕ, ◌+◌, ◌-◌, ◌≤◌, ◌<◌}
use mathlib.Core.Path.{◌≡◌, refl, sym, ◌∙◌}
use mathlib.Core.List.{List}
use mathlib.Core.Bool.{Bool, true, false}
use lib.ListN.{length, get_or}
use lib.Dec.{eqb}
use borrow.Author.Tests.{ne_eqb}
use Rattle.form.specs.Answer.{pick}
use Rattle.form.specs.Spans.{part, same}
use Rattle.form.specs.Table.{word}
use Rattle.form.specs.Paths.{Hop, named, item, name, index, any, deep, takes}
use Rattle.form.specs.Records.{hop_of}
use Rattle.form.proofs.Spans.{same_head, same-differ, same-lengths, part_length}
use Rattle.query_steps.specs.Steps.{step_of}
use Rattle.query_steps.specs.declared.Step.{Step as StepWords}
use Rattle.query_reach.specs.Levels.{name_of, hop_to, RecordIn}
use Rattle.query_reach.specs.Reached.{is_deep}
use Rattle.query_reach.proofs.Runs.{part-more}

-- What is left of two parts begins alike, and it does not.
module _ (p q : List ℕ) (x y i n : ℕ) (lt : i < n) (in_p : x + n ≤ length p) (in-q : y + n ≤ length q) where
  pub same_more : get_or p (x + i) 0 ≡ get_or q (y + i) 0
      → same (part p (x + i) (n - i)) (part q (y + i) (n - i)) ≡ same (part p (x + (i + 1)) (n - (i + 1))) (part q (y + (i + 1)) (n - (i + 1)))
  same_more e = rw (part-more p x i n lt in_p, part-more q y i n lt in-q, e) (same_head _ _ _)

  pub same-less : (get_or p (x + i) 0 ≡ get_or q (y + i) 0 → ⊥) → same (part p (x + i) (n - i)) (part q (y + i) (n - i)) ≡ false
  same-less e = rw (part-more p x i n lt in_p, part-more q y i n lt in-q) (same-differ _ _ _ _ e)

-- A name of the query and a record's name, of one length and of two.
module _ (doc t q : List ℕ) (at len c : ℕ) where
  pub name-alike : word t c 2 ≡ len → (r : Bool) → r ≡ same (part q at len) (part doc (word t c 1) len) → r ≡ same (part q at len) (name_of doc t c)
  name-alike e r h = rw e h

  pub name-longer : (word t c 2 ≡ len → ⊥) → at + len ≤ length q → RecordIn doc t c → false ≡ same (part q at len) (name_of doc t c)
  name-longer n s z =
      let x = part_length q at len s in
      let y = part_length doc (word t c 1) (word t c 2) z.name in
      sym (same-lengths (part q at len) (name_of doc t c) (λ e. n (sym y ∙ sym e ∙ x)))

-- ---- what a struct's step is

module _ (q : List ℕ) (t : StepWords) where
  step-name : t.kind ≡ 1 → step_of q t ≡ name (part q t.at t.len)
  unfolding step_of
  step-name h = rw h

  step-index : t.kind ≡ 2 → step_of q t ≡ index t.at
  unfolding step_of
  step-index h = rw h

  pub step-deep : t.kind ≡ 4 → is_deep (step_of q t) ≡ true
  unfolding step_of
  step-deep h = rw h

  pub step-shallow : (t.kind ≡ 4 → ⊥) → is_deep (step_of q t) ≡ false
  unfolding step_of
  step-shallow h = rw (ne_eqb t.kind 4 h) (go (eqb t.kind 1) (eqb t.kind 2))
    where
      go : (x y : Bool) → is_deep (pick x (name (part q t.at t.len)) (pick y (index t.at) any)) ≡ false
      go true y = refl
      go false true = refl
      go false false = refl

  -- 03 and 04 take any level.
  pub takes-rest : (t.kind ≡ 1 → ⊥) → (t.kind ≡ 2 → ⊥) → (h : Hop) → takes (step_of q t) h ≡ true
  unfolding step_of
  takes-rest a b h = rw (ne_eqb t.kind 1 a, ne_eqb t.kind 2 b) (go (eqb t.kind 4) h)
    where
      go : (x : Bool) (h : Hop) → takes (pick x deep any) h ≡ true
      go true (named n) = refl
      go true (item i) = refl
      go false (named n) = refl
      go false (item i) = refl

-- ---- what a level is

module _ (doc t : List ℕ) (parent c i : ℕ) where
  hop-named : word t parent 0 ≡ 10 → hop_to doc t parent c i ≡ named (name_of doc t c)
  unfolding hop_of
  hop-named h = rw h

  hop-item : (word t parent 0 ≡ 10 → ⊥) → hop_to doc t parent c i ≡ item i
  unfolding hop_of
  hop-item h = rw (ne_eqb (word t parent 0) 10 h)

-- ---- whether a step takes a level

module _ (doc w q : List ℕ) (t : StepWords) (parent c i : ℕ) where
  pub takes-name : t.kind ≡ 1 → word w parent 0 ≡ 10 → (r : Bool) → r ≡ same (part q t.at t.len) (name_of doc w c) → r ≡ takes (step_of q t) (hop_to doc w parent c i)
  takes-name h k r e = rw (step-name q t h, hop-named doc w parent c i k) e

  pub takes-no-name : t.kind ≡ 1 → (word w parent 0 ≡ 10 → ⊥) → false ≡ takes (step_of q t) (hop_to doc w parent c i)
  takes-no-name h k = rw (step-name q t h, hop-item doc w parent c i k)

  pub takes-no-index : t.kind ≡ 2 → word w parent 0 ≡ 10 → false ≡ takes (step_of q t) (hop_to doc w parent c i)
  takes-no-index h k = rw (step-index q t h, hop-named doc w parent c i k)

  pub takes-index : t.kind ≡ 2 → (word w parent 0 ≡ 10 → ⊥) → eqb t.at i ≡ takes (step_of q t) (hop_to doc w parent c i)
  takes-index h k = rw (step-index q t h, hop-item doc w parent c i k)

  pub takes-any : (t.kind ≡ 1 → ⊥) → (t.kind ≡ 2 → ⊥) → true ≡ takes (step_of q t) (hop_to doc w parent c i)
  takes-any a b = sym (takes-rest q t a b (hop_to doc w parent c i))
