-- Laws for the judgement of lines and the answer of a move: the words of good lines form a table exactly if rule 7 holds record by record of
-- the digits, and what is put then is the other edition's lines of the same tree.
-- Assumes nothing.
use Prim.Native.Nat.{ℕ, ◌*◌, ◌≤◌, ◌<◌}
use mathlib.Core.Path.{◌≡◌, refl, sym, ap, subst, ◌∙◌}
use mathlib.Core.List.{List}
use mathlib.Core.Bool.{Bool, true, false, not}
use native.Mathlib.Omega.{arith}
use lib.ListN.{length}
use Rattle.form.specs.Answer.{Out, got, no, document_limit, no_table, output_full}
use Rattle.form.specs.Table.{Forest, none, node, size}
use Rattle.form.specs.Rows.{RowsAre}
use Rattle.form.specs.Records.{SitsAt}
use Rattle.form.specs.Stored.{fitting}
use Rattle.form.specs.Moved.{Edition, eight, nine, other, words_in, parented, word_in, Forms, tree_in, tree_lines, movable, MoveIs}
use Rattle.form.specs.Writing.{length_of, Gives}
use Rattle.form.proofs.Answer.{got-no}
use Rattle.form.proofs.Table.{size-one}
use Rattle.form.proofs.Records.{sits-too, above-too}
use Rattle.form.proofs.Rows.{Grown, grown-rows, rows_grown}
use Rattle.form.proofs.Stored.{lines-length, fitting-fits, fitting-full}
use Rattle.form.proofs.Moved.{flat-in-length, flat-in-sits, Formed, forms, formed, formed-tree, formed-records, formed-grown, grown-formed, movable-lines, movable-large}
use Rattle.std.specs.Prelude.{Result}
use Rattle.form.specs.declared.refusals.Refused.{Refused}
use Rattle.table_store.specs.Steps.{answer_out}
use Rattle.table_stored.specs.Words.{edition_of, line_in, line_word}
use Rattle.table_moves.specs.Steps.{AreWords, Taken, TakenIs, Judged, JudgedIs, Planted, PutIs}

-- ---- the words of lines, and the digits

-- A tree is got from other words that are the same.
grown-too : (d : ℕ) (get get' : ℕ → ℕ → ℕ) (up : Bool) (n : ℕ) → Grown d get up n
    → ((i : ℕ) → i < n → (k : ℕ) → k < 8 → get' i k ≡ get i k) → ((i : ℕ) → i < n → up ≡ true → get' i 8 ≡ get i 8) → Grown d get' up n
unfolding size
grown-too d get get' up n g eights ninth =
    let f : Forest = node g.head g.inner none in
    let sized = g.sized in
    record {
      head = g.head;
      inner = g.inner;
      compound = g.compound;
      fair = g.fair;
      sits = sits-too get get' 0 f g.sits (λ i lo hi. eights i (omega arith));
      under = above-too get get' up 0 0 f g.under (λ i lo hi. ninth i (omega arith));
      sized = g.sized;
    }

-- Eight words are in each edition, and the ninth where it names the parent.
eight-in : (e : Edition) (k : ℕ) → k < 8 → k < words_in e
eight-in eight k h = h
eight-in nine k h = omega arith

ninth-in : (e : Edition) → parented e ≡ true → 8 < words_in e
ninth-in eight h = absurd (let z : ◌≡◌ {A = ℕ} 0 1 = cc in omega arith)
ninth-in nine h = omega arith

module _ (e : Edition) (d : ℕ) (s ws : List ℕ) (n : ℕ) (w : AreWords e s n ws) where
  -- The words form a table if rule 7 holds of the digits,
  rows-formed : RowsAre d (line_word e s) (parented e) n → Formed e d ws
  rows-formed r =
      grown-formed e d ws n w.long (grown-too d (line_word e s) (word_in e ws) (parented e) n (rows_grown d (line_word e s) (parented e) n r)
      (λ i h k l. w.each i h k (eight-in e k l)) (λ i h up. w.each i h 8 (ninth-in e up)))

  -- A table has as many records as there are lines,
  formed-size : (t : Formed e d ws) → size (node t.head t.inner none) ≡ n
  formed-size t = size-one t.head t.inner ∙ formed-records e d ws t n w.long

  -- and its tree is got from the digits,
  formed-lined : (t : Formed e d ws) → Grown d (line_word e s) (parented e) n
  formed-lined t =
      grown-too d (word_in e ws) (line_word e s) (parented e) n (subst (Grown d (word_in e ws) (parented e)) (formed-records e d ws t n w.long) (formed-grown e d ws t))
      (λ i h k l. sym (w.each i h k (eight-in e k l))) (λ i h up. sym (w.each i h 8 (ninth-in e up)))

  -- so that rule 7 holds of them.
  formed-rows : Formed e d ws → RowsAre d (line_word e s) (parented e) n
  formed-rows t = grown-rows d (line_word e s) (parented e) n (formed-lined t)

  -- The same of the tree that the table stands for.
  tree-sits : (t : Forms e d ws) → SitsAt (line_word e s) 0 (tree_in e d ws t)
  tree-sits t =
      let u = formed e d ws t in
      let f : Forest = node u.head u.inner none in
      let sits : SitsAt (word_in e ws) 0 f = subst (λ x. SitsAt (word_in e x) 0 f) (sym u.these) (flat-in-sits e f) in
      rw (formed-tree e d ws t)
      (sits-too (word_in e ws) (line_word e s) 0 f sits (λ i lo hi k l. sym (w.each i (omega (arith, formed-size u)) k (eight-in e k l))))

  tree-size : (t : Forms e d ws) → size (tree_in e d ws t) ≡ n
  tree-size t = ap size (formed-tree e d ws t) ∙ formed-size (formed e d ws t)

-- How many bytes the lines of a tree have.
tree-length : (e : Edition) (f : Forest) → length (tree_lines e f) ≡ line_in e * size f
tree-length eight f = lines-length 8 (size f) _ (omega (arith, flat-in-length eight f))
tree-length nine f = lines-length 9 (size f) _ (omega (arith, flat-in-length nine f))

-- ---- what is refused

got-one : {A : Type 0} {x y : A} → ◌≡◌ {A = Out A} (got x) (got y) → x ≡ y
got-one e = cc

module _ (e : Edition) (d : ℕ) (s o : List ℕ) where
  -- The words of the lines are refused (9, 29).
  pub move-bad : (n p : ℕ) → movable e d s ≡ no n p → MoveIs e d s o (no n p) o
  move-bad n p h = record {
    bad = λ m q k. let same : no n p ≡ no m q = sym h ∙ k in record { answer_is = ap length_of same; output_is = refl };
    unfit = λ ws k f. absurd (got-no (sym k ∙ h));
    fit = λ ws k t. absurd (got-no (sym k ∙ h));
  }

  module _ (ws : List ℕ) (read : movable e d s ≡ got ws) where
    -- The words are those.
    these : (vs : List ℕ) → movable e d s ≡ got vs → ws ≡ vs
    these vs k = got-one (sym read ∙ k)

    -- They form no table (10).
    pub move-unfit : (Forms e d ws → ⊥) → MoveIs e d s o (no no_table 0) o
    move-unfit f = record {
      bad = λ m q k. absurd (got-no (sym read ∙ k));
      unfit = λ vs k g. record { answer_is = refl; output_is = refl };
      fit = λ vs k t. absurd (f (subst (Forms e d) (sym (these vs k)) t));
    }

    -- They form one.
    move-fit : (answer : Out ℕ) (o' : List ℕ) → Forms e d ws → ((t : Forms e d ws) → Gives (fitting (tree_lines (other e) (tree_in e d ws t)) (length o)) o answer o')
        → MoveIs e d s o answer o'
    move-fit answer o' t g = record {
      bad = λ m q k. absurd (got-no (sym read ∙ k));
      unfit = λ vs k f. absurd (f (subst (Forms e d) (these vs k) t));
      fit = λ vs k u. given vs (these vs k) u;
    }
      where
        given : (vs : List ℕ) → ws ≡ vs → (u : Forms e d vs) → Gives (fitting (tree_lines (other e) (tree_in e d vs u)) (length o)) o answer o'
        given vs same = subst (λ x. (u : Forms e d x) → Gives (fitting (tree_lines (other e) (tree_in e d x u)) (length o)) o answer o') same g

    module _ (n : ℕ) (w : AreWords e s n ws) (rows : RowsAre d (line_word e s) (parented e) n) where
      lines_long : (t : Forms e d ws) → length (tree_lines (other e) (tree_in e d ws t)) ≡ line_in (other e) * n
      lines_long t = tree-length (other e) (tree_in e d ws t) ∙ ap (λ k. line_in (other e) * k) (tree-size e d s ws n w t)

      -- The output is too short (13).
      pub move-full : length o < line_in (other e) * n → MoveIs e d s o (no output_full 0) o
      move-full h =
          move-fit (no output_full 0) o (forms e d ws (rows-formed e d s ws n w rows))
          (λ t. rw (fitting-full (tree_lines (other e) (tree_in e d ws t)) (length o) (rw (lines_long t) h)) (record { answer_is = refl; output_is = refl }))

      -- The lines are put.
      pub move-put : (o' : List ℕ) → line_in (other e) * n ≤ length o → PutIs e s n o o' → MoveIs e d s o (got (line_in (other e) * n)) o'
      move-put o' h put =
          move-fit (got (line_in (other e) * n)) o' (forms e d ws (rows-formed e d s ws n w rows))
          (λ t.
          let f = tree_in e d ws t in
          rw (fitting-fits (tree_lines (other e) f) (length o) (rw (lines_long t) h))
          (record { answer_is = ap got (sym (lines_long t)); output_is = put f (tree-sits e d s ws n w t) (tree-size e d s ws n w t) }))

-- ---- the judgement, whichever edition is moved

parented-is : (ninth : Bool) → parented (edition_of ninth) ≡ ninth
parented-is true = refl
parented-is false = refl

-- The bytes of a line of the other edition.
pub other-line : (ninth : Bool) → line_in (edition_of (not ninth)) ≡ line_in (other (edition_of ninth))
other-line true = refl
other-line false = refl

pub line-few : (e : Edition) → line_in e ≤ 73
line-few eight = omega arith
line-few nine = omega arith

-- What is promised of the answer, where it is known which one it is.
pub told-taken : (ninth : Bool) (s : List ℕ) {r x : Result ℕ Refused} → r ≡ x → TakenIs ninth s (answer_out r) → TakenIs ninth s (answer_out x)
told-taken ninth s e = subst (λ y. TakenIs ninth s (answer_out y)) e

pub told-judged : (ninth : Bool) (d : ℕ) (s : List ℕ) (room : ℕ) {r x : Result ℕ Refused} → r ≡ x → JudgedIs ninth d s room (answer_out r) → JudgedIs ninth d s room (answer_out x)
told-judged ninth d s room e = subst (λ y. JudgedIs ninth d s room (answer_out y)) e

module _ (ninth : Bool) (d : ℕ) (s : List ℕ) (room : ℕ) where
  abbrev e : Edition
  e = edition_of ninth

  pub judged-large : document_limit < d → JudgedIs ninth d s room (no 9 0)
  judged-large h o long = move-bad e d s o 9 0 (movable-large e d s h)

  module _ (small : d ≤ document_limit) where
    pub judged-bad : (n p : ℕ) → TakenIs ninth s (no n p) → JudgedIs ninth d s room (no n p)
    judged-bad n p h o long = move-bad e d s o n p (movable-lines e d s small ∙ h)

    module _ (n : ℕ) (t : Taken e s n) where
      read : movable e d s ≡ got t.ws
      read = movable-lines e d s small ∙ t.read

      by-parents : RowsAre d (line_word e s) ninth n → RowsAre d (line_word e s) (parented e) n
      by-parents = subst (λ x. RowsAre d (line_word e s) x n) (sym (parented-is ninth))

      pub judged-unfit : (RowsAre d (line_word e s) ninth n → ⊥) → JudgedIs ninth d s room (no 10 0)
      judged-unfit f o long =
          move-unfit e d s o t.ws read
          (λ g. f (subst (λ x. RowsAre d (line_word e s) x n) (parented-is ninth) (formed-rows e d s t.ws n t.words (formed e d t.ws g))))

      module _ (rows : RowsAre d (line_word e s) ninth n) where
        pub judged-full : room < line_in (other e) * n → JudgedIs ninth d s room (no 13 0)
        judged-full h o long = move-full e d s o t.ws read n t.words (by-parents rows) (rw long h)

        pub judged-fit : line_in (other e) * n ≤ room → JudgedIs ninth d s room (got n)
        judged-fit h = (record { limit = λ ws k. movable-lines e d s small ∙ k; taken = t; rows = rows }, h)

-- ---- the moves

module _ (ninth : Bool) (d : ℕ) (s : List ℕ) (n : ℕ) (j : Judged ninth d s n) where
  -- The lines hold a tree.
  pub planted : Planted (edition_of ninth) s n
  planted =
      let g = rows_grown d (line_word (edition_of ninth) s) ninth n j.rows in
      record { lined = j.taken.lined; head = g.head; inner = g.inner; sits = g.sits; sized = g.sized }

  -- Its lines of the other edition are put.
  pub moved : (o o' : List ℕ) → line_in (other (edition_of ninth)) * n ≤ length o → PutIs (edition_of ninth) s n o o'
      → MoveIs (edition_of ninth) d s o (got (line_in (other (edition_of ninth)) * n)) o'
  moved o o' room put =
      let t = j.taken in
      let e = edition_of ninth in
      move-put e d s o t.ws (j.limit t.ws t.read) n t.words (subst (λ x. RowsAre d (line_word e s) x n) (sym (parented-is ninth)) j.rows) o' room put
