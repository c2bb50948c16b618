-- The theorems on moves between the editions ([8]), as specs/Moved.antt states them: the lines of a tree whose words are of 32 bits are read as
-- those words, and a tree's words are so in both editions or in neither; the rest follows from the promise. The examples hold by computing.
-- Assumes nothing.
use Prim.Native.Nat.{ℕ, suc, ◌+◌, ◌*◌, ◌/◌, ◌%◌, ◌^◌, ◌≤◌, ◌<◌}
use mathlib.Core.Path.{◌≡◌, refl, sym, ap, subst, ◌∙◌}
use mathlib.Core.List.{List, [], ◌∷◌, ◌++◌}
use mathlib.Core.Bool.{Bool, true, false}
use mathlib.Core.Logic.{⊎_elim}
use native.Mathlib.Omega.{arith}
use borrow.Author.Tests.{leb-true, le-leb}
use lib.Dec.{leb}
use lib.ListN.{length, get_or, take, length-append, get_or-eq_default}
use Rattle.form.specs.Answer.{Out, got, no as refused, guard, ◌>>◌, document_limit, record_limit}
use Rattle.form.specs.Spans.{over}
use Rattle.form.specs.Table.{Forest, size, flat}
use Rattle.form.specs.Eight.{old_flat}
use Rattle.form.specs.Writing.{Gives, length_of}
use Rattle.form.specs.Stored.{hex_digit, hex_digits, word_digits, lines_of, fitting, TextLine, lines_in, digit_of, all_digits, hex_value, is_line, words_of, each_line, lines_read}
use Rattle.form.specs.Moved.{Edition, eight, nine, other, words_in, word_in, flat_in, Forms, tree_in, tree_lines, movable}
use Rattle.form.proofs.Answer.{got-no, guard-got}
use Rattle.form.proofs.Picks.{lt-or}
use Rattle.form.proofs.Records.{same-words, held_by}
use Rattle.form.proofs.Eight.{narrow-flat}
use Rattle.form.proofs.Stored.{no_lines, each_none, each-bad, each-good, good-long, fitting-fits}
use Rattle.form.proofs.Moved.{flat-in-length, flat-in-sits, flat-in-under, formed, records-of, formed-length, movable-lines, movable-large}
use Rattle.form.proofs.Decided.{in-each-move}
use Rattle.snbt_form.specs.Lexing.{among}
use Rattle.calls.specs.Words.{count_words}
use Rattle.calls.specs.Calls.{MoveCalled}
use Rattle.demands.specs.Marked.{ascii}
use Rattle.demands.specs.Numbers.{move_numbers, IsMoveRefusals}
use Rattle.demands.specs.Stored.{Words, AreLines, FirstRefused}
use Rattle.demands.specs.Moved.{IsNarrowed, IsMoved, IsMovedTable, IsThereAndBack, IsNoneMoved, IsOtherWidth, IsOneMove, examples, AreMovedExamples}
use Rattle.demands.proofs.Stored.{lines_are, lines-refused, counted_is, written-bytes}

pub narrowed : IsNarrowed
narrowed f = narrow-flat 0 0 f

-- ---- words of 32 bits

-- Words are so if each word of each record is.
each_word : (e : Edition) (ws : List ℕ) (n : ℕ) → length ws ≡ words_in e * n → ((i : ℕ) → i < n → (k : ℕ) → k < words_in e → word_in e ws i k < 2 ^ 32) → Words ws
each_word eight ws n long small j =
    ⊎_elim
    (λ h. let at : j ≡ 8 * (j / 8) + j % 8 = omega arith in subst (λ (x : ℕ). get_or ws x 0 < 2 ^ 32) (sym at) (small (j / 8) (omega arith) (j % 8) (omega arith)))
    (λ h. rw (get_or-eq_default ws 0 {n = j} (omega arith)) (omega arith))
    (lt-or j (length ws))
each_word nine ws n long small j =
    ⊎_elim
    (λ h. let at : j ≡ 9 * (j / 9) + j % 9 = omega arith in subst (λ (x : ℕ). get_or ws x 0 < 2 ^ 32) (sym at) (small (j / 9) (omega arith) (j % 9) (omega arith)))
    (λ h. rw (get_or-eq_default ws 0 {n = j} (omega arith)) (omega arith))
    (lt-or j (length ws))

word_small : (e : Edition) (ws : List ℕ) → Words ws → (i k : ℕ) → word_in e ws i k < 2 ^ 32
word_small eight ws small i k = small (8 * i + k)
word_small nine ws small i k = small (9 * i + k)

module _ (f : Forest) where
  -- A tree's first eight words of a record are the same in both editions.
  same_word : (e e' : Edition) (i : ℕ) → i < size f → (k : ℕ) → k < 8 → word_in e (flat_in e f) i k ≡ word_in e' (flat_in e' f) i k
  same_word e e' i h k l =
      same-words (word_in e (flat_in e f)) (word_in e' (flat_in e' f)) 0 f (flat-in-sits e f) (flat-in-sits e' f) i (omega arith) (omega arith) k l

  -- The ninth is a record's number.
  ninth-word : (i : ℕ) → i < size f → word_in nine (flat 0 0 f) i 8 ≤ i
  ninth-word i h =
      ⊎_elim (λ e. omega (arith, e)) (λ k. omega (arith, k.before))
      (held_by (word_in nine (flat 0 0 f)) 0 0 f (flat-in-sits nine f) (flat-in-under nine f) i (omega arith) (omega arith))

  -- A tree of no more records than the limit has words of 32 bits in both editions or in neither.
  tree-small : (e e' : Edition) → size f ≤ record_limit → Words (flat_in e f) → Words (flat_in e' f)
  tree-small e e' few small = each_word e' (flat_in e' f) (size f) (flat-in-length e' f) (each e')
    where
      first : (e' : Edition) (i : ℕ) → i < size f → (k : ℕ) → k < 8 → word_in e' (flat_in e' f) i k < 2 ^ 32
      first e' i h k l = rw (same_word e' e i h k l) (word_small e (flat_in e f) small i k)

      each : (e' : Edition) (i : ℕ) → i < size f → (k : ℕ) → k < words_in e' → word_in e' (flat_in e' f) i k < 2 ^ 32
      each eight i h k l = first eight i h k l
      each nine i h k l =
          ⊎_elim
          (λ low. first nine i h k low)
          (λ high. let last : 8 ≡ k = omega arith in subst (λ (x : ℕ). word_in nine (flat 0 0 f) i x < 2 ^ 32) last (omega (arith, ninth-word i h)))
          (lt-or k 8)

-- ---- the lines of a tree

-- What lines that move say of a tree: they are its lines, and within the limits.
record Came (e : Edition) (d : ℕ) (s : List ℕ) (f : Forest) : Type 0 where
  within : d ≤ document_limit
  few : size f ≤ record_limit
  small : Words (flat_in e f)
  these : s ≡ tree_lines e f

-- The lines of a tree within the limits are read as its words.
tree-movable : (e : Edition) (d : ℕ) (f : Forest) → d ≤ document_limit → size f ≤ record_limit → Words (flat_in e f) → movable e d (tree_lines e f) ≡ got (flat_in e f)
tree-movable e d f within few small =
    movable-lines e d (tree_lines e f) within
    ∙ (lines_are (words_in e) record_limit (tree_lines e f) (flat_in e f)).1
    (record { records = size f; long = flat-in-length e f; small = small; few = few; roomy = few; these = refl })

-- Words that move are those of the lines.
words-come : (e : Edition) (d : ℕ) (s ws : List ℕ) → movable e d s ≡ got ws → (d ≤ document_limit) × AreLines (words_in e) record_limit s ws
unfolding movable
words-come e d s ws m =
    let a = guard-got (leb d document_limit) _ _ _ m in
    (leb-true d document_limit a.0, (lines_are (words_in e) record_limit s ws).0 a.1)

module _ (d : ℕ) (ws : List ℕ) where
  -- A table's words are its tree's,
  forms-these : (e : Edition) (t : Forms e d ws) → ws ≡ flat_in e (tree_in e d ws t)
  forms-these eight t = t.these
  forms-these nine t = t.these

  -- that tree's words in the other edition form a table too,
  carried : (e : Edition) (t : Forms e d ws) → Forms (other e) d (flat_in (other e) (tree_in e d ws t))
  carried eight t = record { head = t.head; inner = t.inner; compound = t.compound; fair = t.fair; these = refl }
  carried nine t = record { head = t.head; inner = t.inner; compound = t.compound; fair = t.fair; these = refl }

  -- and stand for the same tree.
  carried-tree : (e : Edition) (t : Forms e d ws) → tree_in (other e) d (flat_in (other e) (tree_in e d ws t)) (carried e t) ≡ tree_in e d ws t
  unfolding carried
  carried-tree eight t = refl
  carried-tree nine t = refl

came : (e : Edition) (d : ℕ) (s ws : List ℕ) → movable e d s ≡ got ws → (t : Forms e d ws) → Came e d s (tree_in e d ws t)
came e d s ws m t =
    let r = words-come e d s ws m in
    let x = r.1 in
    let f = tree_in e d ws t in
    let own = forms-these d ws e t in
    let many : x.records ≡ size f = sym (records-of e (length ws) x.records x.long) ∙ records-of e (length ws) (size f) (ap length own ∙ flat-in-length e f) in
    record {
      within = r.0;
      few = rw (← many) x.few;
      small = subst Words own x.small;
      these = x.these ∙ ap (λ (k : ℕ). lines_of (words_in e) k ws) many ∙ ap (lines_of (words_in e) (size f)) own;
    }

-- ---- a move

pub moved : IsMoved
moved e d s o o' a ws m t fits k =
    let bs = tree_lines (other e) (tree_in e d ws t) in
    let g = subst (λ (x : Out (List ℕ)). Gives x o k.result o') (fitting-fits bs (length o) fits) (k.is.fit ws m t) in
    (k.words_are ∙ ap count_words g.answer_is, g.output_is)

pub one-move : IsOneMove
one-move e d s o a₁ a₂ o₁ o₂ g h =
    in-each-move e d s
    (λ n p m. one (g.bad n p m) (h.bad n p m))
    (λ ws m u. one (g.unfit ws m u) (h.unfit ws m u))
    (λ ws m t. one (g.fit ws m t) (h.fit ws m t))
  where
    one : {x : Out (List ℕ)} → Gives x o a₁ o₁ → Gives x o a₂ o₂ → (a₁ ≡ a₂) × (o₁ ≡ o₂)
    one p q = (p.answer_is ∙ sym q.answer_is, p.output_is ∙ sym q.output_is)

-- ---- its refusals

-- A refusal of lines, of which there are so many: its number, and its place.
abbrev Placed : ℕ → Out ℕ → Type 0
Placed many (got c) = Unit {0}
Placed many (refused n p) = (among move_numbers n ≡ true) × ((n ≡ 29 → ⊥) → p ≡ 0) × (n ≡ 29 → (1 ≤ p) × (p ≤ many))

module _ (many : ℕ) where
  -- A refusal that looks at no line.
  at_zero : (n : ℕ) → among move_numbers n ≡ true → (n ≡ 29 → ⊥) → Placed many (refused n 0)
  at_zero n h other = (h, λ _. refl, λ e. absurd (other e))

  fitting-placed : (bs : List ℕ) (room : ℕ) → Placed many (length_of (fitting bs room))
  unfolding fitting among
  fitting-placed bs room = go (leb (length bs) room)
    where
      go : (b : Bool) → Placed many (length_of (guard b 13 0 >> got bs))
      go true = tt
      go false = at_zero 13 refl (λ e. omega arith)

-- A line that is refused: there is room for each that the limit leaves, so it is bad.
first-placed : (w : ℕ) (s : List ℕ) (n p : ℕ) → length (lines_in s) ≤ record_limit → FirstRefused w record_limit 1 (lines_in s) n p → Placed (length (lines_in s)) (refused n p)
unfolding among
first-placed w s n p few f =
    let place = f.place in
    let within : p ≤ length (lines_in s) = omega (arith, ap length f.lines_are, length-append f.before (f.line ∷ f.later)) in
    ⊎_elim
    (λ b. rw b.0 (refl, λ other. absurd (other refl), λ _. (omega arith, within)))
    (λ b. absurd (omega (arith, b.2)))
    f.why

bad-placed : (e : Edition) (d : ℕ) (s : List ℕ) (n p : ℕ) → movable e d s ≡ refused n p → Placed (length (lines_in s)) (refused n p)
unfolding among
bad-placed e d s n p m =
    ⊎_elim
    (λ large. nine-at (sym (movable-large e d s large) ∙ m))
    (λ small.
    ⊎_elim
    (λ x. nine-at (ap (λ (k : ℕ). refused 9 k) (sym x.2) ∙ ap (λ (k : ℕ). refused k p) (sym x.1)))
    (λ x. first-placed (words_in e) s n p x.0 x.1)
    (lines-refused (words_in e) record_limit s n p (sym (movable-lines e d s small) ∙ m)))
    (lt-or document_limit d)
  where
    nine-at : ◌≡◌ {A = Out (List ℕ)} (refused 9 0) (refused n p) → Placed (length (lines_in s)) (refused n p)
    nine-at q =
        let number : n ≡ 9 = cc in
        let place : p ≡ 0 = cc in
        rw (number, place) (at_zero (length (lines_in s)) 9 refl (λ e. omega arith))

pub move-refusals : IsMoveRefusals
unfolding among
move-refusals e d s o answer o' n p w q =
    in-each-move e d s
    (λ m r h. from (refused m r) (bad-placed e d s m r h) (w.bad m r h).answer_is)
    (λ ws m u. from (refused 10 0) (at_zero many 10 refl (λ e. omega arith)) (w.unfit ws m u).answer_is)
    (λ ws m t.
    let bs = tree_lines (other e) (tree_in e d ws t) in
    from (fitting bs (length o)) (fitting-placed many bs (length o)) (w.fit ws m t).answer_is)
  where
    many : ℕ
    many = length (lines_in s)

    from : (x : Out (List ℕ)) → Placed many (length_of x) → answer ≡ length_of x → Placed many (refused n p)
    from x h a = subst (Placed many) (sym a ∙ q) h

-- ---- there and back

-- An accepted move: the words, which form a table, and the bytes written, which are the other edition's lines of its tree.
record Done (e : Edition) (d : ℕ) (s : List ℕ) (bytes : List ℕ) : Type 0 where
  words : List ℕ
  read : movable e d s ≡ got words
  table : Forms e d words
  lines : bytes ≡ tree_lines (other e) (tree_in e d words table)

done : (e : Edition) (d : ℕ) (s o o' a : List ℕ) → MoveCalled e d s o o' a → (c : ℕ) → a ≡ 0 ∷ 0 ∷ c ∷ 0 ∷ 0 ∷ 0 ∷ 0 ∷ 0 ∷ [] → Done e d s (take c o')
unfolding among
done e d s o o' a k c words =
    in-each-move e d s
    (λ n p m. absurd (got-no (sym accepted-is ∙ (k.is.bad n p m).answer_is)))
    (λ ws m u. absurd (got-no (sym accepted-is ∙ (k.is.unfit ws m u).answer_is)))
    (λ ws m t. record {
      words = ws;
      read = m;
      table = t;
      lines = written-bytes (tree_lines (other e) (tree_in e d ws t)) o o' c (subst (λ (x : Out ℕ). Gives _ o x o') accepted-is (k.is.fit ws m t));
    })
  where
    accepted-is : k.result ≡ got c
    accepted-is = counted_is move_numbers k.result c refl (λ n p e'. (move-refusals e d s o k.result o' n p k.is e').0) (sym k.words_are ∙ words)

pub moved-table : IsMovedTable
moved-table e d s o o' a k c words =
    let x = done e d s o o' a k c words in
    let f = tree_in e d x.words x.table in
    let y = came e d s x.words x.read x.table in
    record {
      words = x.words;
      read = x.read;
      table = x.table;
      words' = flat_in (other e) f;
      read' = ap (movable (other e) d) x.lines ∙ tree-movable (other e) d f y.within y.few (tree-small f e (other e) y.few y.small);
      table' = carried d x.words e x.table;
      same = carried-tree d x.words e x.table;
    }

twice : (e : Edition) → other (other e) ≡ e
twice eight = refl
twice nine = refl

pub there_and_back : IsThereAndBack
there_and_back e d s o o' a k c words u u' b fits k' =
    let x = moved-table e d s o o' a k c words in
    let back : tree_lines (other (other e)) (tree_in (other e) d x.words' x.table') ≡ s =
    ap (tree_lines (other (other e))) x.same
    ∙ ap (λ (y : Edition). tree_lines y (tree_in e d x.words x.table)) (twice e)
    ∙ sym (came e d s x.words x.read x.table).these in
    let r = moved (other e) d (take c o') u u' b x.words' x.read' x.table' (rw back fits) k' in
    (r.0 ∙ ap (λ (l : List ℕ). 0 ∷ 0 ∷ length l ∷ 0 ∷ 0 ∷ 0 ∷ 0 ∷ 0 ∷ []) back, r.1 ∙ ap (over u 0) back)

-- ---- no lines

none-come : (e : Edition) (d : ℕ) → d ≤ document_limit → movable e d [] ≡ got []
unfolding lines_read
none-come e d h = movable-lines e d [] h ∙ rw no_lines (each_none (words_in e) record_limit 1)

pub none-moved : IsNoneMoved
none-moved e d o o' a h k =
    let g = k.is.unfit [] (none-come e d h) (λ t. let f = formed e d [] t in none e (size f.inner) (formed-length e d [] f)) in
    (k.words_are ∙ ap count_words g.answer_is, g.output_is)
  where
    none : (e : Edition) (m : ℕ) → 0 ≡ words_in e * (1 + m) → ⊥
    none eight m q = omega arith
    none nine m q = omega arith

-- ---- lines of the other width

-- A line is of one width at most.
one_width : (e : Edition) (l : TextLine) → is_line (words_in (other e)) l ≡ true → is_line (words_in e) l ≡ false
one_width e l h = go e h (is_line (words_in e) l) refl
  where
    apart : is_line 8 l ≡ true → is_line 9 l ≡ true → ⊥
    apart p q = omega (arith, good-long 8 l p, good-long 9 l q)

    go : (e : Edition) → is_line (words_in (other e)) l ≡ true → (b : Bool) → is_line (words_in e) l ≡ b → b ≡ false
    go e h false q = refl
    go eight h true q = absurd (apart q h)
    go nine h true q = absurd (apart h q)

module _ (w room : ℕ) (l : TextLine) (later : List TextLine) where
  -- The first bad line, of l and of those before it, the first of which has the number k.
  abbrev FirstBad : List TextLine → ℕ → Type 0
  FirstBad before k = (p : ℕ) × (k ≤ p) × (p ≤ k + length before) × (each_line w room k (before ++ (l ∷ later)) ≡ refused 29 p)

  first-bad : is_line w l ≡ false → (before : List TextLine) (k : ℕ) → k + length before ≤ suc room → FirstBad before k
  first-bad bad [] k h = (k, omega arith, omega arith, each-bad w room k l later bad)
  first-bad bad (b ∷ bs) k h = go (is_line w b) refl (first-bad bad bs (k + 1) (omega arith))
    where
      go : (t : Bool) → is_line w b ≡ t → FirstBad bs (k + 1) → FirstBad (b ∷ bs) k
      go false e x = (k, omega arith, omega arith, each-bad w room k b (bs ++ (l ∷ later)) e)
      go true e x = (x.0, omega (arith, x.1), omega (arith, x.2), each-good w room k b (bs ++ (l ∷ later)) e (omega arith) ∙ rw x.3 refl)

pub other_width : IsOtherWidth
unfolding lines_read
other_width e d s small few before later l lines h =
    let many : 1 + length before ≤ record_limit = omega (arith, ap length lines, length-append before (l ∷ later)) in
    let x = first-bad (words_in e) record_limit l later (one_width e l h) before 1 (omega arith) in
    let each = ap (each_line (words_in e) record_limit 1) lines ∙ x.3 in
    (x.0, x.1, x.2, movable-lines e d s small ∙ rw (le-leb (length (lines_in s)) record_limit few) each)

-- ---- by example

pub moved-examples : AreMovedExamples
unfolding examples ascii lines_in digit_of all_digits hex_value is_line words_of each_line lines_read movable hex_digit hex_digits word_digits lines_of old_flat flat size
moved-examples = (refl, refl, refl)
