-- The theorems on stored lines ([6]), as specs/Stored.antt states them: which bytes are lines, by recursion on the lines one way and on the
-- records the other; from that, that words and lines come back. The examples hold by computing.
-- Assumes nothing.
use Prim.Native.Nat.{ℕ, zero, suc, ◌+◌, ◌*◌, ◌/◌, ◌≤◌}
use mathlib.Core.Path.{◌≡◌, refl, sym, ap, subst, ◌∙◌}
use mathlib.Core.List.{List, [], ◌∷◌, ◌++◌}
use mathlib.Core.Bool.{Bool, true, false, false≢true}
use mathlib.Core.Logic.{inl, inr, ⊎_elim}
use native.Mathlib.Omega.{arith}
use borrow.Author.Tests.{leb-true, le-leb, lt-leb}
use lib.Dec.{leb}
use lib.ListN.{length, take, drop, length-append, length-drop, take-append-drop}
use lib.Seq.{append_snoc, length-take-le, take_at, drop_at, get_or-drop}
use Rattle.form.specs.Answer.{Out, got, no as refused, ◌>>=◌, document_limit, record_limit}
use Rattle.form.specs.Spans.{over}
use Rattle.form.specs.Tables.{IsTable, Within}
use Rattle.form.specs.Writing.{Gives}
use Rattle.form.specs.Stored.{TextLine, word_digits, lines_of, table_lines, fitting, storing, lines_in, digit_of, all_digits, hex_value, is_line, words_of, each_line, lines_read}
use Rattle.form.specs.Stored.{reading_lines, records_of, words_after}
use Rattle.form.proofs.Answer.{got-no, guard-got}
use Rattle.form.proofs.Cut.{bind-no}
use Rattle.form.proofs.Outcomes as outcomes
use Rattle.form.proofs.Outcomes.{both, same-list, in-each-case}
use Rattle.form.proofs.Picks.{lt-or}
use Rattle.form.proofs.Places.{part-over}
use Rattle.form.proofs.Tables.{table-length}
use Rattle.form.proofs.Stored as laws
use Rattle.form.proofs.Stored.{word-digits-length, word-digits-all, words-length, digits-back, words_small, no_lines, digits-line, Behind, first-line}
use Rattle.form.proofs.Stored.{each_none, each-bad, each-full, each-good, Accepted, accepted, is-good, good-ended, good-long, good-digits, fitting-fits, fitting-got}
use Rattle.snbt_form.specs.Lexing.{among}
use Rattle.calls.specs.Words.{count_words}
use Rattle.calls.specs.Calls.{WriteLinesCalled, ReadLinesCalled}
use Rattle.demands.specs.Marked.{ascii}
use Rattle.demands.specs.Numbers.{write_lines_numbers}
use Rattle.demands.specs.Stored.{Words, AreLines, IsLinesAre, Fault, FirstRefused, IsLinesRefused, IsLinesBack, IsWordsBack, IsOneWriteLines, examples, AreStoredExamples}
use Rattle.demands.proofs.Numbers.{write-lines-refusals, read-lines-numbers}

-- ---- words of 32 bits

words_append : (xs ys : List ℕ) → Words xs → Words ys → Words (xs ++ ys)
words_append [] ys f g i = g i
words_append (x ∷ xs) ys f g zero = f 0
words_append (x ∷ xs) ys f g (suc i) = words_append xs ys (λ k. f (suc k)) g i

words_take : (n : ℕ) (t : List ℕ) → Words t → Words (take n t)
words_take zero t f i = omega arith
words_take (suc n) [] f i = omega arith
words_take (suc n) (v ∷ t) f zero = f 0
words_take (suc n) (v ∷ t) f (suc i) = words_take n t (λ k. f (suc k)) i

words-drop : (n : ℕ) (t : List ℕ) → Words t → Words (drop n t)
words-drop n t f i = rw (get_or-drop n t i 0) (f (n + i))

-- ---- the lines of records

module _ (w : ℕ) where
  -- One record more: its digits, a line feed, and the others' lines.
  lines_more : (r : ℕ) (ws : List ℕ) → lines_of w (suc r) ws ≡ word_digits (take w ws) ++ (10 ∷ lines_of w r (drop w ws))
  unfolding lines_of
  lines_more r ws = append_snoc (word_digits (take w ws)) 10 (lines_of w r (drop w ws))

  -- Its line, and the others'.
  lines-told : (r : ℕ) (ws : List ℕ) → lines_in (lines_of w (suc r) ws) ≡ record { bytes = word_digits (take w ws); ended = true } ∷ lines_in (lines_of w r (drop w ws))
  lines-told r ws = ap lines_in (lines_more r ws) ∙ digits-line (word_digits (take w ws)) (lines_of w r (drop w ws)) (word-digits-all (take w ws))

  lines-many : (r : ℕ) (ws : List ℕ) → length (lines_in (lines_of w r ws)) ≡ r
  unfolding lines_of
  lines-many zero ws = ap length no_lines
  lines-many (suc r) ws = ap length (lines-told r ws) ∙ ap suc (lines-many r (drop w ws))

-- ---- lines that are accepted

-- Bytes with no line are none.
none_in : (s : List ℕ) → lines_in s ≡ [] → s ≡ []
none_in [] e = refl
none_in (b ∷ s) e = let f = (first-line b s).lines_are in let z : ◌≡◌ {A = ℕ} 0 1 = cc in absurd (omega arith)

-- Bytes whose first line is ended: that line, a line feed, and the other lines.
behind-first : (s : List ℕ) (l : TextLine) (ls : List TextLine) → lines_in s ≡ l ∷ ls → l.ended ≡ true → Behind s l ls
behind-first [] l ls e t = let z : ◌≡◌ {A = ℕ} 0 1 = cc no_lines in absurd (omega arith)
behind-first (b ∷ s) l ls e t =
    let f = first-line b s in
    let same = f.lines_are in
    let line : f.line ≡ l = cc in
    let later : f.later ≡ ls = cc in
    (rw (line, later) at f.behind) t

module _ (w room : ℕ) where
  -- The bytes s, whose lines are ls, the first with the number n, are the lines of the words ws, which are whole records.
  record Whole (n : ℕ) (s ws : List ℕ) (ls : List TextLine) : Type 0 where
    long : length ws ≡ w * length ls
    small : Words ws
    roomy : n + length ls ≤ suc room
    these : s ≡ lines_of w (length ls) ws

  whole-none : (n : ℕ) → n ≤ suc room → Whole n [] [] []
  unfolding lines_of
  whole-none n h = record { long = omega arith; small = λ i. omega arith; roomy = omega arith; these = refl }

  whole-more : (n : ℕ) (l : TextLine) (ls : List TextLine) (s ws : List ℕ) (x : Accepted w room n l ls ws) (b : Behind s l ls)
      → Whole (n + 1) b.rest x.others ls → Whole n s ws (l ∷ ls)
  whole-more n l ls s ws x b y =
      let words = words_of w l.bytes in
      let others = x.others in
      let long = good-long w l x.good in
      let digits = good-digits w l x.good in
      let many = words-length w l.bytes in
      let line : lines_of w (suc (length ls)) (words ++ others) ≡ l.bytes ++ (10 ∷ lines_of w (length ls) others) =
      rw (lines_more w (length ls) (words ++ others), take_at words others w many, drop_at words others w many, digits-back w l.bytes long digits) refl in
      record {
        long = ap length (sym x.all) ∙ length-append words others ∙ omega (arith, many, y.long);
        small = subst Words x.all (words_append words others (words_small w l.bytes long digits) y.small);
        roomy = omega (arith, y.roomy);
        these = b.front ∙ ap (λ (bs : List ℕ). l.bytes ++ (10 ∷ bs)) y.these ∙ sym line ∙ ap (lines_of w (suc (length ls))) x.all;
      }

  -- Lines that are accepted are those of the words read.
  accepted-whole : (ls : List TextLine) (n : ℕ) (s ws : List ℕ) → lines_in s ≡ ls → n ≤ suc room → each_line w room n ls ≡ got ws → Whole n s ws ls
  accepted-whole [] n s ws e h a =
      let none : ws ≡ [] = cc (each_none w room n) in
      rw (none_in s e, none) (whole-none n h)
  accepted-whole (l ∷ ls) n s ws e h a =
      let x = accepted w room n l ls ws a in
      let b = behind-first s l ls e (good-ended w l x.good) in
      whole-more n l ls s ws x b (accepted-whole ls (n + 1) b.rest x.others (sym b.others) (omega (arith, x.fits)) x.behind)

  -- The lines of words are accepted, and give those words.
  lines-accepted : (r n : ℕ) (ws : List ℕ) → length ws ≡ w * r → Words ws → n + r ≤ suc room → each_line w room n (lines_in (lines_of w r ws)) ≡ got ws
  unfolding lines_of
  lines-accepted zero n [] long small h = ap (each_line w room n) no_lines ∙ each_none w room n
  lines-accepted zero n (v ∷ ws) long small h = absurd (omega arith)
  lines-accepted (suc r) n ws long small h =
      let words = take w ws in
      let many : length words ≡ w = length-take-le w ws (omega arith) in
      let line : TextLine = record { bytes = word_digits words; ended = true } in
      let good = is-good w line refl (word-digits-length words ∙ ap (λ (k : ℕ). 8 * k) many) (word-digits-all words) in
      let back : words_of w (word_digits words) ≡ words = subst (λ (k : ℕ). words_of k (word_digits words) ≡ words) many (laws.words_back words (words_take w ws small)) in
      let others = lines-accepted r (n + 1) (drop w ws) (length-drop w ws ∙ omega arith) (words-drop w ws small) (omega arith) in
      ap (each_line w room n) (lines-told w r ws) ∙ each-good w room n line _ good (omega arith) ∙ rw (others, back, take-append-drop w ws) refl

pub lines_are : IsLinesAre
unfolding lines_read
lines_are w room s ws = (to, from)
  where
    to : lines_read w room s ≡ got ws → AreLines w room s ws
    to e =
        let a = guard-got (leb (length (lines_in s)) record_limit) _ _ _ e in
        let x = accepted-whole w room (lines_in s) 1 s ws refl (omega arith) a.1 in
        record {
          records = length (lines_in s);
          long = x.long;
          small = x.small;
          few = leb-true (length (lines_in s)) record_limit a.0;
          roomy = omega (arith, x.roomy);
          these = x.these;
        }

    from : AreLines w room s ws → lines_read w room s ≡ got ws
    from x =
        let lines = lines_in (lines_of w x.records ws) in
        let few : length lines ≤ record_limit = omega (arith, lines-many w x.records ws, x.few) in
        rw (x.these, le-leb (length lines) record_limit few) (lines-accepted w room x.records 1 ws x.long x.small (omega (arith, x.roomy)))

-- ---- lines that are refused

-- Lines behind a good one that are refused: what is put before their words refuses nothing.
behind-no : (o : Out (List ℕ)) (us : List ℕ) (n p : ℕ) → (o >>= λ ws. got (us ++ ws)) ≡ refused n p → o ≡ refused n p
behind-no o us n p e = ⊎_elim (λ f. f) (λ a. absurd (got-no a.2)) (bind-no o (λ ws. got (us ++ ws)) e)

module _ (w room : ℕ) where
  -- A line with the number k that is refused itself, as bad or for want of room.
  refused-here : (k n p : ℕ) (l : TextLine) (ls : List TextLine) → k ≤ suc room → p ≡ k → Fault w room l n p → FirstRefused w room k (l ∷ ls) n p
  refused-here k n p l ls h e y =
      record { before = []; line = l; later = ls; lines_are = refl; good = tt; roomy = omega arith; place = omega arith; why = y }

  -- A good line before those that are refused.
  refused-later : (k n p : ℕ) (l : TextLine) (ls : List TextLine) → is_line w l ≡ true → FirstRefused w room (k + 1) ls n p → FirstRefused w room k (l ∷ ls) n p
  refused-later k n p l ls g f = record {
    before = l ∷ f.before;
    line = f.line;
    later = f.later;
    lines_are = ap (λ x. l ∷ x) f.lines_are;
    good = (g, f.good);
    roomy = omega (arith, f.roomy);
    place = omega (arith, f.place);
    why = f.why;
  }

  -- One line and those behind it, by whether it is good and has room.
  one-refused : (k n p : ℕ) (l : TextLine) (ls : List TextLine) → k ≤ suc room → each_line w room k (l ∷ ls) ≡ refused n p
      → (k + 1 ≤ suc room → each_line w room (k + 1) ls ≡ refused n p → FirstRefused w room (k + 1) ls n p) → FirstRefused w room k (l ∷ ls) n p
  one-refused k n p l ls h e behind = by-line (is_line w l) refl
    where
      by-line : (t : Bool) → is_line w l ≡ t → FirstRefused w room k (l ∷ ls) n p
      by-line false bad =
          let same : ◌≡◌ {A = Out (List ℕ)} (refused 29 k) (refused n p) = sym (each-bad w room k l ls bad) ∙ e in
          let number : n ≡ 29 = cc in
          let place : p ≡ k = cc in
          let why : Fault w room l n p = inl (number, bad) in
          refused-here k n p l ls h place why
      by-line true good =
          ⊎_elim
          (λ full.
          let same : ◌≡◌ {A = Out (List ℕ)} (refused 8 k) (refused n p) = sym (each-full w room k l ls good full) ∙ e in
          let number : n ≡ 8 = cc in
          let place : p ≡ k = cc in
          let why : Fault w room l n p = inr (number, good, omega arith) in
          refused-here k n p l ls h place why)
          (λ fits.
          refused-later k n p l ls good
          (behind (omega arith) (behind-no (each_line w room (k + 1) ls) (words_of w l.bytes) n p (sym (each-good w room k l ls good fits) ∙ e))))
          (lt-or room k)

  first-refused : (ls : List TextLine) (k n p : ℕ) → k ≤ suc room → each_line w room k ls ≡ refused n p → FirstRefused w room k ls n p
  first-refused [] k n p h e = absurd (got-no (sym (each_none w room k) ∙ e))
  first-refused (l ∷ ls) k n p h e = one-refused k n p l ls h e (first-refused ls (k + 1) n p)

pub lines-refused : IsLinesRefused
unfolding lines_read
lines-refused w room s n p e =
    ⊎_elim
    (λ many.
    let same : ◌≡◌ {A = Out (List ℕ)} (refused 9 0) (refused n p) = rw (lt-leb (length (lines_in s)) record_limit many) at e in
    inl (many, cc, cc))
    (λ few. inr (few, first-refused w room (lines_in s) 1 n p (omega arith) (rw (le-leb (length (lines_in s)) record_limit few) at e)))
    (lt-or record_limit (length (lines_in s)))

-- ---- one outcome

pub one-write-lines : IsOneWriteLines
one-write-lines = outcomes.one-write-lines

-- ---- there and back

-- An answer that counts c is no refusal, where no refusal has the number 0.
pub counted_is : (numbers : List ℕ) (r : Out ℕ) (c : ℕ) → among numbers 0 ≡ false → ((n p : ℕ) → r ≡ refused n p → among numbers n ≡ true)
    → count_words r ≡ 0 ∷ 0 ∷ c ∷ 0 ∷ 0 ∷ 0 ∷ 0 ∷ 0 ∷ [] → r ≡ got c
counted_is numbers (got m) c z f w = cc
counted_is numbers (refused n p) c z f w =
    let number : n ≡ 0 = cc in
    absurd (false≢true (sym z ∙ subst (λ (k : ℕ). among numbers k ≡ true) number (f n p refl)))

-- Bytes that are counted are those that were given.
gives-bytes : (x : Out (List ℕ)) (o o' : List ℕ) (c : ℕ) → Gives x o (got c) o' → (bs : List ℕ) × (x ≡ got bs) × (c ≡ length bs) × (o' ≡ over o 0 bs)
gives-bytes (got bs) o o' c g = (bs, refl, cc g.answer_is, g.output_is)
gives-bytes (refused n p) o o' c g = absurd (got-no g.answer_is)

-- A table's lines are those of its words, which are whole records within the limit.
table-lines : (d : ℕ) (t : List ℕ) → Within d t → IsTable d t → Words t → (room : ℕ) → length t / 9 ≤ room → AreLines 9 room (table_lines t) t
table-lines d t within table small room fits =
    let long = table-length d t table in
    record { records = length t / 9; long = omega arith; small = small; few = omega (arith, within.words); roomy = fits; these = refl }

-- The bytes counted where bytes had room are those.
pub written-bytes : (bs o o' : List ℕ) (c : ℕ) → Gives (fitting bs (length o)) o (got c) o' → take c o' ≡ bs
written-bytes bs o o' c g =
    let x = gives-bytes (fitting bs (length o)) o o' c g in
    let cs = x.0 in
    ap (λ (m : ℕ). take m o') x.2 ∙ ap (take (length cs)) x.3 ∙ part-over o 0 cs (omega arith) ∙ (fitting-got bs (length o) cs x.1).0

-- In each of the promise's cases: the write was accepted, so it is no refusal, and whether the words come back can be decided.
pub lines-back : IsLinesBack
unfolding among
lines-back d t o o' a small k c words u u' b fits r =
    in-each-case {W = Within d t} {T = IsTable d t} (both (same-list b _) (same-list u' _))
    (λ l. absurd (got-no (sym accepted-is ∙ (k.is.large l).answer_is)))
    (λ l n. absurd (got-no (sym accepted-is ∙ (k.is.unfit l n).answer_is)))
    back
  where
    accepted-is : k.result ≡ got c
    accepted-is =
        counted_is write_lines_numbers k.result c refl (λ n p e. (write-lines-refusals d t o k.result o' n p k.is e).0) (sym k.words_are ∙ words)

    back : Within d t → IsTable d t → (b ≡ 0 ∷ 0 ∷ length t / 9 ∷ 0 ∷ 0 ∷ 0 ∷ 0 ∷ 0 ∷ []) × (u' ≡ over u 0 t)
    back within table =
        let lines = written-bytes (table_lines t) o o' c (subst (λ (x : Out ℕ). Gives (storing t (length o)) o x o') accepted-is (k.is.fit within table)) in
        let read = (lines_are 9 (length u / 9) (table_lines t) t).1 (table-lines d t within table small (length u / 9) (omega arith)) in
        let e : reading_lines (take c o') u ≡ got t = ap (lines_read 9 (length u / 9)) lines ∙ read in
        (r.answer_is ∙ ap (λ x. count_words (records_of x)) e, r.table_is ∙ ap (λ x. words_after x u) e)

-- The bytes of an accepted read are the lines of the records that it counts.
read_lines : (s t t' a : List ℕ) → ReadLinesCalled s t t' a → (n : ℕ) → a ≡ 0 ∷ 0 ∷ n ∷ 0 ∷ 0 ∷ 0 ∷ 0 ∷ 0 ∷ [] → AreLines 9 (length t / 9) s (take (9 * n) t')
unfolding among
read_lines s t t' a r n words = go (reading_lines s t) refl (sym r.answer_is ∙ words) r.table_is
  where
    go : (x : Out (List ℕ)) → reading_lines s t ≡ x → count_words (records_of x) ≡ 0 ∷ 0 ∷ n ∷ 0 ∷ 0 ∷ 0 ∷ 0 ∷ 0 ∷ [] → t' ≡ words_after x t
        → AreLines 9 (length t / 9) s (take (9 * n) t')
    go (got ws) e w table =
        let x = (lines_are 9 (length t / 9) s ws).0 e in
        let counted : length ws / 9 ≡ n = cc in
        let all : 9 * n ≡ length ws = omega (arith, x.long) in
        let same : take (9 * n) t' ≡ ws = ap (λ (k : ℕ). take k t') all ∙ ap (take (length ws)) table ∙ part-over t 0 ws (omega arith) in
        subst (AreLines 9 (length t / 9) s) (sym same) x
    go (refused m p) e w table =
        let number : m ≡ 0 = cc in
        absurd (false≢true (rw number at (read-lines-numbers 9 (length t / 9) s m p e)))

-- Words that form a table are written as their lines.
lines-written : (room d : ℕ) (s ws o o' b : List ℕ) → AreLines 9 room s ws → d ≤ document_limit → IsTable d ws → length s ≤ length o → WriteLinesCalled d ws o o' b
    → (b ≡ 0 ∷ 0 ∷ length s ∷ 0 ∷ 0 ∷ 0 ∷ 0 ∷ 0 ∷ []) × (o' ≡ over o 0 s)
lines-written room d s ws o o' b x small table fits k =
    let within : Within d ws = record { bytes = small; words = omega (arith, x.long, x.few) } in
    let many : length ws / 9 ≡ x.records = omega (arith, x.long) in
    let same : table_lines ws ≡ s = ap (λ (r : ℕ). lines_of 9 r ws) many ∙ sym x.these in
    let e : storing ws (length o) ≡ got s = fitting-fits (table_lines ws) (length o) (omega (arith, ap length same)) ∙ ap got same in
    let g = subst (λ (y : Out (List ℕ)). Gives y o k.result o') e (k.is.fit within table) in
    (k.words_are ∙ ap count_words g.answer_is, g.output_is)

pub words_back : IsWordsBack
words_back s t t' a r n words d small table o o' b fits k =
    lines-written (length t / 9) d s (take (9 * n) t') o o' b (read_lines s t t' a r n words) small table fits k

-- ---- by example

pub stored-examples : AreStoredExamples
unfolding examples ascii lines_in digit_of all_digits hex_value is_line words_of each_line lines_read
stored-examples = refl
