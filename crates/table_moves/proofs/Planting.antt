-- The lines of the other edition: their digits are those of the lines that move, and the parents are the tree's.
-- Assumes nothing.
use Prim.Native.Nat.{ℕ, zero, suc, ◌+◌, ◌*◌, ◌^◌, ◌≤◌, ◌<◌}
use mathlib.Core.Path.{◌≡◌, refl, sym, ap, subst, ◌∙◌}
use mathlib.Core.List.{List, [], ◌∷◌, ◌++◌, append_assoc}
use mathlib.Core.Bool.{Bool, true, false}
use native.Mathlib.Omega.{arith}
use native.Mathlib.Decide.{ℕ_discrete}
use native.Mathlib.Nat.{mod-eq_of_lt}
use lib.ListN.{length, get_or, take, drop, length-drop}
use lib.Seq.{take_at, drop_at, drop-drop, get_or-drop, take-append-le, drop-append-le, length-take-le}
use Rattle.form.specs.Spans.{part, over}
use Rattle.form.specs.Table.{Forest, none, node, size, word, flat}
use Rattle.form.specs.Eight.{old_flat}
use Rattle.form.specs.Stored.{hex_digits, word_digits, line_of, lines_of, all_digits, hex_value}
use Rattle.form.specs.Moved.{Edition, eight, nine, other, words_in, word_in, flat_in, tree_lines}
use Rattle.form.proofs.Table.{flat-length, over_none}
use Rattle.form.proofs.Records.{at_first, same-words, one-forest, sits-at, under-above}
use Rattle.form.proofs.Eight.{old-length, flat-sits}
use Rattle.form.proofs.Moved.{flat-in-sits}
use Rattle.form.proofs.Stored.{digits-length, digits-all, digits_value, word-digits-length, line-length, lines-length}
use Rattle.table_store.proofs.Writing.{word_next, line-behind}
use Rattle.table_stored.specs.Words.{edition_of, line_in, line_word}
use Rattle.table_stored.proofs.Words.{word_small}
use Rattle.table_moves.specs.Steps.{Innermost, Climbable, Planted, PutIs}
use Rattle.table_moves.proofs.Parents.{one-innermost, parent-innermost}
use Rattle.table_moves.proofs.Putting.{front-digits}

-- The tree that lines hold.
abbrev pub tree_of : (e : Edition) (s : List ℕ) (n : ℕ) → Planted e s n → Forest
tree_of e s n p = node p.head p.inner none

module _ (e : Edition) (s : List ℕ) (n : ℕ) (p : Planted e s n) where
  tree-size : size (tree_of e s n p) ≡ n
  unfolding size
  tree-size = omega (arith, p.sized)

  -- A record's first eight words are the line's.
  same_word : (i : ℕ) → i < n → (k : ℕ) → k < 8 → word_in (other e) (flat_in (other e) (tree_of e s n p)) i k ≡ line_word e s i k
  same_word i h k l =
      let f = tree_of e s n p in
      same-words (word_in (other e) (flat_in (other e) f)) (line_word e s) 0 f (flat-in-sits (other e) f) p.sits i (omega arith) (omega (arith, tree-size)) k l

  -- What is put for that tree is put for every tree that the lines hold.
  pub put_all : (o o' : List ℕ) → o' ≡ over o 0 (tree_lines (other e) (tree_of e s n p)) → PutIs e s n o o'
  put_all o o' h f sits sized =
      h ∙ ap (λ x. over o 0 (tree_lines (other e) x)) (one-forest (line_word e s) 0 (tree_of e s n p) f p.sits sits (tree-size ∙ sym sized))

-- ---- down

module _ (s : List ℕ) (n : ℕ) (p : Planted nine s n) where
  abbrev pub old_words_of : List ℕ
  old_words_of = old_flat 0 (tree_of nine s n p)

  down-long : length old_words_of ≡ 8 * n
  down-long = old-length (tree_of nine s n p) ∙ ap (λ k. 8 * k) (tree-size nine s n p)

  pub line-there-down : (i : ℕ) → i < n → 73 * i + 64 ≤ length s
  line-there-down i h = omega (arith, (p.lined.line i h 7 (omega arith)).fits)

  line-down : (i : ℕ) → i < n → line_of (part old_words_of (8 * i) 8) ≡ part s (73 * i) 64 ++ (10 ∷ [])
  line-down i h =
      ap (λ x. x ++ (10 ∷ []))
      (front-digits old_words_of (8 * i) s (73 * i) (omega (arith, down-long)) (line-there-down i h)
      (λ k l. (p.lined.line i h k (omega arith)).digits) (same_word nine s n p i h))

  -- One line more.
  pub down-next : (i : ℕ) → i < n → (o₀ o o' : List ℕ) → 65 * n ≤ length o₀ → o ≡ over o₀ 0 (lines_of 8 i old_words_of)
      → o' ≡ over o (65 * i) (part s (73 * i) 64 ++ (10 ∷ [])) → o' ≡ over o₀ 0 (lines_of 8 (i + 1) old_words_of)
  down-next i h o₀ o o' room so_far e =
      e ∙ ap (over o (65 * i)) (sym (line-down i h)) ∙ line-behind 8 old_words_of i o₀ o so_far (omega (arith, down-long)) (omega arith)

  pub down-all : (o₀ o : List ℕ) → o ≡ over o₀ 0 (lines_of 8 n old_words_of) → PutIs nine s n o₀ o
  down-all o₀ o h = put_all nine s n p o₀ o (h ∙ ap (λ k. over o₀ 0 (lines_of 8 k old_words_of)) (sym (tree-size nine s n p)))

-- ---- up

-- The parents' digits in lines of nine words.
parent_in : (i : ℕ) (t : List ℕ) → 9 * i ≤ length t → (j : ℕ) → j < i → part (lines_of 9 i t) (73 * j + 64) 8 ≡ hex_digits 8 (word t j 8)
unfolding lines_of
parent_in zero t h j l = absurd (omega arith)
parent_in (suc i) t h zero l =
    let front = word_digits (take 8 t) in
    let digits = hex_digits 8 (get_or t 8 0) in
    let rest = lines_of 9 i (drop 9 t) in
    let line : line_of (take 9 t) ++ rest ≡ front ++ (digits ++ (10 ∷ rest)) =
    ap (λ x. (x ++ (10 ∷ [])) ++ rest) (word_next t 8 (omega arith))
    ∙ append_assoc (front ++ digits) (10 ∷ []) rest
    ∙ append_assoc front digits (10 ∷ rest) in
    let long : length front ≡ 64 = word-digits-length (take 8 t) ∙ omega (arith, length-take-le 8 t (omega arith)) in
    ap (λ x. part x 64 8) line ∙ ap (take 8) (drop_at front (digits ++ (10 ∷ rest)) 64 long) ∙ take_at digits (10 ∷ rest) 8 (digits-length 8 (get_or t 8 0))
parent_in (suc i) t h (suc j) l =
    let line = line_of (take 9 t) in
    let rest = lines_of 9 i (drop 9 t) in
    let long : length line ≡ 73 = line-length (take 9 t) ∙ omega (arith, length-take-le 9 t (omega arith)) in
    let a : 73 * suc j + 64 ≡ 73 + (73 * j + 64) = omega arith in
    let b : 9 * suc j + 8 ≡ 9 + (9 * j + 8) = omega arith in
    rw (a, b)
    (ap (take 8) (sym (drop-drop (73 * j + 64) 73 (line ++ rest)) ∙ ap (drop (73 * j + 64)) (drop_at line rest 73 long))
    ∙ parent_in i (drop 9 t) (simp length-drop (omega arith)) j (omega arith)
    ∙ ap (hex_digits 8) (get_or-drop 9 t (9 * j + 8) 0))

-- A span of what is put from 0 on.
part-put : (o ws : List ℕ) (a b : ℕ) → a + b ≤ length ws → part (over o 0 ws) a b ≡ part ws a b
unfolding over
part-put o ws a b h =
    let rest = drop (0 + length ws) o in
    ap (take b) (drop-append-le a ws rest (omega arith)) ∙ take-append-le b (drop a ws) rest (simp length-drop (omega arith))

module _ (s : List ℕ) (n : ℕ) (p : Planted eight s n) where
  abbrev pub new_words_of : List ℕ
  new_words_of = flat 0 0 (tree_of eight s n p)

  up-long : length new_words_of ≡ 9 * n
  up-long = flat-length 0 0 (tree_of eight s n p) ∙ ap (λ k. 9 * k) (tree-size eight s n p)

  pub line-there-up : (i : ℕ) → i < n → 65 * i + 64 ≤ length s
  line-there-up i h = omega (arith, (p.lined.line i h 7 (omega arith)).fits)

  -- The root ends where the records do; its end word has eight digits.
  root-end : line_word eight s 0 7 ≡ n
  root-end = (at_first (line_word eight s) 0 p.head p.inner none p.sits).end ∙ omega (arith, p.sized)

  pub few : 0 < n → n < 2 ^ 32
  few h = subst (λ x. x < 2 ^ 32) root-end (word_small eight s 0 7 (p.lined.line 0 h 7 (omega arith)))

  -- The tree names as parent what the end words on the lines give.
  innermost : (i : ℕ) → i < n → Innermost (line_word eight s) i (word new_words_of i 8)
  innermost i h =
      let f = tree_of eight s n p in
      let sits = flat-sits f in
      let is : Innermost (word new_words_of) i (word new_words_of i 8) =
      parent-innermost (word new_words_of) p.head p.inner (sits-at new_words_of 0 f sits.0) (under-above new_words_of 0 0 f sits.1) i (omega (arith, p.sized)) in
      let end : (m : ℕ) → m < n → word new_words_of m 7 ≡ line_word eight s m 7 = λ m l. same_word eight s n p m l 7 (omega arith) in
      record {
        root = is.root;
        before = is.before;
        around = λ l. subst (λ x. i < x) (end (word new_words_of i 8) (omega (arith, is.before l))) (is.around l);
        ended = λ m lo hi. subst (λ x. x ≤ i) (end m (omega arith)) (is.ended m lo hi);
      }

  pub parent-few : (i r : ℕ) → i < n → Innermost (line_word eight s) i r → r < 2 ^ 32
  parent-few i r h is = small (ℕ_discrete i 0)
    where
      small : Dec (i ≡ 0) → r < 2 ^ 32
      small (yes e) = omega (arith, is.root e)
      small (no e) = omega (arith, is.before (omega arith), few (omega arith))

  module _ (o₀ o : List ℕ) (room : 73 * n ≤ length o₀) (i : ℕ) (h : i < n) (so_far : o ≡ over o₀ 0 (lines_of 9 i new_words_of)) where
    lines_long : length (lines_of 9 i new_words_of) ≡ 73 * i
    lines_long = lines-length 9 i new_words_of (omega (arith, up-long))

    -- The parent's digits of a line that is put.
    parent-put : (j : ℕ) → j < i → part o (73 * j + 64) 8 ≡ hex_digits 8 (word new_words_of j 8)
    parent-put j l =
        ap (λ x. part x (73 * j + 64) 8) so_far
        ∙ part-put o₀ (lines_of 9 i new_words_of) (73 * j + 64) 8 (omega (arith, lines_long))
        ∙ parent_in i new_words_of (omega (arith, up-long)) j l

    parent_is : (j : ℕ) → j < i → line_word nine o j 8 ≡ word new_words_of j 8
    parent_is j l =
        ap hex_value (parent-put j l)
        ∙ digits_value 8 (word new_words_of j 8)
        ∙ mod-eq_of_lt (parent-few j (word new_words_of j 8) (omega arith) (innermost j (omega arith)))

    -- The parents of the records before i can be climbed by.
    pub climbable : length o ≡ length o₀ → Climbable s i o
    climbable long = record {
      root = omega (arith, root-end);
      ends = λ j l. p.lined.line j (omega arith) 7 (omega arith);
      there = λ j l. record { fits = omega arith; digits = ap all_digits (parent-put j l) ∙ digits-all 8 (word new_words_of j 8) };
      parents = λ j l. subst (Innermost (line_word eight s) j) (sym (parent_is j l)) (innermost j (omega arith));
    }

    line-up : line_of (part new_words_of (9 * i) 9) ≡ part s (65 * i) 64 ++ (hex_digits 8 (word new_words_of i 8) ++ (10 ∷ []))
    line-up =
        let digits = hex_digits 8 (word new_words_of i 8) in
        let front : word_digits (part new_words_of (9 * i) 8) ≡ part s (65 * i) 64 =
        front-digits new_words_of (9 * i) s (65 * i) (omega (arith, up-long)) (line-there-up i h) (λ k l. (p.lined.line i h k l).digits) (same_word eight s n p i h) in
        let all : word_digits (part new_words_of (9 * i) 9) ≡ part s (65 * i) 64 ++ digits =
        rw (word_next (drop (9 * i) new_words_of) 8 (simp length-drop (omega (arith, up-long))), front, get_or-drop (9 * i) new_words_of 8 0) refl in
        ap (λ x. x ++ (10 ∷ [])) all
        ∙ append_assoc (part s (65 * i) 64) digits (10 ∷ [])

    -- One line more.
    pub up_next : (r : ℕ) → Innermost (line_word eight s) i r → (o' : List ℕ)
        → o' ≡ over o (73 * i) (part s (65 * i) 64 ++ (hex_digits 8 r ++ (10 ∷ []))) → o' ≡ over o₀ 0 (lines_of 9 (i + 1) new_words_of)
    up_next r is o' e =
        let same : r ≡ word new_words_of i 8 = one-innermost (line_word eight s) i r (word new_words_of i 8) is (innermost i h) in
        e
        ∙ ap (λ x. over o (73 * i) (part s (65 * i) 64 ++ (hex_digits 8 x ++ (10 ∷ [])))) same
        ∙ ap (over o (73 * i)) (sym line-up)
        ∙ line-behind 9 new_words_of i o₀ o so_far (omega (arith, up-long)) (omega arith)

  pub up-all : (o₀ o : List ℕ) → o ≡ over o₀ 0 (lines_of 9 n new_words_of) → PutIs eight s n o₀ o
  up-all o₀ o h = put_all eight s n p o₀ o (h ∙ ap (λ k. over o₀ 0 (lines_of 9 k new_words_of)) (sym (tree-size eight s n p)))

-- ---- either way

-- The other edition's lines of the first i records stand from 0 on.
pub record Midway (e : Edition) (s : List ℕ) (n i : ℕ) (o₀ o : List ℕ) : Type 0 where
  pub planted : Planted e s n
  pub room : line_in (other e) * n ≤ length o₀
  pub so_far : o ≡ over o₀ 0 (lines_of (words_in (other e)) i (flat_in (other e) (tree_of e s n planted)))

pub midway-none : (e : Edition) (s : List ℕ) (n : ℕ) (o : List ℕ) → Planted e s n → line_in (other e) * n ≤ length o → Midway e s n 0 o o
unfolding lines_of
midway-none e s n o p room = record { planted = p; room = room; so_far = sym (over_none o 0) }

pub midway-all : (e : Edition) (s : List ℕ) (n : ℕ) (o₀ o : List ℕ) → Midway e s n n o₀ o → PutIs e s n o₀ o
midway-all eight s n o₀ o m = up-all s n m.planted o₀ o m.so_far
midway-all nine s n o₀ o m = down-all s n m.planted o₀ o m.so_far

-- Which edition it is, where the code has told.
pub is-nine : (ninth : Bool) (s : List ℕ) (n i : ℕ) (o₀ o : List ℕ) → ninth ≡ true → Midway (edition_of ninth) s n i o₀ o → Midway nine s n i o₀ o
is-nine ninth s n i o₀ o e = subst (λ b. Midway (edition_of b) s n i o₀ o) e

pub is-eight : (ninth : Bool) (s : List ℕ) (n i : ℕ) (o₀ o : List ℕ) → ninth ≡ false → Midway (edition_of ninth) s n i o₀ o → Midway eight s n i o₀ o
is-eight ninth s n i o₀ o e = subst (λ b. Midway (edition_of b) s n i o₀ o) e

-- One line more.
pub midway-down : (ninth : Bool) (s : List ℕ) (n i : ℕ) (o₀ o : List ℕ) → ninth ≡ true → Midway (edition_of ninth) s n i o₀ o → i < n
    → (o' : List ℕ) → o' ≡ over o (65 * i) (part s (73 * i) 64 ++ (10 ∷ [])) → Midway (edition_of ninth) s n (i + 1) o₀ o'
midway-down ninth s n i o₀ o e m h o' put =
    let d = is-nine ninth s n i o₀ o e m in
    subst (λ b. Midway (edition_of b) s n (i + 1) o₀ o') (sym e)
    (record { planted = d.planted; room = d.room; so_far = down-next s n d.planted i h o₀ o o' d.room d.so_far put })

pub midway-up : (ninth : Bool) (s : List ℕ) (n i : ℕ) (o₀ o : List ℕ) → ninth ≡ false → Midway (edition_of ninth) s n i o₀ o → i < n
    → (r : ℕ) → Innermost (line_word eight s) i r
    → (o' : List ℕ) → o' ≡ over o (73 * i) (part s (65 * i) 64 ++ (hex_digits 8 r ++ (10 ∷ []))) → Midway (edition_of ninth) s n (i + 1) o₀ o'
midway-up ninth s n i o₀ o e m h r is o' put =
    let u = is-eight ninth s n i o₀ o e m in
    subst (λ b. Midway (edition_of b) s n (i + 1) o₀ o') (sym e)
    (record { planted = u.planted; room = u.room; so_far = up_next s n u.planted o₀ o u.room i h u.so_far r is o' put })
