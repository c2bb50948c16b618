-- Rule 11's walk, for the loop that makes it: a byte at a time, or a run of ordinary characters at once.
-- Assumes nothing.
use Prim.Native.Nat.{ℕ, zero, suc, ◌+◌, ◌-◌, ◌≤◌, ◌<◌}
use mathlib.Core.Path.{◌≡◌, refl, sym, ap, ◌∙◌}
use mathlib.Core.Bool.{Bool, true, false, not, ◌&&◌, ◌||◌}
use mathlib.Core.List.{List}
use mathlib.Core.Logic.{⊎_elim, ◌⊎◌, inl, inr}
use native.Mathlib.Nat.{eq-or-lt_of_le}
use native.Mathlib.Omega.{arith}
use borrow.Author.Tests.{leb-true, lt-ltb, ne_eqb}
use lib.Dec.{leb, eqb}
use lib.ListN.{length, get_or, drop, drop_of_length-le}
use Rattle.form.specs.Answer.{pick}
use Rattle.form.proofs.Drops.{drop1}
use Rattle.form.proofs.Picks.{and_left, and_right}
use Rattle.snbt_form.specs.Lexing.{Stops, default, key, value, first, later, Scan, among, blank, stop_set, within_quotes, stops, level, grown, after, Word, word_of, slurp, begun, word, skip_by, skip}
use Rattle.snbt_form.proofs.Moves.{either_way}
use Rattle.snbt_text.proofs.Texts.{begins-le}
use Rattle.snbt_lexer.specs.Runs.{between, ordinary, run_by, run_end, Bounded, extended}

-- ---- the numbers stay small

module _ (i : ℕ) where
  abbrev Below : ℕ → Type 0
  Below n = n ≤ i + 1

  level-kept : (s : Scan) (opening closing b n : ℕ) → n ≤ i → Below (level s opening closing b n)
  level-kept s opening closing b n h =
      either_way Below (within_quotes s) (omega arith) (either_way Below (eqb b opening) (omega arith) (either_way Below (eqb b closing) (omega arith) (omega arith)))

  grown-kept : (s : Scan) (b : ℕ) → Bounded s i → Bounded (grown s b i) (i + 1)
  grown-kept s b h = record {
    curly = level-kept s 123 125 b s.curly h.curly;
    square = level-kept s 91 93 b s.square h.square;
    end = either_way Below (blank b) (omega (arith, h.end)) (omega arith);
    width = either_way Below (blank b) (omega (arith, h.width)) (omega (arith, h.width, begins-le b));
  }

  pub after_kept : (s : Scan) (b : ℕ) → Bounded s i → Bounded (after s b i) (i + 1)
  unfolding after
  after_kept s b h =
      let P : Scan → Type 0 = λ (s' : Scan). Bounded s' (i + 1) in
      let same : (x y z : Bool) → P (record { curly = s.curly; square = s.square; single = x; double = y; escape = z; end = s.end; width = s.width }) = λ (x : Bool) (y : Bool) (z : Bool). record {
        curly = omega (arith, h.curly);
        square = omega (arith, h.square);
        end = omega (arith, h.end);
        width = omega (arith, h.width);
      } in
      either_way P (eqb b 92) (same _ _ _) (either_way P (eqb b 39) (same _ _ _) (either_way P (eqb b 34) (same _ _ _) (grown-kept s b h)))

  pub run-kept : (s : Scan) (j : ℕ) → Bounded s i → i ≤ j → Bounded (extended s (j - i) j) j
  run-kept s j h k = record {
    curly = omega (arith, h.curly);
    square = omega (arith, h.square);
    end = omega arith;
    width = omega (arith, h.width);
  }

-- ---- an ordinary character

-- What it is not.
pub record Ordinary (b : ℕ) : Type 0 where
  pub low : 44 < b
  pub high : b < 123
  pub colon : b ≡ 58 → ⊥
  pub semicolon : b ≡ 59 → ⊥
  pub opening : b ≡ 91 → ⊥
  pub backslash : b ≡ 92 → ⊥
  pub closing : b ≡ 93 → ⊥

-- a byte between two
both : (a z b : ℕ) → between a z b ≡ true → (a ≤ b) × (b ≤ z)
both a z b e = (leb-true a b (and_left (leb a b) (leb b z) e), leb-true b z (and_right (leb a b) (leb b z) e))

-- it lies in one of three ranges, and is no byte that lies in none
pub ordinary-is : (b : ℕ) → ordinary b ≡ true → Ordinary b
ordinary-is b e = record {
  low = bounds.0;
  high = bounds.1;
  colon = not-it 58 refl;
  semicolon = not-it 59 refl;
  opening = not-it 91 refl;
  backslash = not-it 92 refl;
  closing = not-it 93 refl;
}
  where
    bounds : (44 < b) × (b < 123)
    bounds = go (between 45 57 b) (between 60 90 b) refl refl e
      where
        go : (x y : Bool) → between 45 57 b ≡ x → between 60 90 b ≡ y → (x || (y || between 94 122 b)) ≡ true → (44 < b) × (b < 123)
        go true y p q h = let k = both 45 57 b p in (omega (arith, k), omega (arith, k))
        go false true p q h = let k = both 60 90 b q in (omega (arith, k), omega (arith, k))
        go false false p q h = let k = both 94 122 b h in (omega (arith, k), omega (arith, k))

    not-it : (n : ℕ) → ordinary n ≡ false → b ≡ n → ⊥
    not-it n f z = let w : true ≡ false = sym e ∙ ap ordinary z ∙ f in let u : ◌≡◌ {A = ℕ} 0 1 = cc in omega arith

module _ (b : ℕ) (o : Ordinary b) where
  below : (n : ℕ) → n ≤ 44 → eqb b n ≡ false
  below n h = ne_eqb b n (λ e. omega (arith, o.low, e))

  above : (n : ℕ) → 123 ≤ n → eqb b n ≡ false
  above n h = ne_eqb b n (λ e. omega (arith, o.high, e))

  no_stop : (set : Stops) → among (stop_set set) b ≡ false
  unfolding among
  no_stop default =
      simp (below 44 (omega arith), ne_eqb b 59 o.semicolon, ne_eqb b 91 o.opening, ne_eqb b 93 o.closing, above 123 (omega arith), above 125 (omega arith))
  no_stop key = simp (ne_eqb b 58 o.colon)
  no_stop value = simp (below 44 (omega arith), above 125 (omega arith))
  no_stop first = simp (below 44 (omega arith), ne_eqb b 59 o.semicolon, ne_eqb b 93 o.closing)
  no_stop later = simp (below 44 (omega arith), ne_eqb b 93 o.closing)

  not-blank : blank b ≡ false
  unfolding among
  not-blank = simp (below 9 (omega arith), below 10 (omega arith), below 12 (omega arith), below 13 (omega arith), below 32 (omega arith))

  -- it ends no token
  ordinary-passes : (set : Stops) (s : Scan) → stops set s b ≡ false
  ordinary-passes set s = rw (no_stop set) (go (not (within_quotes s)) (eqb s.curly 0) (eqb s.square 0))
    where
      go : (x y z : Bool) → (x && (y && (z && false))) ≡ false
      go true true true = refl
      go true true false = refl
      go true false z = refl
      go false y z = refl

  -- it changes no level
  no-brace : (s : Scan) (opening closing n : ℕ) → eqb b opening ≡ false → eqb b closing ≡ false → level s opening closing b n ≡ n
  no-brace s opening closing n x y = rw (x, y) (go (within_quotes s))
    where
      go : (t : Bool) → pick t n n ≡ n
      go true = refl
      go false = refl

  -- it extends the token by a byte and a character, and ends a backslash's effect
  ordinary-grows : (s : Scan) (i : ℕ) → after s b i ≡ extended s 1 (i + 1)
  unfolding after
  ordinary-grows s i =
      rw (
        ne_eqb b 92 o.backslash,
        below 39 (omega arith),
        below 34 (omega arith),
        no-brace s 123 125 s.curly (above 123 (omega arith)) (above 125 (omega arith)),
        no-brace s 91 93 s.square (ne_eqb b 91 o.opening) (ne_eqb b 93 o.closing),
        not-blank,
        lt-ltb b 128 (omega (arith, o.high)),
      ) refl

-- ---- a run of them

-- Such bytes stand from a place up to another.
pub record Run (t : List ℕ) (from to : ℕ) : Type 0 where
  pub low : from ≤ to
  pub high : to ≤ length t
  pub each : (k : ℕ) → from ≤ k → k < to → Ordinary (get_or t k 0)

module _ (t : List ℕ) (i : ℕ) where
  pub run_more : i < length t → ordinary (get_or t i 0) ≡ true → run_end t i ≡ run_end t (i + 1)
  unfolding run_end run_by
  run_more h e = rw (drop1 t i h, e) refl

  pub run-stop : i < length t → ordinary (get_or t i 0) ≡ false → run_end t i ≡ i
  unfolding run_end run_by
  run-stop h e = rw (drop1 t i h, e) refl

  pub run-whole : length t ≤ i → run_end t i ≡ i
  unfolding run_end run_by
  run-whole h = rw (drop_of_length-le t {i = i} h) refl

-- Up to where the run ends such bytes stand.
pub run_is : (t : List ℕ) (i : ℕ) → i ≤ length t → Run t i (run_end t i)
run_is t i h = walk (length t - i) i (omega arith)
  where
    nothing : (i : ℕ) → i ≤ length t → Run t i i
    nothing i h = record { low = omega arith; high = h; each = λ k x y. absurd (omega (arith, x, y)) }

    behind : (i r : ℕ) → Ordinary (get_or t i 0) → Run t (i + 1) r → Run t i r
    behind i r o s = record { low = omega (arith, s.low); high = s.high; each = λ k x y. ⊎_elim (λ e. rw (← e) o) (λ l. s.each k (omega arith) y) (eq-or-lt_of_le x) }

    walk : (n i : ℕ) → i + n ≡ length t → Run t i (run_end t i)
    walk zero i e = rw (run-whole t i (omega (arith, e))) (nothing i (omega (arith, e)))
    walk (suc n) i e = go (walk n (i + 1) (omega (arith, e))) (ordinary (get_or t i 0)) refl
      where
        go : Run t (i + 1) (run_end t (i + 1)) → (x : Bool) → ordinary (get_or t i 0) ≡ x → Run t i (run_end t i)
        go s true p = rw (run_more t i (omega (arith, e)) p) (behind i (run_end t (i + 1)) (ordinary-is (get_or t i 0) p) s)
        go s false p = rw (run-stop t i (omega (arith, e)) p) (nothing i (omega (arith, e)))

-- ---- the walk from a place

module _ (set : Stops) (t : List ℕ) where
  slurp-stop : (i : ℕ) (s : Scan) → i < length t → stops set s (get_or t i 0) ≡ true → slurp set (drop i t) s i ≡ word_of s i
  unfolding slurp
  slurp-stop i s h e = rw (drop1 t i h, e) refl

  slurp-on : (i : ℕ) (s : Scan) → i < length t → stops set s (get_or t i 0) ≡ false → slurp set (drop i t) s i ≡ slurp set (drop (i + 1) t) (after s (get_or t i 0) i) (i + 1)
  unfolding slurp
  slurp-on i s h e = rw (drop1 t i h, e) refl

  run-one : (i j : ℕ) (s : Scan) → i < j → Run t i j → slurp set (drop i t) s i ≡ slurp set (drop (i + 1) t) (extended s 1 (i + 1)) (i + 1)
  run-one i j s h r =
      let o : Ordinary (get_or t i 0) = r.each i (omega arith) h in
      slurp-on i s (omega (arith, r.high)) (ordinary-passes (get_or t i 0) o set s)
      ∙ ap (λ (x : Scan). slurp set (drop (i + 1) t) x (i + 1)) (ordinary-grows (get_or t i 0) o s i)

  -- taking a run of ordinary characters is adding its length
  slurp-run : (n i j : ℕ) (s : Scan) → j ≡ i + suc n → Run t i j → slurp set (drop i t) s i ≡ slurp set (drop j t) (extended s (suc n) j) j
  slurp-run zero i j s e r = let z : j ≡ i + 1 = omega (arith, e) in rw z (run-one i j s (omega (arith, e)) r)
  slurp-run (suc n) i j s e r =
      run-one i j s (omega (arith, e)) r
      ∙ slurp-run n (i + 1) j (extended s 1 (i + 1)) (omega (arith, e)) (record { low = omega (arith, e); high = r.high; each = λ k x y. r.each k (omega (arith, x)) y })
      ∙ ap (λ (w : ℕ). slurp set (drop j t) (record { curly = s.curly; square = s.square; single = s.single; double = s.double; escape = false; end = j; width = w }) j) (omega arith)

  module _ (start : ℕ) where
    -- From a place on the walk gives the token.
    abbrev pub Going : Scan → ℕ → Type 0
    Going s i = slurp set (drop i t) s i ≡ word set t start

    pub going_start : Going (begun start) (start + 1)
    unfolding word
    going_start = refl

    pub going-run : (i j : ℕ) (s : Scan) → i < j → Run t i j → Going s i → Going (extended s (j - i) j) j
    going-run i j s h r g = go (j - i) (omega arith) (omega arith)
      where
        go : (m : ℕ) → j ≡ i + m → 0 < m → Going (extended s m j) j
        go zero e k = absurd (omega arith)
        go (suc n) e k = sym (slurp-run n i j s e r) ∙ g

    pub going_on : (i : ℕ) (s : Scan) → i < length t → stops set s (get_or t i 0) ≡ false → Going s i → Going (after s (get_or t i 0) i) (i + 1)
    going_on i s h e g = sym (slurp-on i s h e) ∙ g

    pub going-stop : (i : ℕ) (s : Scan) → i < length t → stops set s (get_or t i 0) ≡ true → Going s i → word_of s i ≡ word set t start
    going-stop i s h e g = sym (slurp-stop i s h e) ∙ g

    pub going_end : (i : ℕ) (s : Scan) → length t ≤ i → Going s i → word_of s i ≡ word set t start
    unfolding slurp
    going_end i s h g = rw (drop_of_length-le t {i = i} h) at g

    -- a run behind the first character that a stop character ends is the whole token
    pub word-run : (j : ℕ) → Run t (start + 1) j → j < length t → among (stop_set set) (get_or t j 0) ≡ true
        → ◌≡◌ {A = Word} (record { end = j; width = j - start; next = j }) (word set t start)
    word-run j r h e = go (eq-or-lt_of_le r.low)
      where
        -- the width, counted from the first character and from the run
        widths : (m n : ℕ) → m ≡ n → ◌≡◌ {A = Word} (record { end = j; width = m; next = j }) (record { end = j; width = n; next = j })
        widths m n z = ap (λ (w : ℕ). record { end = j; width = w; next = j }) z

        go : (start + 1 ≡ j) ⊎ (start + 1 < j) → ◌≡◌ {A = Word} (record { end = j; width = j - start; next = j }) (word set t start)
        go (inl z) =
            widths (j - start) 1 (omega (arith, z))
            ∙ going-stop j (record { curly = 0; square = 0; single = false; double = false; escape = false; end = j; width = 1 }) h e (rw (← z) going_start)
        go (inr z) =
            widths (j - start) (1 + (j - (start + 1))) (omega (arith, z))
            ∙ going-stop j (extended (begun start) (j - (start + 1)) j) h e (going-run (start + 1) j (begun start) z r going_start)

-- ---- blanks

module _ (t : List ℕ) (i : ℕ) where
  pub skip-more : i < length t → blank (get_or t i 0) ≡ true → skip t i ≡ skip t (i + 1)
  unfolding skip skip_by
  skip-more h e = rw (drop1 t i h, e) refl

  pub skip_stop : i < length t → blank (get_or t i 0) ≡ false → skip t i ≡ i
  unfolding skip skip_by
  skip_stop h e = rw (drop1 t i h, e) refl

  pub skip-end : length t ≤ i → skip t i ≡ i
  unfolding skip skip_by
  skip-end h = rw (drop_of_length-le t {i = i} h) refl
