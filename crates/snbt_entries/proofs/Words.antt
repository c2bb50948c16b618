-- A key that is a word of ordinary characters with its colon right behind it (rules 11, 12 and 15).
-- Assumes nothing.
use Prim.Native.Nat.{ℕ, ◌+◌, ◌-◌, ◌≤◌, ◌<◌}
use mathlib.Core.Path.{◌≡◌, refl, sym, ap, subst, ◌∙◌}
use mathlib.Core.Bool.{Bool, true, false, ◌&&◌, ◌||◌}
use mathlib.Core.Logic.{◌⊎◌, inl, inr}
use mathlib.Core.List.{List, []}
use native.Mathlib.Nat.{eq-or-lt_of_le}
use native.Mathlib.Omega.{arith}
use borrow.Author.Tests.{ne_eqb, lt-leb}
use lib.Dec.{eqb}
use lib.ListN.{length, get_or, take}
use Rattle.form.specs.Answer.{got}
use Rattle.form.specs.Spans.{part, over}
use Rattle.form.proofs.Spans.{part_length}
use Rattle.snbt_form.specs.Numbers.{is_digit}
use Rattle.snbt_form.specs.Lexing.{among, default, key, colon, string, Scan, word, begun, stops, found, made, skip, token_by, token_at, content_of}
use Rattle.snbt_form.specs.Text.{Last, key_of, known}
use Rattle.snbt_lexer.proofs.Among.{blank-out}
use Rattle.snbt_lexer.proofs.Slurps.{Ordinary, Run, Going, going_start, going-run, going-stop, skip_stop}
use Rattle.snbt_lexer.proofs.Finds.{unquoted-string, by_word, token-here}
use Rattle.plain.specs.Runs.{IsPlain, Plain}
use Rattle.snbt_contents.proofs.Sofar.{sofar-start, sofar-plain, sofar-end}
use Rattle.snbt_key_text.specs.Keys.{KeyRoom}
use Rattle.snbt_key_text.proofs.Keys.{key-string, string-got, taken}
use Rattle.snbt_keys.specs.Keys.{FreeAt, names_in}
use Rattle.snbt_due.specs.Due.{Met}
use Rattle.snbt_due.proofs.Steps.{met_at}
use Rattle.snbt_entries.specs.declared.Key.{Key}
use Rattle.std.specs.Prelude.{Result, Err}
use Rattle.form.specs.declared.refusals.Refusal.TheVariants.{NameTwice}
use Rattle.form.specs.declared.refusals.Refused.{Refused}
use Rattle.snbt_entries.specs.Words.{word_data, Worded}
use Rattle.snbt_entries.specs.Entries.{NameIs, NamedIs, KeyedIs}
use Rattle.snbt_entries.proofs.Turns.{entry-twice}
use Rattle.snbt_entries.proofs.Colons.{colon-to}
use Rattle.snbt_entries.proofs.Keyed.{named-is, keyed-named}

-- ---- where it ends

module _ (t : List ℕ) (i j : ℕ) (first : 60 ≤ get_or t i 0) (run : Run t i j) (low : j < length t) (sign : get_or t j 0 ≡ 58) where
  abbrev b : ℕ
  b = get_or t i 0

  some : i < j
  some = go (eq-or-lt_of_le run.low)
    where
      go : (i ≡ j) ⊎ (i < j) → i < j
      go (inl e) = let z : get_or t i 0 ≡ 58 = rw e sign in absurd (omega (arith, first, z))
      go (inr h) = h

  first-is : Ordinary b
  first-is = run.each i (omega arith) some

  word-here : skip t i ≡ i
  word-here =
      skip_stop t i (omega (arith, some))
      (sym (blank-out b (λ e. omega (arith, first, e)) (λ e. omega (arith, first, e)) (λ e. omega (arith, first, e)) (λ e. omega (arith, first, e)) (λ e. omega (arith, first, e))))

  -- the scan of so many characters up to a place, and the one at the colon
  abbrev scanned : ℕ → ℕ → Scan
  scanned e w = record { curly = 0; square = 0; single = false; double = false; escape = false; end = e; width = w }

  abbrev scan : Scan
  scan = scanned j (j - i)

  at-colon : Going key t i scan j
  at-colon = go (eq-or-lt_of_le less)
    where
      less : i + 1 ≤ j
      less = omega (arith, some)

      go : (i + 1 ≡ j) ⊎ (i + 1 < j) → Going key t i scan j
      go (inl e) =
          let z : 1 ≡ j - i = omega (arith, e) in
          subst (λ (n : ℕ). Going key t i (scanned j n) j) z (subst (λ (n : ℕ). Going key t i (scanned n 1) n) e (going_start key t i))
      go (inr h) =
          let z : 1 + (j - (i + 1)) ≡ j - i = omega (arith, h) in
          let rest : Run t (i + 1) j = record { low = omega (arith, h); high = run.high; each = λ k x y. run.each k (omega (arith, x)) y } in
          subst (λ (n : ℕ). Going key t i (scanned j n) j) z (going-run key t i (i + 1) j (begun i) h rest (going_start key t i))

  colon-stops : stops key scan (get_or t j 0) ≡ true
  unfolding among
  colon-stops = rw sign refl

  word-is : record { end = j; width = j - i; next = j } ≡ word key t i
  word-is = going-stop key t i j scan low colon-stops at-colon

  no_number : false ≡ (eqb b 45 || is_digit b)
  no_number = simp (ne_eqb b 45 (λ e. omega (arith, first, e)), lt-leb b 57 (omega (arith, first)), never)
    where
      never : (x : Bool) → (x && false) ≡ false
      never true = refl
      never false = refl

  word-token : token_at key t i ≡ got (found (word_data i j) j)
  word-token =
      let o = first-is in
      sym (token-here key t i i (sym word-here) (got (found (word_data i j) j)) (omega (arith, some))
      (by_word key t i b (got (found (word_data i j) j)) (λ e. omega (arith, first, e)) o.colon o.semicolon o.opening o.closing
      (λ e. omega (arith, o.high, e)) (λ e. omega (arith, o.high, e)) quoteless
      (unquoted-string key t i (record { end = j; width = j - i; next = j }) word-is false (got (found (word_data i j) j)) no_number refl refl)))
    where
      quoteless : (b ≡ 34) ⊎ (b ≡ 39) → ⊥
      quoteless (inl e) = omega (arith, first, e)
      quoteless (inr e) = omega (arith, first, e)

  colon-here : skip t j ≡ j
  unfolding among
  colon-here = skip_stop t j low (rw sign refl)

  colon-token : token_at default t j ≡ got (made colon j 1 (j + 1))
  unfolding token_by
  colon-token = sym (token-here default t j j (sym colon-here) (got (made colon j 1 (j + 1))) low (rw sign refl))

  plain : Plain 92 92 t i j
  plain = record { each = λ k x y. of (run.each k x y) }
    where
      of : {x : ℕ} → Ordinary x → IsPlain 92 92 x
      of o = record { some = omega (arith, o.low); low = omega (arith, o.high); first = o.backslash; second = o.backslash }

  own-content : content_of t false i j ≡ got (part t i (j - i))
  own-content =
      sofar-end t false i j (part t i (j - i)) j (omega arith)
      (sofar-plain t false i j i j [] (omega (arith, some)) (omega arith) (omega arith) plain (sofar-start t false i j))

  pub word-ends : j - i ≤ 65535 → Worded t i j
  word-ends h = record {
    order = run.low;
    within = low;
    short = h;
    here = word-here;
    token = word-token;
    behind = colon-token;
    content = own-content;
  }

-- ---- its name

module _ (t : List ℕ) (i j : ℕ) (w : Worded t i j) where
  abbrev name : List ℕ
  name = part t i (j - i)

  word-length : length name ≡ j - i
  word-length = part_length t i (j - i) (omega (arith, w.order, w.within))

  word-met : Met t (word_data i j) j
  word-met = met_at key t i (word_data i j) j w.token (omega (arith, w.order, w.within))

  word-key : (room : ℕ) → key_of t room (string false i j) i ≡ got name
  word-key room =
      sym (key-string t false i j i room (string false i j) refl)
      ∙ string-got t false i j i room name w.content (omega (arith, word-length, w.short))

  -- There is room for it in the buffer.
  pub word_room : {m : ℕ} → KeyRoom (length t) m → j - i ≤ m
  word_room (inl r) = omega (arith, r, w.short)
  word_room (inr r) = omega (arith, r, w.within)

  -- It was copied to the buffer's start.
  pub word_stands : (o o' : List ℕ) → j - i ≤ length o → o' ≡ over o 0 name → take (j - i) o' ≡ name
  word_stands o o' h e =
      let l = word-length in
      ap (λ (n : ℕ). take n o') (sym l) ∙ ap (take (length name)) e ∙ taken name o (omega (arith, l, h))

  -- ---- and its entry

  module _ (o k : List ℕ) (base top : ℕ) (buffer : List ℕ) (s : take (j - i) buffer ≡ name) where
    pub word-twice : known (take (j - i) buffer) (names_in o k base (top - base)) ≡ true → (brace : ℕ) → NamedIs t (word_data i j) j brace o k base top buffer (Err (record { refusal = NameTwice; place = i }))
    word-twice h brace room val u =
        entry-twice t room val brace (names_in o k base (top - base)) (record { td = word_data i j; next = j }) u name (word-key room) (rw (← s) h)

    pub word-named : (n : ℕ) → FreeAt o k base top (take (j - i) buffer) n → (brace : ℕ) → NameIs t (word_data i j) j brace o k base top buffer (j - i) n (j + 1)
    word-named n free brace =
        named-is t (word_data i j) j brace word-met o k base top buffer name (j - i) n (j + 1) word-key (sym word-length) s
        (subst (λ (x : List ℕ). FreeAt o k base top x n) s free) (colon-to t brace j _ (j + 1) w.behind (omega (arith, w.within)) refl)

  -- ---- from a place before it

  pub keyed-word : (p : ℕ) → i ≡ skip t p → p ≤ length t → (brace : ℕ) (last : Last) (o k : List ℕ) (base top : ℕ) (buffer : List ℕ) (r : Result Key Refused)
      → NamedIs t (word_data i j) j brace o k base top buffer r → KeyedIs t brace last p o k base top buffer r
  unfolding token_at
  keyed-word p e h brace last o k base top buffer r l =
      let same : token_at key t p ≡ token_at key t i = rw (← e, w.here) refl in
      keyed-named t brace last p o k base top buffer (word_data i j) j (same ∙ w.token) h r (λ z. omega (arith, z)) l
