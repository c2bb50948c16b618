-- What a text means keeps the rules and takes the bytes counted, and a refusal has one of the numbers of a parse: by recursion on the
-- containers left, for each part of a text.
-- Assumes nothing.
use Prim.Native.Nat.{ℕ, zero, suc, ◌+◌, ◌-◌, ◌≤◌, ◌<◌}
use mathlib.Core.Bool.{Bool, true, false, not, ◌&&◌, ◌||◌}
use mathlib.Core.List.{List, [], ◌∷◌, ◌++◌}
use mathlib.Core.Logic.{◌⊎◌, inl, inr}
use mathlib.Core.Path.{◌≡◌, refl, sym, subst, ◌∙◌}
use native.Mathlib.Omega.{arith}
use lib.Dec.{ltb, leb, eqb}
use lib.IntN.{ℤ, pos, negsuc}
use borrow.Author.Tests.{ltb-true, leb-true, eqb-true, ne_eqb, not-true}
use lib.ListN.{length, get_or, length-append}
use Rattle.form.specs.Form.{java}
use Rattle.form.specs.Answer.{Out, got, no, ◌>>◌, pick, text_limit, depth_limit, string_limit, too_deep, text_ends, unmatched_brace}
use Rattle.form.specs.Numbers.{FitsIn, bytes_of, bits_of}
use Rattle.form.specs.Spans.{same}
use Rattle.form.specs.Tree as tree
use Rattle.form.specs.Tree.{Tag, Tags, Entries, nil, more, entry, kind_of, many, depth, tags_depth, entries_depth, TextIn, Array, AllFit, has_entry, OneKind, ValidIn, ValidTagsIn, ValidEntriesIn, ValidBy}
use Rattle.form.specs.Layout.{string_bytes, int_bytes, ints_bytes, payload, element_bytes, entry_bytes, element_bytes_in, ints_bytes_in, payload_in}
use Rattle.form.proofs.Answer.{guard-got}
use Rattle.form.proofs.Digits.{digits-length}
use Rattle.snbt_form.specs.Numbers.{Number, byte, short, int, long, float, double}
use Rattle.snbt_form.specs.Lexing.{among, Stops, default, key, value, first, later, Token, open_curly, closed_curly, open_square, closed_square, comma}
use Rattle.snbt_form.specs.Lexing.{colon, semicolon, string, numeral, TokenData, Lexed, found, ended, token_at, content_of, judged_text}
use Rattle.snbt_form.specs.Text.{Value, Row, Ints, Block, Next, Then, goes_on, closes, Last, otherwise, after_comma, no_comma, Reads, sign_of, or_else, in_range, ranged, number_tag, array_width}
use Rattle.snbt_form.specs.Text.{whole_in, element_int, array_tag, known, due, following, string_of, scalar_tag, scalar_value, ints_by, array_at, elements_by, list_from, list_at, letter_width, Opened}
use Rattle.snbt_form.specs.Text.{an_array, a_list, with_semicolon, opened_by, square_at, key_of, colon_at, close_at, behind, entry_at, entries_by, compound_at, value_by, value_at, parsed}
use Rattle.snbt_form.proofs.Gives.{Gives, gives-got, gives-no, gives-bind, gives-guard, gives_then, gives-pick, gives-elim, gives-also, gives_all}
use Rattle.snbt_form.proofs.Contents.{content-formed}
use Rattle.snbt_form.proofs.Carried.{double-bits, single-bits}
use Rattle.snbt_form.proofs.Tokens.{TokenHeld, whole-any, LexedFine, NextFine, token-fine, or-fine, due-fine}
use Rattle.demands.specs.Numbers.{parse_numbers}
use Rattle.form.proofs.Picks.{differ, and_right}
use Rattle.demands.proofs.Tags.{kind-range}
use Rattle.demands.proofs.Names.{same_self}
use Rattle.form.proofs.Spans.{same_true}

-- ---- tests

-- an integer in the range of w bytes fits them
in-range : (w : ℕ) (z : ℤ) → in_range w z ≡ true → FitsIn w z
in-range w (pos n) e = ltb-true n _ e
in-range w (negsuc n) e = ltb-true n _ e

-- a kind that passes the test is the one wanted
kind-wanted : (want k : ℕ) → (eqb want 0 || eqb k want) ≡ true → (want ≡ 0 → ⊥) → k ≡ want
kind-wanted want k e n = eqb-true k want (subst (λ b. (b || eqb k want) ≡ true) (ne_eqb want 0 n) e)

-- ---- numbers

-- A tag that is no container and keeps the rules.
record Leaf (tag : Tag) : Type 0 where
  valid : ValidIn java tag
  flat : depth tag ≡ 0

ranged-leaf : (w : ℕ) (z : ℤ) (tag : Tag) (p : ℕ) → (FitsIn w z → Leaf tag) → Gives parse_numbers Leaf (ranged w z tag p)
unfolding among
ranged-leaf w z tag p f = gives-guard (in_range w z) _ _ _ refl (λ e. gives-got (f (in-range w z e)))

number-leaf : (n : Number) (p : ℕ) → TokenHeld (numeral n) → Gives parse_numbers Leaf (number_tag n p)
unfolding ValidBy depth
number-leaf (byte z) p h = ranged-leaf 1 z (tree.byte z) p (λ f. record { valid = f; flat = refl })
number-leaf (short z) p h = ranged-leaf 2 z (tree.short z) p (λ f. record { valid = f; flat = refl })
number-leaf (int z) p h = ranged-leaf 4 z (tree.int z) p (λ f. record { valid = f; flat = refl })
number-leaf (long z) p h = ranged-leaf 8 z (tree.long z) p (λ f. record { valid = f; flat = refl })
number-leaf (float x) p h = gives-got (record { valid = single-bits x; flat = refl })
number-leaf (double x) p h = gives-got (record { valid = double-bits x h; flat = refl })

element-fits : (w : ℕ) (k : Token) (p : ℕ) → Gives parse_numbers (FitsIn w) (element_int w k p)
unfolding among
element-fits w open_curly p = gives-no refl
element-fits w closed_curly p = gives-no refl
element-fits w open_square p = gives-no refl
element-fits w closed_square p = gives-no refl
element-fits w comma p = gives-no refl
element-fits w colon p = gives-no refl
element-fits w semicolon p = gives-no refl
element-fits w (string q a e) p = gives-no refl
element-fits w (numeral n) p =
    gives-guard (eqb (array_width n) w && in_range w (whole_in n)) _ _ _ refl (λ e. gives-got (in-range w (whole_in n) (and_right (eqb (array_width n) w) _ e)))

-- ---- names

-- No entry of es has one of the earlier names.
abbrev Apart : List (List ℕ) → Entries → Type 0
Apart earlier es = (x : List ℕ) → known x earlier ≡ true → has_entry x es ≡ false

-- An entry of a new name before entries that stand apart from it too.
apart-entry : (earlier : List (List ℕ)) (n : List ℕ) (tag : Tag) (es : Entries) → known n earlier ≡ false → Apart (n ∷ earlier) es → Apart earlier (entry n tag es) × (has_entry n es ≡ false)
unfolding known has_entry
apart-entry earlier n tag es new a = ((λ x e. go x e (same n x) refl), a n (rw (same_self n) refl))
  where
    go : (x : List ℕ) → known x earlier ≡ true → (b : Bool) → same n x ≡ b → (b || has_entry x es) ≡ false
    go x e true i = let q = same_true n x i in differ (sym e ∙ rw (← q) new)
    go x e false i = a x (rw i e)

-- ---- arrays

-- The widths of elements.
abbrev Width : ℕ → Type 0
Width w = (w ≡ 1) ⊎ ((w ≡ 4) ⊎ (w ≡ 8))

by_width : (P : ℕ → Type 0) (w : ℕ) → Width w → P 1 → P 4 → P 8 → P w
by_width P w (inl e) a b c = subst P (sym e) a
by_width P w (inr (inl e)) a b c = subst P (sym e) b
by_width P w (inr (inr e)) a b c = subst P (sym e) c

-- An element takes its width.
ints-length : (w : ℕ) (z : ℤ) (vs : List ℤ) → length (ints_bytes w (z ∷ vs)) ≡ w + length (ints_bytes w vs)
unfolding ints_bytes_in
ints-length w z vs = omega (arith, length-append (int_bytes w z) (ints_bytes w vs), digits-length w (bits_of w z))

-- An array of elements that fit takes four bytes and its elements.
array-leaf : (w : ℕ) → Width w → (vs : List ℤ) → Array w vs → Leaf (array_tag w vs) × (length (payload (array_tag w vs)) ≡ 4 + length (ints_bytes w vs))
unfolding ValidBy depth payload_in
array-leaf w h vs = by_width (λ w. Array w vs → Leaf (array_tag w vs) × (length (payload (array_tag w vs)) ≡ 4 + length (ints_bytes w vs))) w h
    (λ a. (record { valid = a; flat = refl }, long 1)) (λ a. (record { valid = a; flat = refl }, long 4)) (λ a. (record { valid = a; flat = refl }, long 8))
  where
    long : (w : ℕ) → length (bytes_of 4 (length vs) ++ ints_bytes w vs) ≡ 4 + length (ints_bytes w vs)
    long w = omega (arith, length-append (bytes_of 4 (length vs)) (ints_bytes w vs), digits-length 4 (length vs))

-- ---- what each part of a text gives

module _ (t : List ℕ) (room : ℕ) where
  -- The place q lies at or behind p, in the text.
  abbrev Ahead : ℕ → ℕ → Type 0
  Ahead p q = (p ≤ q) × (q ≤ length t)

  -- A value from p on behind u bytes, where so many containers are left.
  pub record ValueFine (left want p u : ℕ) (v : Value) : Type 0 where
    ahead : Ahead p v.next
    kind : (want ≡ 0 → ⊥) → kind_of v.tag ≡ want
    valid : ValidIn java v.tag
    deep : depth v.tag ≤ left
    used : v.used ≡ u + length (payload v.tag)
    fits : v.used ≤ room

  -- The rest of an array of elements of w bytes, of fewer than f of them.
  record IntsFine (f w p u : ℕ) (r : Ints) : Type 0 where
    ahead : Ahead p r.next
    fit : AllFit w r.values
    few : length r.values < f
    used : r.used ≡ u + length (ints_bytes w r.values)
    fits : r.used ≤ room

  -- The rest of a list of kind k, of fewer than f elements.
  record RowFine (left f k p u : ℕ) (r : Row) : Type 0 where
    ahead : Ahead p r.next
    one-kind : OneKind k r.tags
    valid : ValidTagsIn java r.tags
    deep : tags_depth r.tags ≤ left
    few : many r.tags < f
    used : r.used ≡ u + length (element_bytes r.tags)
    fits : r.used ≤ room

  -- The rest of a compound behind the earlier names.
  pub record BlockFine (left p u : ℕ) (earlier : List (List ℕ)) (b : Block) : Type 0 where
    pub ahead : Ahead p b.next
    pub valid : ValidEntriesIn java b.entries
    apart : Apart earlier b.entries
    pub deep : entries_depth b.entries ≤ left
    pub used : b.used ≡ u + length (entry_bytes b.entries)
    pub fits : b.used ≤ room

  -- What is ahead of a place is ahead of those before it.
  value-from : {left want p q u : ℕ} {v : Value} → p ≤ q → ValueFine left want q u v → ValueFine left want p u v
  value-from l h = record { ahead = (omega (arith, h.ahead.0), h.ahead.1); kind = h.kind; valid = h.valid; deep = h.deep; used = h.used; fits = h.fits }

  block-from : {left p q u : ℕ} {earlier : List (List ℕ)} {b : Block} → p ≤ q → BlockFine left q u earlier b → BlockFine left p u earlier b
  block-from l h = record { ahead = (omega (arith, h.ahead.0), h.ahead.1); valid = h.valid; apart = h.apart; deep = h.deep; used = h.used; fits = h.fits }

  -- A way of reading values that gives such values.
  abbrev Right : ℕ → Reads → Type 0
  Right left val = (want : ℕ) (x : TokenData) (n u : ℕ) → TokenHeld x.token → n ≤ length t → Gives parse_numbers (ValueFine left want n u) (val want x n u)

  -- ---- scalars

  string-text : (q : Bool) (a e p : ℕ) → Gives parse_numbers (TextIn java) (string_of t room q a e p)
  unfolding string_of among
  string-text q a e p =
      gives-bind (content_of t q a e) _ (gives_all refl (content-formed t q a e))
      (λ s w. gives-guard (leb (length s) string_limit) _ _ _ refl (λ l. gives-got (w, leb-true (length s) string_limit l)))

  scalar-leaf : (k : Token) (p : ℕ) → TokenHeld k → Gives parse_numbers Leaf (scalar_tag t room k p)
  unfolding scalar_tag ValidBy depth among
  scalar-leaf open_curly p h = gives-no refl
  scalar-leaf closed_curly p h = gives-no refl
  scalar-leaf open_square p h = gives-no refl
  scalar-leaf closed_square p h = gives-no refl
  scalar-leaf comma p h = gives-no refl
  scalar-leaf colon p h = gives-no refl
  scalar-leaf semicolon p h = gives-no refl
  scalar-leaf (string q a e) p h = gives-bind (string_of t room q a e p) _ (string-text q a e p) (λ s w. gives-got (record { valid = w; flat = refl }))
  scalar-leaf (numeral n) p h = number-leaf n p h

  scalar-fine : (left : ℕ) → Right left (scalar_value t room)
  unfolding scalar_value among
  scalar-fine left want x n u h w =
      gives-bind (scalar_tag t room x.token x.index) _ (scalar-leaf x.token x.index h)
      (λ tag l. gives-guard (eqb want 0 || eqb (kind_of tag) want) _ _ _ refl
      (λ k. gives-guard (leb (u + length (payload tag)) room) _ _ _ refl
      (λ r. gives-got (record {
        ahead = (omega arith, w);
        kind = kind-wanted want (kind_of tag) k;
        valid = l.valid;
        deep = omega (arith, l.flat);
        used = refl;
        fits = leb-true (u + length (payload tag)) room r;
      }))))

  -- ---- what follows

  -- A token that is due at p, its refusals being a parse's.
  due_in : (set : Stops) (p n q : ℕ) → among parse_numbers n ≡ true → p ≤ length t → Gives parse_numbers (NextFine t p) (due t room set p n q)
  unfolding among
  due_in = due-fine t refl room

  -- The place behind a comma or a closing brace lies behind p, in the text.
  abbrev ThenIn : ℕ → Then → Type 0
  ThenIn p (goes_on i n) = (p < n) × (n ≤ length t)
  ThenIn p (closes i n) = (p < n) × (n ≤ length t)

  following-in : (closing p n q : ℕ) → among parse_numbers n ≡ true → p ≤ length t → Gives parse_numbers (ThenIn p) (following t room closing p n q)
  unfolding following among
  following-in closing p n q o l =
      gives-bind (due t room default p n q) _ (due_in default p n q o l)
      (λ x h. gives-pick (eqb (sign_of x.td.token) 44) (λ _. gives-got (h.1, h.2))
      (λ _. gives-pick (eqb (sign_of x.td.token) closing) (λ _. gives-got (h.1, h.2)) (λ _. gives-no refl)))

  -- by what follows
  then-gives : {A : Type 0} {P : A → Type 0} (p : ℕ) (s : Then) {x y : ℕ → ℕ → Out A} → ThenIn p s
      → ((i n : ℕ) → p < n → n ≤ length t → Gives parse_numbers P (x i n)) → ((i n : ℕ) → p < n → n ≤ length t → Gives parse_numbers P (y i n))
      → Gives parse_numbers P (elim s [ closes i n ↦ x i n | goes_on i n ↦ y i n ])
  then-gives p (closes i n) h f g = f i n h.0 h.1
  then-gives p (goes_on i n) h f g = g i n h.0 h.1

  -- no comma stands last
  gives_none : {A : Type 0} {P : A → Type 0} (last : Last) {x : Out A} → (Unit {0} → Gives parse_numbers P x) → Gives parse_numbers P (no_comma last >> x)
  unfolding among
  gives_none otherwise f = f tt
  gives_none (after_comma p) f = gives-no refl

  -- ---- arrays

  ints-fine : (f w brace : ℕ) (last : Last) (p u : ℕ) → p ≤ length t → length t < f + p → u ≤ room → Gives parse_numbers (IntsFine f w p u) (ints_by t room f w brace last p u)
  unfolding ints_by AllFit ints_bytes_in among
  ints-fine zero w brace last p u l m r = absurd (omega arith)
  ints-fine (suc f) w brace last p u l m r =
      gives-bind (due t room later p unmatched_brace brace) _ (due_in later p unmatched_brace brace refl l)
      (λ x h. gives-elim (eqb (sign_of x.td.token) 44)
      (λ _. gives-also (ints_by t room f w brace (after_comma x.td.index) x.next u) (ints-fine f w brace (after_comma x.td.index) x.next u h.2 (omega (arith, h.1)) r)
      (λ i _ j. record { ahead = (omega (arith, h.1, j.ahead.0), j.ahead.1); fit = j.fit; few = omega (arith, j.few); used = j.used; fits = j.fits }))
      (λ _. gives-elim (eqb (sign_of x.td.token) 93)
      (λ _. gives_none last (λ _. gives-got (record { ahead = (omega (arith, h.1), h.2); fit = tt; few = omega arith; used = omega arith; fits = r })))
      (λ _. gives-bind (element_int w x.td.token x.td.index) _ (element-fits w x.td.token x.td.index)
      (λ z k. gives-guard (leb (u + w) room) _ _ _ refl
      (λ e. gives-bind (ints_by t room f w brace otherwise x.next (u + w)) _ (ints-fine f w brace otherwise x.next (u + w) h.2 (omega (arith, h.1)) (leb-true (u + w) room e))
      (λ i j. gives-got (record {
        ahead = (omega (arith, h.1, j.ahead.0), j.ahead.1);
        fit = (k, j.fit);
        few = omega (arith, j.few);
        used = omega (arith, j.used, ints-length w z i.values);
        fits = j.fits;
      })))))))

  module _ (small : length t ≤ text_limit) where
    array-fine : (left w brace p u : ℕ) → Width w → p ≤ length t → Gives parse_numbers (ValueFine left 0 p u) (array_at t room w brace p u)
    unfolding array_at among
    array-fine left w brace p u h l =
        gives-guard (leb (u + 4) room) _ _ _ refl
        (λ e. gives-bind (ints_by t room (suc (length t)) w brace otherwise p (u + 4)) _ (ints-fine (suc (length t)) w brace otherwise p (u + 4) l (omega arith) (leb-true (u + 4) room e))
        (λ r j. let a = array-leaf w h r.values (j.fit, omega (arith, j.few)) in
        gives-got (record {
          ahead = j.ahead;
          kind = λ z. absurd (z refl);
          valid = a.0.valid;
          deep = omega (arith, a.0.flat);
          used = omega (arith, j.used, a.1);
          fits = j.fits;
        })))

    -- ---- lists

    module _ (left : ℕ) (val : Reads) (right : Right (left - 1) val) where
      row_fine : (f k p u : ℕ) → 0 < k → p ≤ length t → length t < f + p → u ≤ room → Gives parse_numbers (RowFine (left - 1) f k p u) (elements_by t room f val k p u)
      unfolding elements_by OneKind ValidBy depth many payload_in among
      row_fine zero k p u o l m r = absurd (omega arith)
      row_fine (suc f) k p u o l m r =
          gives-bind (following t room 93 p text_ends (length t)) _ (following-in 93 p text_ends (length t) refl l)
          (λ s h. then-gives p s h
          (λ i n a b. gives-got (record { ahead = (omega arith, b); one-kind = tt; valid = tt; deep = omega arith; few = omega arith; used = omega arith; fits = r }))
          (λ i n a b. gives-bind (due t room later n text_ends (length t)) _ (due_in later n text_ends (length t) refl b)
          (λ x y. gives-bind (val k x.td x.next u) _ (right k x.td x.next u y.0 y.2)
          (λ v w. gives-bind (elements_by t room f val k v.next v.used) _ (row_fine f k v.next v.used o w.ahead.1 (omega (arith, w.ahead.0, y.1)) w.fits)
          (λ z j. gives-got (record {
            ahead = (omega (arith, w.ahead.0, y.1, j.ahead.0), j.ahead.1);
            one-kind = (w.kind (λ e. omega arith), j.one-kind);
            valid = (w.valid, j.valid);
            deep = omega (arith, w.deep, j.deep);
            few = omega (arith, j.few);
            used = omega (arith, w.used, j.used, length-append (payload v.tag) (element_bytes z.tags));
            fits = j.fits;
          }))))))

      -- A list takes five bytes and its elements.
      list_length : (ts : Tags) → length (payload (tree.list ts)) ≡ 5 + length (element_bytes ts)
      unfolding payload_in
      list_length ts = omega (arith, length-append (bytes_of 4 (many ts)) (element_bytes ts), digits-length 4 (many ts))

      from-fine : (p : ℕ) (x : Next) (u : ℕ) → 0 < left → NextFine t p x → u + 5 ≤ room → Gives parse_numbers (ValueFine left 0 p u) (list_from t room val x (u + 5))
      unfolding list_from ValidBy depth many OneKind element_bytes_in
      from-fine p x u o h r = gives-elim (eqb (sign_of x.td.token) 93)
          (λ _. gives-got (record {
            ahead = (omega (arith, h.1), h.2);
            kind = λ z. absurd (z refl);
            valid = (tt, omega arith, tt);
            deep = omega arith;
            used = omega (arith, list_length nil);
            fits = r;
          }))
          (λ _. gives-bind (val 0 x.td x.next (u + 5)) _ (right 0 x.td x.next (u + 5) h.0 h.2)
          (λ v w. gives-bind (elements_by t room (suc (length t)) val (kind_of v.tag) v.next v.used) _
          (row_fine (suc (length t)) (kind_of v.tag) v.next v.used (kind-range v.tag).0 w.ahead.1 (omega arith) w.fits)
          (λ z j. gives-got (record {
            ahead = (omega (arith, h.1, w.ahead.0, j.ahead.0), j.ahead.1);
            kind = λ z. absurd (z refl);
            valid = (j.one-kind, omega (arith, j.few), (w.valid, j.valid));
            deep = omega (arith, w.deep, j.deep);
            used = omega (arith, w.used, j.used, list_length (more v.tag z.tags), length-append (payload v.tag) (element_bytes z.tags));
            fits = j.fits;
          }))))

      list-fine : (brace p : ℕ) (x : Lexed) (u : ℕ) → LexedFine t p x → Gives parse_numbers (ValueFine left 0 p u) (list_at t room left val brace x u)
      unfolding list_at among
      list-fine brace p x u h =
          gives-guard (ltb 0 left) _ _ _ refl
          (λ o. gives-guard (leb (u + 5) room) _ _ _ refl
          (λ r. gives-bind (or_else x unmatched_brace brace) _ (or-fine t p x unmatched_brace brace refl h)
          (λ y k. from-fine p y u (ltb-true 0 left o) k (leb-true (u + 5) room r))))

      -- ---- what a `[` opens

      -- An array's elements are of 1, 4 or 8 bytes, and begin ahead.
      abbrev OpenedFine : ℕ → Opened t room → Type 0
      OpenedFine p (an_array w n) = Width w × Ahead p n
      OpenedFine p a_list = Unit {0}

      letter-width : (k : Token) → eqb (letter_width t room k) 0 ≡ false → Width (letter_width t room k)
      letter-width open_curly e = differ e
      letter-width closed_curly e = differ e
      letter-width open_square e = differ e
      letter-width closed_square e = differ e
      letter-width comma e = differ e
      letter-width colon e = differ e
      letter-width semicolon e = differ e
      letter-width (string q a e) h = go (not q && eqb e (a + 1)) (eqb (get_or t a 0) 66) (eqb (get_or t a 0) 73) (eqb (get_or t a 0) 76) h
        where
          go : (x b i l : Bool) → eqb (pick x (pick b 1 (pick i 4 (pick l 8 0))) 0) 0 ≡ false → Width (pick x (pick b 1 (pick i 4 (pick l 8 0))) 0)
          go true true i l h = inl refl
          go true false true l h = inr (inl refl)
          go true false false true h = inr (inr refl)
          go true false false false h = differ h
          go false b i l h = differ h
      letter-width (numeral n) e = differ e

      with-width : (w p : ℕ) (x : Lexed) → Width w → LexedFine t p x → OpenedFine p (with_semicolon t room w x)
      with-width w p (ended q) h k = tt
      with-width w p (found d n) h k = go (eqb (sign_of d.token) 59)
        where
          go : (b : Bool) → OpenedFine p (pick b (an_array w n) a_list)
          go true = (h, (omega (arith, k.1), k.2))
          go false = tt

      opened-fine : (p : ℕ) (x : Lexed) → LexedFine t p x → Gives parse_numbers (OpenedFine p) (opened_by t room x)
      unfolding among
      opened-fine p (ended q) h = gives-got tt
      opened-fine p (found d n) h = gives-elim (eqb (letter_width t room d.token) 0) (λ _. gives-got tt)
          (λ e. gives-bind (token_at default t n) _ (gives_all refl (token-fine t default n h.2))
          (λ y k. gives-got (nearer (with_semicolon t room (letter_width t room d.token) y) (with-width (letter_width t room d.token) n y (letter-width d.token e) k))))
        where
          nearer : (o : Opened t room) → OpenedFine n o → OpenedFine p o
          nearer (an_array w m) k = (k.0, (omega (arith, h.1, k.1.0), k.1.1))
          nearer a_list k = tt

      square-fine : (brace p u : ℕ) → p ≤ length t → Gives parse_numbers (ValueFine left 0 p u) (square_at t room left val brace p u)
      unfolding square_at among
      square-fine brace p u l =
          gives-bind (token_at first t p) _ (gives_all refl (token-fine t first p l))
          (λ x h. gives-bind (opened_by t room x) _ (opened-fine p x h) (λ o k. go x h o k))
        where
          go : (x : Lexed) → LexedFine t p x → (o : Opened t room) → OpenedFine p o
              → Gives parse_numbers (ValueFine left 0 p u) (elim o [ an_array w n ↦ array_at t room w brace n u | a_list ↦ list_at t room left val brace x u ])
          go x h (an_array w n) k = gives-also (array_at t room w brace n u) (array-fine left w brace n u k.0 k.1.1) (λ v _ f. value-from k.1.0 f)
          go x h a_list k = list-fine brace p x u h

      -- ---- compounds

      key-text : (k : Token) (p : ℕ) → Gives parse_numbers (TextIn java) (key_of t room k p)
      unfolding key_of among
      key-text open_curly p = gives-no refl
      key-text closed_curly p = gives-no refl
      key-text open_square p = gives-no refl
      key-text closed_square p = gives-no refl
      key-text comma p = gives-no refl
      key-text colon p = gives-no refl
      key-text semicolon p = gives-no refl
      key-text (string q a e) p = string-text q a e p
      key-text (numeral n) p = gives-no refl

      close-fine : (i p n u : ℕ) (earlier : List (List ℕ)) → p ≤ n → n ≤ length t → Gives parse_numbers (BlockFine (left - 1) p u earlier) (close_at t room i n u)
      unfolding close_at ValidBy depth payload_in has_entry among
      close-fine i p n u earlier l h =
          gives-guard (leb (u + 1) room) _ _ _ refl
          (λ e. gives-got (record { ahead = (l, h); valid = tt; apart = λ x _. refl; deep = omega arith; used = refl; fits = leb-true (u + 1) room e }))

      colon-fine : (brace p : ℕ) → p ≤ length t → Gives parse_numbers (Ahead p) (colon_at t room brace p)
      unfolding colon_at among
      colon-fine brace p l =
          gives-bind (due t room default p unmatched_brace brace) _ (due_in default p unmatched_brace brace refl l)
          (λ x h. gives-guard (eqb (sign_of x.td.token) 58) _ _ _ refl (λ _. gives-got (omega (arith, h.1), h.2)))

      -- An entry by its key, whose token ends at p.
      record EntryFine (earlier : List (List ℕ)) (p u : ℕ) (e : List ℕ × Value) : Type 0 where
        text : TextIn java e.0
        new : known e.0 earlier ≡ false
        value : ValueFine (left - 1) 0 p (u + (3 + length e.0)) e.1

      entry-fine : (brace : ℕ) (earlier : List (List ℕ)) (x : Next) (u : ℕ) → x.next ≤ length t → Gives parse_numbers (EntryFine earlier x.next u) (entry_at t room val brace earlier x u)
      unfolding entry_at among
      entry-fine brace earlier x u l =
          gives-bind (key_of t room x.td.token x.td.index) _ (key-text x.td.token x.td.index)
          (λ s h. gives-guard (not (known s earlier)) _ _ _ refl
          (λ n. gives-bind (colon_at t room brace x.next) _ (colon-fine brace x.next l)
          (λ p a. gives-bind (due t room value p text_ends (length t)) _ (due_in value p text_ends (length t) refl a.1)
          (λ y k. gives-bind (val 0 y.td y.next (u + (3 + length s))) _ (right 0 y.td y.next (u + (3 + length s)) k.0 k.2)
          (λ v w. gives-got (record { text = h; new = not-true _ n; value = value-from (omega (arith, a.0, k.1)) w }))))))

      more-entries : (earlier : List (List ℕ)) (p q u : ℕ) (e : List ℕ × Value) (r : Block) → p ≤ q → EntryFine earlier q u e → BlockFine (left - 1) e.1.next e.1.used (e.0 ∷ earlier) r
          → BlockFine (left - 1) p u earlier (record { entries = entry e.0 e.1.tag r.entries; next = r.next; used = r.used })
      unfolding ValidBy depth payload_in
      more-entries earlier p q u e r l h k =
          let a = apart-entry earlier e.0 e.1.tag r.entries h.new k.apart in
          let x = payload e.1.tag in
          let y = entry_bytes r.entries in
          record {
            ahead = (omega (arith, h.value.ahead.0, k.ahead.0), k.ahead.1);
            valid = (h.text, a.1, h.value.valid, k.valid);
            apart = a.0;
            deep = omega (arith, h.value.deep, k.deep);
            used = omega (
              arith,
              k.used,
              h.value.used,
              length-append (string_bytes e.0) (x ++ y),
              length-append (bytes_of 2 (length e.0)) e.0,
              digits-length 2 (length e.0),
              length-append x y,
            );
            fits = k.fits;
          }

      entries-fine : (f brace : ℕ) (earlier : List (List ℕ)) (last : Last) (p u : ℕ) → p ≤ length t → length t < f + p
          → Gives parse_numbers (BlockFine (left - 1) p u earlier) (entries_by t room f val brace earlier last p u)
      unfolding entries_by among
      entries-fine zero brace earlier last p u l m = absurd (omega arith)
      entries-fine (suc f) brace earlier last p u l m =
          gives-bind (due t room key p unmatched_brace brace) _ (due_in key p unmatched_brace brace refl l)
          (λ x h. gives-elim (eqb (sign_of x.td.token) 125)
          (λ _. gives_none last (λ _. close-fine x.td.index p x.next u earlier (omega (arith, h.1)) h.2))
          (λ _. gives-bind (entry_at t room val brace earlier x u) _ (entry-fine brace earlier x u h.2)
          (λ e k. gives-bind (following t room 125 e.1.next unmatched_brace brace) _ (following-in 125 e.1.next unmatched_brace brace refl k.value.ahead.1)
          (λ s j. gives-bind (behind t room (λ i n. entries_by t room f val brace (e.0 ∷ earlier) (after_comma i) n e.1.used) e.1.used s) _
          (rest e s j (λ i n a b. entries-fine f brace (e.0 ∷ earlier) (after_comma i) n e.1.used b (omega (arith, h.1, k.value.ahead.0))))
          (λ r w. gives-got (more-entries earlier p x.next u e r (omega (arith, h.1)) k w))))))
        where
          rest : (e : List ℕ × Value) (s : Then) → ThenIn e.1.next s
              → ((i n : ℕ) → e.1.next < n → n ≤ length t
              → Gives parse_numbers (BlockFine (left - 1) n e.1.used (e.0 ∷ earlier)) (entries_by t room f val brace (e.0 ∷ earlier) (after_comma i) n e.1.used))
              → Gives parse_numbers (BlockFine (left - 1) e.1.next e.1.used (e.0 ∷ earlier))
              (behind t room (λ i n. entries_by t room f val brace (e.0 ∷ earlier) (after_comma i) n e.1.used) e.1.used s)
          rest e (closes i n) j ih = close-fine i e.1.next n e.1.used (e.0 ∷ earlier) (omega (arith, j.0)) j.1
          rest e (goes_on i n) j ih = gives-also (entries_by t room f val brace (e.0 ∷ earlier) (after_comma i) n e.1.used) (ih i n j.0 j.1) (λ b _ h. block-from (omega (arith, j.0)) h)

      -- A compound, where a container is left.
      pub compound-fine : (brace p u : ℕ) → p ≤ length t → Gives parse_numbers (λ b. (0 < left) × BlockFine (left - 1) p u [] b) (compound_at t room left val brace p u)
      unfolding compound_at among
      compound-fine brace p u l =
          gives-guard (ltb 0 left) _ _ _ refl
          (λ o. gives-guard (leb u room) _ _ _ refl
          (λ _. gives-also (entries_by t room (suc (length t)) val brace [] otherwise p u) (entries-fine (suc (length t)) brace [] otherwise p u l (omega arith)) (λ b _ k. (ltb-true 0 left o, k))))

      -- ---- values

      value-fine : Right left (value_by t room left val)
      unfolding value_by ValidBy depth payload_in among
      value-fine want x n u h l = gives-elim (eqb (sign_of x.token) 123)
          (λ _. gives-bind (compound_at t room left val x.index n u) _ (compound-fine x.index n u l)
          (λ b k. gives-guard (eqb want 0 || eqb (kind_of (tree.compound b.entries)) want) _ _ _ refl
          (λ e. gives-got (record {
            ahead = k.1.ahead;
            kind = kind-wanted want (kind_of (tree.compound b.entries)) e;
            valid = k.1.valid;
            deep = omega (arith, k.0, k.1.deep);
            used = k.1.used;
            fits = k.1.fits;
          }))))
          (λ _. gives-elim (eqb (sign_of x.token) 91)
          (λ _. gives-bind (square_at t room left val x.index n u) _ (square-fine x.index n u l)
          (λ v k. gives-guard (eqb want 0 || eqb (kind_of v.tag) want) _ _ _ refl
          (λ e. gives-got (record { ahead = k.ahead; kind = kind-wanted want (kind_of v.tag) e; valid = k.valid; deep = k.deep; used = k.used; fits = k.fits }))))
          (λ _. scalar-fine left want x n u h l))

    -- With so many containers left.
    at-fine : (d : ℕ) → Right d (value_at t room d)
    unfolding value_at among
    at-fine zero = value-fine 0 (λ want x n u. no too_deep x.index) (λ want x n u h l. gives-no refl)
    at-fine (suc d) = let e : suc d - 1 ≡ d = omega arith in value-fine (suc d) (value_at t room d) (rw e (at-fine d))

  -- ---- a whole text

  text-small : judged_text t ≡ got tt → length t ≤ text_limit
  unfolding judged_text
  text-small e = leb-true (length t) text_limit (guard-got (leb (length t) text_limit) _ _ _ e).0

  pub parsed-fine : Gives parse_numbers (BlockFine (depth_limit - 1) 0 3 []) (parsed t room)
  unfolding parsed among
  parsed-fine =
      gives_then (judged_text t) _ (gives_all refl (whole-any t))
      (λ s. gives-bind (due t room default 0 text_ends (length t)) _ (due_in default 0 text_ends (length t) refl (omega arith))
      (λ x h. gives-guard (eqb (sign_of x.td.token) 123) _ _ _ refl
      (λ _. gives-also (compound_at t room depth_limit (value_at t room (depth_limit - 1)) x.td.index x.next 3)
      (compound-fine (text-small s) depth_limit (value_at t room (depth_limit - 1)) (at-fine (text-small s) (depth_limit - 1)) x.td.index x.next 3 h.2)
      (λ b _ k. block-from (omega arith) k.1))))
