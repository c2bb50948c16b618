-- Laws of a value whose tag is known: what its kind, its room and its bytes in the output make of it, over its width.
-- Assumes nothing.
use Prim.Native.Nat.{ℕ, ◌+◌, ◌-◌, ◌≤◌, ◌<◌}
use mathlib.Core.Bool.{Bool, true, false, ◌||◌}
use mathlib.Core.List.{List}
use mathlib.Core.Path.{◌≡◌, refl, sym, ap, ◌∙◌, subst}
use native.Mathlib.Omega.{arith}
use borrow.Author.Tests.{le-leb, lt-leb, leb-true}
use lib.Dec.{leb, eqb}
use lib.IntN.{ℤ}
use lib.ListN.{length, length-append}
use Rattle.form.specs.Answer.{Out, got, no, ◌>>◌, guard, unexpected_token, mixed_list, long_string, output_full}
use Rattle.form.specs.Numbers.{digits, bytes_of, bits_of}
use Rattle.form.specs.Spans.{part, over}
use Rattle.form.specs.Tree as tree
use Rattle.form.specs.Tree.{Tag, kind_of}
use Rattle.form.specs.Layout.{payload, int_bytes, string_bytes, payload_in}
use Rattle.form.proofs.Answer.{got-no}
use Rattle.form.proofs.Digits.{digits-length, digits-narrow}
use Rattle.form.proofs.Spans.{part_length}
use Rattle.form.proofs.Table.{over-over}
use Rattle.snbt_form.specs.Numbers.{Number}
use Rattle.snbt_form.specs.Lexing.{Token, TokenData, open_curly, closed_curly, open_square, closed_square, comma, colon, semicolon, string, numeral, content_of}
use Rattle.snbt_form.specs.Text.{Value, in_range, ranged, number_tag, string_of, scalar_tag, scalar_value}
use Rattle.snbt_tokens.proofs.Rests.{Sign}
use Rattle.snbt_contents.specs.Puts.{PutIs, Verbatim}
use Rattle.snbt_contents.proofs.Fitted.{Long}
use Rattle.std.specs.Prelude.{Result}
use Rattle.form.specs.declared.refusals.Refused.{Refused}
use Rattle.snbt_placing.specs.declared.Done.{Done}
use Rattle.snbt_placing.specs.Done.{TokenFits, Spanned, Did, Puts, admits}
use Rattle.snbt_placing.proofs.Rooms.{range-fits}
use Rattle.snbt_scalars.specs.Placed.{placed, whole_placed, string_placed}

-- ---- kind and room

-- Where a value is admitted, there is room for it.
pub admitted-room : (want kind room u size p : ℕ) → admits want kind room u size p ≡ got tt → u + size ≤ room
unfolding admits
admitted-room want kind room u size p e = go (eqb want 0 || eqb kind want) (leb (u + size) room) refl e
  where
    go : (x y : Bool) → leb (u + size) room ≡ y → (guard x mixed_list p >> guard y output_full p) ≡ got tt → u + size ≤ room
    go true true f z = leb-true (u + size) room f
    go true false f z = absurd (got-no (sym z))
    go false y f z = absurd (got-no (sym z))

-- ---- a tag of some kind whose payload is known

module _ (o : List ℕ) (want p n u kind size : ℕ) (bs : List ℕ) (l : length bs ≡ size) (tag : Tag) (k : kind_of tag ≡ kind) (s : payload tag ≡ bs) where
  -- It is placed where it is admitted.
  placed-as : placed (length o) want tag p n u ≡ (admits want kind (length o) u size p >> got (record { tag = tag; next = n; used = u + size }))
  unfolding placed admits
  placed-as = rw (k, s, l) (go (record { tag = tag; next = n; used = u + size }) (eqb want 0 || eqb kind want) (leb (u + size) (length o)))
    where
      go : (it : Value) (x y : Bool) → (guard x mixed_list p >> (guard y output_full p >> got it)) ≡ ((guard x mixed_list p >> guard y output_full p) >> got it)
      go it true y = refl
      go it false y = refl

  placed_by : {x : Out (Unit {0})} → admits want kind (length o) u size p ≡ x → placed (length o) want tag p n u ≡ (x >> got (record { tag = tag; next = n; used = u + size }))
  placed_by e = placed-as ∙ ap (λ (y : Out (Unit {0})). y >> got (record { tag = tag; next = n; used = u + size })) e

  -- Its kind or its room refuses it (11, then 13).
  pub placed-barred : {m k : ℕ} → admits want kind (length o) u size p ≡ no m k → placed (length o) want tag p n u ≡ no m k
  placed-barred e = placed_by e

  -- There is room for it, and it was put there.
  pub placed-did : admits want kind (length o) u size p ≡ got tt → {o' : List ℕ} → o' ≡ over o u bs → Did (placed (length o) want tag p n u) o u n (u + size) kind o'
  placed-did e w = record {
    value = record { tag = tag; next = n; used = u + size };
    same = placed_by e;
    next_is = refl;
    used_is = refl;
    kind_is = sym k;
    size_is = rw (s, l) refl;
    fits = admitted-room want kind (length o) u size p e;
    wrote = w ∙ ap (over o u) (sym s);
  }

-- ---- a whole number

module _ (w : ℕ) (v : ℤ) (room want : ℕ) (tag : Tag) (p n u : ℕ) where
  -- In its range it is placed as its tag is.
  pub whole_in_lem : in_range w v ≡ true → placed room want tag p n u ≡ whole_placed w v room want tag p n u
  unfolding whole_placed
  whole_in_lem e = rw e refl

  -- Out of its range it is 19.
  pub whole_out_lem : in_range w v ≡ false → whole_placed w v room want tag p n u ≡ no unexpected_token p
  unfolding whole_placed
  whole_out_lem e = rw e refl

-- The bytes of an integer in range are the lowest of its 64 bits.
pub whole-bytes : (w : ℕ) (v v' : ℤ) (bits : ℕ) → v' ≡ v → w ≤ 8 → in_range w v ≡ true → bits ≡ bits_of 8 v' → int_bytes w v ≡ bytes_of w bits
whole-bytes w v v' bits h l e b =
    sym (ap (digits w) b ∙ ap (λ z. digits w (bits_of 8 z)) h ∙ digits-narrow w 8 v l (range-fits w v e))

-- ---- a string

-- Its payload: its length, then its content.
string-payload : (s : List ℕ) → payload (tree.string s) ≡ string_bytes s
unfolding payload_in
string-payload s = refl

string-kind : (s : List ℕ) → kind_of (tree.string s) ≡ 8
unfolding kind_of
string-kind s = refl

-- A content put behind its length is the string's bytes.
string-put : (o o₁ o₂ : List ℕ) (u : ℕ) (s : List ℕ) → u + (2 + length s) ≤ length o → o₁ ≡ over o u (bytes_of 2 (length s)) → o₂ ≡ over o₁ (u + 2) s → o₂ ≡ over o u (string_bytes s)
string-put o o₁ o₂ u s h e f =
    let l : length (bytes_of 2 (length s)) ≡ 2 = digits-length 2 (length s) in
    f ∙ (λ i. over (e i) (u + sym l i) s) ∙ over-over o u (bytes_of 2 (length s)) (omega (arith, l)) s

module _ (t : List ℕ) (q : Bool) (a e want p n u : ℕ) (o : List ℕ) where
  -- A refusal of its content stays.
  pub string-refused : {m k : ℕ} → content_of t q a e ≡ no m k → string_placed t q a e (length o) want p n u ≡ no m k
  unfolding string_placed string_of
  string-refused c = rw c refl

  module _ {size : ℕ} (l : Long (content_of t q a e) size) where
    -- Over 65,535 bytes it is 12.
    pub string-long : 65535 < size → string_placed t q a e (length o) want p n u ≡ no long_string p
    unfolding string_placed string_of
    string-long h = rw (l.is, lt-leb (length l.bytes) 65535 (omega (arith, h, l.size))) refl

    wide : length (string_bytes l.bytes) ≡ 2 + size
    wide = length-append (bytes_of 2 (length l.bytes)) l.bytes ∙ omega (arith, digits-length 2 (length l.bytes), l.size)

    module _ (h : size ≤ 65535) where
      -- Else it is placed as its tag is.
      string-as : placed (length o) want (tree.string l.bytes) p n u ≡ string_placed t q a e (length o) want p n u
      unfolding string_placed string_of
      string-as = rw (l.is, le-leb (length l.bytes) 65535 (omega (arith, h, l.size))) refl

      -- Its kind or its room refuses it (11, then 13).
      pub string-barred : {m k : ℕ} → admits want 8 (length o) u (2 + size) p ≡ no m k → string_placed t q a e (length o) want p n u ≡ no m k
      string-barred x =
          sym string-as
          ∙ placed-barred o want p n u 8 (2 + size) (string_bytes l.bytes) wide (tree.string l.bytes) (string-kind l.bytes) (string-payload l.bytes) x

      -- Its length was put, then its content behind that.
      pub string-did : admits want 8 (length o) u (2 + size) p ≡ got tt → (o₁ o₂ : List ℕ) (used : ℕ) → o₁ ≡ over o u (bytes_of 2 size)
          → PutIs (got l.bytes) o₁ (u + 2) used o₂ → Did (string_placed t q a e (length o) want p n u) o u n used 8 o₂
      string-did x o₁ o₂ used i j =
          let room = admitted-room want 8 (length o) u (2 + size) p x in
          let w = string-put o o₁ o₂ u l.bytes (omega (arith, room, l.size)) (i ∙ ap (λ (m : ℕ). over o u (bytes_of 2 m)) (sym l.size)) j.1 in
          let d = placed-did o want p n u 8 (2 + size) (string_bytes l.bytes) wide (tree.string l.bytes) (string-kind l.bytes) (string-payload l.bytes) x w in
          let z : u + (2 + size) ≡ used = omega (arith, j.0, l.size) in
          subst (λ (res : Out Value). Did res o u n used 8 o₂) string-as
          (subst (λ (m : ℕ). Did (placed (length o) want (tree.string l.bytes) p n u) o u n m 8 o₂) z d)

-- A span that is its own content: its length.
abbrev pub own-long : (t : List ℕ) (a e : ℕ) → a ≤ e → e ≤ length t → Verbatim t a e → (q : Bool) → Long (content_of t q a e) (e - a)
own-long t a e h k v q = record { bytes = part t a (e - a); is = v.is q; size = part_length t a (e - a) (omega arith) }

-- ---- a scalar by its token

-- What the lexer's tokens are.
pub spanned-as : {d : TokenData} {n : ℕ} {x : Token} → Spanned d n → d.token ≡ x → TokenFits x n
spanned-as {d} {n} s e = subst (λ (x : Token). TokenFits x n) e s.token

-- A sign is 19.
sign_tag : (t : List ℕ) (room : ℕ) (x : Token) (p : ℕ) → Sign x → scalar_tag t room x p ≡ no unexpected_token p
unfolding scalar_tag
sign_tag t room open_curly p s = refl
sign_tag t room closed_curly p s = refl
sign_tag t room open_square p s = refl
sign_tag t room closed_square p s = refl
sign_tag t room comma p s = refl
sign_tag t room colon p s = refl
sign_tag t room semicolon p s = refl
sign_tag t room (string q a e) p s = absurd s
sign_tag t room (numeral n) p s = absurd s

module _ (t : List ℕ) (room want : ℕ) (x : TokenData) (n u : ℕ) where
  -- Once its tag is known, what is left is its kind and its room.
  tagged : (tag : Tag) → scalar_tag t room x.token x.index ≡ got tag → placed room want tag x.index n u ≡ scalar_value t room want x n u
  unfolding scalar_value placed
  tagged tag e = rw e refl

  -- A refusal of it stays.
  untagged : (m k : ℕ) → scalar_tag t room x.token x.index ≡ no m k → scalar_value t room want x n u ≡ no m k
  unfolding scalar_value
  untagged m k e = rw e refl

  pub scalar-sign : Sign x.token → scalar_value t room want x n u ≡ no unexpected_token x.index
  scalar-sign s = untagged unexpected_token x.index (sign_tag t room x.token x.index s)

  pub scalar-string : {q : Bool} {a e : ℕ} → x.token ≡ string q a e → string_placed t q a e room want x.index n u ≡ scalar_value t room want x n u
  unfolding scalar_tag string_placed
  scalar-string {q} {a} {e} k = by (string_of t room q a e x.index) refl
    where
      by : (o : Out (List ℕ)) → string_of t room q a e x.index ≡ o → string_placed t q a e room want x.index n u ≡ scalar_value t room want x n u
      by (got s) f = rw f (tagged (tree.string s) (rw (k, f) refl))
      by (no m i) f = rw f (sym (untagged m i (rw (k, f) refl)))

  -- A whole number of w bytes.
  scalar-whole : {m : Number} (w : ℕ) (v : ℤ) (tag : Tag) → x.token ≡ numeral m → ((p : ℕ) → number_tag m p ≡ ranged w v tag p)
      → whole_placed w v room want tag x.index n u ≡ scalar_value t room want x n u
  unfolding scalar_tag
  scalar-whole {m} w v tag k f = by (in_range w v) refl
    where
      by : (b : Bool) → in_range w v ≡ b → whole_placed w v room want tag x.index n u ≡ scalar_value t room want x n u
      by true g = sym (whole_in_lem w v room want tag x.index n u g) ∙ tagged tag (rw (k, f x.index, g) refl)
      by false g = whole_out_lem w v room want tag x.index n u g ∙ sym (untagged unexpected_token x.index (rw (k, f x.index, g) refl))

  -- A float or a double.
  scalar_real : {m : Number} (tag : Tag) → x.token ≡ numeral m → ((p : ℕ) → number_tag m p ≡ got tag) → placed room want tag x.index n u ≡ scalar_value t room want x n u
  unfolding scalar_tag
  scalar_real tag k f = tagged tag (rw (k, f x.index) refl)

module _ (t o : List ℕ) (want : ℕ) (x : TokenData) (n u : ℕ) where
  -- A whole number's token, its integer v held as z: what holds of its tag, whichever it is, holds of the scalar.
  pub whole-puts : (make : ℤ → Number) (tag : ℤ → Tag) (w kind : ℕ) (v z : ℤ) (r : Result Done Refused) (o' : List ℕ)
      → x.token ≡ numeral (make v) → z ≡ v → ((p : ℕ) → number_tag (make z) p ≡ ranged w z (tag z) p) → kind_of (tag z) ≡ kind → payload (tag z) ≡ int_bytes w z
      → ((g : Tag) → kind_of g ≡ kind → payload g ≡ int_bytes w z → Puts (whole_placed w z (length o) want g x.index n u) o u r o')
      → Puts (scalar_value t (length o) want x n u) o u r o'
  whole-puts make tag w kind v z r o' e h f k s g =
      subst (λ (res : Out Value). Puts res o u r o') (scalar-whole t (length o) want x n u w z (tag z) (e ∙ ap (λ (y : ℤ). numeral (make y)) (sym h)) f) (g (tag z) k s)

  -- The same of a float's or a double's token and its bits.
  pub real-puts : {m : Number} (tag : Tag) (w kind bits : ℕ) (r : Result Done Refused) (o' : List ℕ)
      → x.token ≡ numeral m → ((p : ℕ) → number_tag m p ≡ got tag) → kind_of tag ≡ kind → payload tag ≡ bytes_of w bits
      → ((g : Tag) → kind_of g ≡ kind → payload g ≡ bytes_of w bits → Puts (placed (length o) want g x.index n u) o u r o')
      → Puts (scalar_value t (length o) want x n u) o u r o'
  real-puts tag w kind bits r o' e f k s g =
      subst (λ (res : Out Value). Puts res o u r o') (scalar_real t (length o) want x n u tag e f) (g tag k s)
