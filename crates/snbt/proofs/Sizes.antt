-- How far scalars and arrays reach and how many bytes they take: at most 16 for each byte of the text.
-- Assumes nothing.
use Prim.Native.Nat.{ℕ, zero, suc, ◌+◌, ◌-◌, ◌*◌, ◌≤◌, ◌<◌}
use mathlib.Core.Path.{◌≡◌, refl}
use mathlib.Core.Bool.{Bool, true, false, ◌||◌}
use mathlib.Core.List.{List, [], ◌∷◌}
use native.Mathlib.Omega.{arith}
use lib.Dec.{eqb, leb}
use lib.Ieee.{binary32, binary64, to_bits}
use lib.IntN.{ℤ}
use lib.ListN.{length, length-append}
use Rattle.form.specs.Answer.{Out, got, no, ◌>>=◌, ◌>>◌, output_full, unmatched_brace}
use Rattle.form.specs.Numbers.{bytes_of, bits_of}
use Rattle.form.specs.Tree as tree
use Rattle.form.specs.Tree.{Tag, kind_of}
use Rattle.form.specs.Layout.{payload, payload_in}
use Rattle.form.proofs.Digits.{digits-length}
use Rattle.snbt_form.specs.Values.{to_single}
use Rattle.snbt_form.specs.Numbers.{Number, byte, short, int, long, float, double}
use Rattle.snbt_form.specs.Lexing.{later, Token, open_curly, closed_curly, open_square, closed_square, comma, colon, semicolon, string, numeral, TokenData, Lexed, found, ended, token_at}
use Rattle.snbt_form.specs.Text.{Value, Ints, Next, Last, otherwise, after_comma, no_comma, sign_of, or_else, in_range, number_tag, element_int, array_tag}
use Rattle.snbt_form.specs.Text.{in_room, due, string_of, scalar_tag, alike, scalar_value, ints_by, array_at}
use Rattle.snbt_form.proofs.Moves.{Holds, holds-bind, from-got, token-moves}
use Rattle.snbt_due.specs.Due.{Met}
use Rattle.snbt_due.proofs.Sizes.{InToken, met-within, met-in, guard-any, Short, string-size}

-- ---- scalars

abbrev Small : ℕ → ℕ → Tag → Type 0
Small i n tag = length (payload tag) ≤ 8 * (n - i)

module _ (i n : ℕ) (h : i < n) (p : ℕ) where
  bytes-size : (w v : ℕ) → w ≤ 8 → length (bytes_of w v) ≤ 8 * (n - i)
  bytes-size w v l = omega (arith, digits-length w v)

  number_size : (m : Number) → Holds (Small i n) (number_tag m p)
  unfolding payload_in
  number_size (byte z) = guard-any (Small i n) (in_range 1 z) 19 p (got (tree.byte z)) (bytes-size 1 (bits_of 1 z) (omega arith))
  number_size (short z) = guard-any (Small i n) (in_range 2 z) 19 p (got (tree.short z)) (bytes-size 2 (bits_of 2 z) (omega arith))
  number_size (int z) = guard-any (Small i n) (in_range 4 z) 19 p (got (tree.int z)) (bytes-size 4 (bits_of 4 z) (omega arith))
  number_size (long z) = guard-any (Small i n) (in_range 8 z) 19 p (got (tree.long z)) (bytes-size 8 (bits_of 8 z) (omega arith))
  number_size (float x) = bytes-size 4 (to_bits binary32 (to_single x)) (omega arith)
  number_size (double x) = bytes-size 8 (to_bits binary64 x) (omega arith)

  string-payload : (s : List ℕ) → Short i n s → Small i n (tree.string s)
  unfolding payload_in
  string-payload s z = omega (arith, length-append (bytes_of 2 (length s)) s, digits-length 2 (length s), z.1)

  tag-size : (t : List ℕ) (room : ℕ) (tok : Token) → InToken tok i n → Holds (Small i n) (scalar_tag t room tok p)
  unfolding scalar_tag
  tag-size t room open_curly z = tt
  tag-size t room closed_curly z = tt
  tag-size t room open_square z = tt
  tag-size t room closed_square z = tt
  tag-size t room comma z = tt
  tag-size t room colon z = tt
  tag-size t room semicolon z = tt
  tag-size t room (string q a e) z =
      holds-bind (Small i n) (string_of t room q a e p) (λ (s : List ℕ). got (tree.string s))
      (λ s g. string-payload s (from-got (Short i n) _ s (string-size t room q a e p i n z.0 z.1) g))
  tag-size t room (numeral m) z = number_size m

abbrev ScalarWent : ℕ → ℕ → Value → Type 0
ScalarWent i n v = (v.next ≡ n) × (length (payload v.tag) ≤ 8 * (n - i))

module _ {t : List ℕ} {d : TokenData} {n : ℕ} (met : Met t d n) (room want u : ℕ) where
  abbrev P : Value → Type 0
  P = ScalarWent d.index n

  abbrev made : Tag → Out Value
  made tag = got (record { tag = tag; next = n; used = u + length (payload tag) })

  scalar-holds : Holds P (scalar_value t room want d n u)
  unfolding scalar_value
  scalar-holds =
      holds-bind P (scalar_tag t room d.token d.index)
      (λ (tag : Tag). alike t room want tag d.index >> (in_room t room (u + length (payload tag)) d.index >> made tag))
      (λ tag g.
      let small = from-got (Small d.index n) _ tag (tag-size d.index n (met-within met).0 d.index t room d.token (met-in met)) g in
      guard-any P (eqb want 0 || eqb (kind_of tag) want) 11 d.index (in_room t room (u + length (payload tag)) d.index >> made tag)
      (guard-any P (leb (u + length (payload tag)) room) 13 d.index (made tag) (refl, small)))

  -- A scalar ends with its token, and its payload is small.
  pub scalar-went : (v : Value) → scalar_value t room want d n u ≡ got v → (v.next ≡ n) × (length (payload v.tag) ≤ 8 * (n - d.index))
  scalar-went v e = from-got P _ v scalar-holds e

-- ---- arrays

abbrev Spent : ℕ → ℕ → Ints → Type 0
Spent p u r = (p < r.next) × (r.used + 8 * p ≤ u + 8 * r.next)

spent-later : (p q u : ℕ) (o : Out Ints) → p < q → Holds (Spent q u) o → Holds (Spent p u) o
spent-later p q u (got r) h z = (omega (arith, z.0), omega (arith, z.1))
spent-later p q u (no a b) h z = tt

comma-any : {A : Type 0} (P : A → Type 0) (s : Last) (o : Out A) → Holds P o → Holds P (no_comma s >> o)
comma-any P otherwise o h = h
comma-any P (after_comma i) o h = tt

module _ (t : List ℕ) (room w brace : ℕ) (wide : w ≤ 8) where
  due-moves : (p n q : ℕ) → p ≤ length t → (x : Next) → due t room later p n q ≡ got x → (p < x.next) × (x.next ≤ length t)
  unfolding due
  due-moves p n q h x e = by (token_at later t p) refl e
    where
      by : (o : Out Lexed) → token_at later t p ≡ o → (o >>= (λ y. or_else y n q)) ≡ got x → (p < x.next) × (x.next ≤ length t)
      by (got (found d m)) g k =
          let z = token-moves later t p d m g h in
          let y : m ≡ x.next = cc in
          (omega (arith, z.0, z.1), omega (arith, z.2))
      by (got (ended i)) g k = absurd (let y : ◌≡◌ {A = ℕ} 0 1 = cc in omega arith)
      by (no a b) g k = absurd (let y : ◌≡◌ {A = ℕ} 0 1 = cc in omega arith)

  -- a turn of an array from p on, by its token x, where the turns behind it hold
  module _ (f : ℕ) (last : Last) (p u : ℕ) (x : Next) (l : p < x.next) (rec : (s : Last) (v : ℕ) → Holds (Spent x.next v) (ints_by t room f w brace s x.next v)) where
    abbrev more : ℤ → Ints → Out Ints
    more z r = got (record { values = z ∷ r.values; next = r.next; used = r.used })

    abbrev the_end : Out Ints
    the_end = no_comma last >> got (record { values = []; next = x.next; used = u })

    abbrev the_int : ℤ → Out Ints
    the_int z = in_room t room (u + w) x.td.index >> (ints_by t room f w brace otherwise x.next (u + w) >>= more z)

    by_int : (z : ℤ) → Holds (Spent p u) (the_int z)
    by_int z =
        guard-any (Spent p u) (leb (u + w) room) output_full x.td.index (ints_by t room f w brace otherwise x.next (u + w) >>= more z)
        (holds-bind (Spent p u) (ints_by t room f w brace otherwise x.next (u + w)) (more z)
        (λ r g. let y = from-got (Spent x.next (u + w)) _ r (rec otherwise (u + w)) g in (omega (arith, y.0), omega (arith, y.1))))

    by_end : (b : Bool) → Holds (Spent p u) (elim b [
      | true ↦ the_end
      | false ↦ (element_int w x.td.token x.td.index >>= the_int)
    ])
    by_end true = comma-any (Spent p u) last (got (record { values = []; next = x.next; used = u })) (l, omega arith)
    by_end false = holds-bind (Spent p u) (element_int w x.td.token x.td.index) the_int (λ z g. by_int z)

    by-comma : (b : Bool) → Holds (Spent p u) (elim b [
      | true ↦ ints_by t room f w brace (after_comma x.td.index) x.next u
      | false ↦ elim (eqb (sign_of x.td.token) 93) [
        | true ↦ the_end
        | false ↦ (element_int w x.td.token x.td.index >>= the_int)
      ]
    ])
    by-comma true = spent-later p x.next u (ints_by t room f w brace (after_comma x.td.index) x.next u) l (rec (after_comma x.td.index) u)
    by-comma false = by_end (eqb (sign_of x.td.token) 93)

  ints-holds : (f : ℕ) (last : Last) (p u : ℕ) → p ≤ length t → Holds (Spent p u) (ints_by t room f w brace last p u)
  unfolding ints_by
  ints-holds zero last p u h = tt
  ints-holds (suc f) last p u h =
      holds-bind (Spent p u) (due t room later p unmatched_brace brace) _
      (λ x e.
      let z = due-moves p unmatched_brace brace h x e in
      by-comma f last p u x z.0 (λ s v. ints-holds f s x.next v z.1) (eqb (sign_of x.td.token) 44))

  abbrev ArrayWent : ℕ → ℕ → Value → Type 0
  ArrayWent p u v = v.used + 8 * p ≤ u + 4 + 8 * v.next

  abbrev whole : Ints → Out Value
  whole r = got (record { tag = array_tag w r.values; next = r.next; used = r.used })

  array-holds : (p u : ℕ) → p ≤ length t → Holds (ArrayWent p u) (array_at t room w brace p u)
  unfolding array_at
  array-holds p u h =
      guard-any (ArrayWent p u) (leb (u + 4) room) output_full brace (ints_by t room (suc (length t)) w brace otherwise p (u + 4) >>= whole)
      (holds-bind (ArrayWent p u) (ints_by t room (suc (length t)) w brace otherwise p (u + 4)) whole
      (λ r g. let y = from-got (Spent p (u + 4)) _ r (ints-holds (suc (length t)) otherwise p (u + 4) h) g in omega (arith, y.1)))

  -- An array's bytes stay small.
  pub array-went : (p u : ℕ) → p ≤ length t → (v : Value) → array_at t room w brace p u ≡ got v → v.used + 8 * p ≤ u + 4 + 8 * v.next
  array-went p u h v e = from-got (ArrayWent p u) _ v (array-holds p u h) e
