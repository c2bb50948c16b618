-- Laws of fields and decimal numbers, one byte more at a time.
-- Assumes nothing.
use Prim.Native.Nat.{ℕ, ◌+◌, ◌-◌, ◌≤◌, ◌<◌, min}
use mathlib.Core.List.{List, [], ◌∷◌, ◌++◌, foldl-append, append-nil}
use mathlib.Core.Path.{◌≡◌, refl, sym, ap, ◌∙◌}
use native.Mathlib.Omega.{arith}
use native.Mathlib.Numerals.{add-one}
use borrow.Author.Tests.{eq-eqb, ne_eqb}
use lib.ListN.{length, get_or, set, take, drop, drop_of_length-le, length-take, length-drop}
use lib.Seq.{take-suc, take_all, length-take-le, take_at, append_snoc, get_or-take, get_or-drop}
use Rattle.form.specs.Spans.{over}
use Rattle.form.proofs.Drops.{drop1}
use Rattle.form.proofs.Picks.{pick-lt}
use Rattle.form.proofs.Table.{over_none}
use Rattle.lines.specs.Buffers.{Front}
use Rattle.lines.specs.Fields.{until_blank, field_at, too_many, with_digit, decimal_of}
use Rattle.lines.proofs.Buffers.{front-next}

-- ---- decimal numbers

pub with-digit-le : (v b : ℕ) → with_digit v b ≤ too_many
unfolding with_digit
with-digit-le v b = pick-lt (λ r. r ≤ too_many) b 48 (λ h. omega arith) (λ h. pick-lt (λ r. r ≤ too_many) 57 b (λ g. omega arith) (λ g. omega arith))

pub decimal-start : (l : List ℕ) → 0 ≡ decimal_of (take 0 l)
unfolding decimal_of
decimal-start l = refl

pub decimal-next : (l : List ℕ) (i v : ℕ) → i < length l → v ≡ decimal_of (take i l) → with_digit v (get_or l i 0) ≡ decimal_of (take (i + 1) l)
unfolding decimal_of
decimal-next l i v h e = rw (e, add-one i, take-suc l i 0 h, foldl-append with_digit 0 (take i l) (get_or l i 0 ∷ [])) refl

-- ---- where a field stands in a line

module _ (line : List ℕ) (len start : ℕ) where
  pub field-byte : (n : ℕ) → start + n < len → get_or (drop start (take len line)) n 0 ≡ get_or line (start + n) 0
  field-byte n h = get_or-drop start (take len line) n 0 ∙ get_or-take len line (start + n) 0 h

  pub field-length : length (drop start (take len line)) ≡ min len (length line) - start
  field-length = length-drop start (take len line) ∙ ap (λ k. k - start) (length-take len line)

  -- The byte at place i is one of those left.
  pub byte-there : (n i : ℕ) → i ≡ start + n → i < min len (length line)
      → (n < length (drop start (take len line))) × (get_or (drop start (take len line)) n 0 ≡ get_or line i 0)
  byte-there n i e h = (omega (arith, field-length), field-byte n (omega arith) ∙ ap (λ k. get_or line k 0) (sym e))

-- ---- a field

-- The first n bytes of s are of its first field and stand at the front of a buffer.
pub record Sofar (s before after : List ℕ) (n : ℕ) : Type 0 where
  pub reached : n ≤ length s
  pub room : n ≤ length before
  pub put : after ≡ over before 0 (take n s)
  pub on : until_blank s ≡ take n s ++ until_blank (drop n s)

pub sofar-start : (s before : List ℕ) → Sofar s before before 0
sofar-start s before = record {
  reached = omega arith;
  room = omega arith;
  put = sym (over_none before 0);
  on = refl;
}

module _ (s before after : List ℕ) (n : ℕ) (f : Sofar s before after n) where
  long : length (take n s) ≡ n
  long = length-take-le n s f.reached

  pub sofar-next : n < length s → n < length before → (get_or s n 0 ≡ 32 → ⊥) → Sofar s before (set after n (get_or s n 0)) (n + 1)
  unfolding until_blank
  sofar-next h r b =
      let more : take (n + 1) s ≡ take n s ++ (get_or s n 0 ∷ []) = rw add-one (take-suc s n 0 h) in
      let turn : until_blank (drop n s) ≡ get_or s n 0 ∷ until_blank (drop (n + 1) s) =
      rw (drop1 s n h, until_blank, ne_eqb (get_or s n 0) 32 b) refl in
      record {
        reached = omega arith;
        room = omega arith;
        put = ap (λ l. set l n (get_or s n 0)) f.put ∙ front-next before (take n s) n (get_or s n 0) long r ∙ ap (over before 0) (sym more);
        on =
            f.on
            ∙ ap (λ r. take n s ++ r) turn
            ∙ sym (append_snoc (take n s) (get_or s n 0) (until_blank (drop (n + 1) s)))
            ∙ ap (λ r. r ++ until_blank (drop (n + 1) s)) (sym more);
      }

  -- What stands in the buffer is the field.
  whole : take (length before) (until_blank s) ≡ take n s → Front (take (length before) (until_blank s)) before after n
  whole e = rw e (record { many = sym long; put = f.put })

  done : until_blank (drop n s) ≡ [] → Front (take (length before) (until_blank s)) before after n
  done e =
      let all : until_blank s ≡ take n s = f.on ∙ ap (λ r. take n s ++ r) e ∙ append-nil (take n s) in
      whole (ap (take (length before)) all ∙ take_all (length before) (take n s) (rw long f.room))

  pub sofar-blank : n < length s → get_or s n 0 ≡ 32 → Front (take (length before) (until_blank s)) before after n
  unfolding until_blank
  sofar-blank h b = done (rw (drop1 s n h, until_blank, eq-eqb (get_or s n 0) 32 b) refl)

  pub sofar-end : length s ≤ n → Front (take (length before) (until_blank s)) before after n
  unfolding until_blank
  sofar-end h = done (rw (drop_of_length-le s h) refl)

  pub sofar-full : length before ≤ n → Front (take (length before) (until_blank s)) before after n
  sofar-full h =
      let e : n ≡ length before = omega (arith, f.room) in
      whole (ap (take (length before)) f.on ∙ take_at (take n s) (until_blank (drop n s)) (length before) (long ∙ e))

-- The field from a place of a line on.
pub field_is : (line before after : List ℕ) (len start n : ℕ) → Front (take (length before) (until_blank (drop start (take len line)))) before after n
    → Front (field_at line len start (length before)) before after n
unfolding field_at
field_is line before after len start n f = f
