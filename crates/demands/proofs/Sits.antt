-- Bytes that stand at a place of a document.
-- Assumes nothing.
use Prim.Native.Nat.{ℕ, ◌+◌, ◌≤◌, ◌<◌}
use mathlib.Core.List.{List, [], ◌∷◌, ◌++◌}
use mathlib.Core.Path.{◌≡◌, refl, sym, ap, ◌∙◌}
use native.Mathlib.Omega.{arith}
use lib.ListN.{length, get_or, take, drop, length-append}
use lib.Seq.{take-append_seam, drop-append_seam, take-take, take-add, drop_at, drop-drop, drop-cons}
use Rattle.form.specs.Spans.{part}
use Rattle.form.proofs.Spans.{part_length}

pub record Sits (doc : List ℕ) (at : ℕ) (xs : List ℕ) : Type 0 where
  pub is : part doc at (length xs) ≡ xs
  pub to : at + length xs ≤ length doc

module _ {doc : List ℕ} {at : ℕ} (xs ys : List ℕ) (s : Sits doc at (xs ++ ys)) where
  whole : part doc at (length xs + length ys) ≡ xs ++ ys
  whole = rw (← length-append xs ys) s.is

  end : at + (length xs + length ys) ≤ length doc
  end = rw (← length-append xs ys) s.to

  pub sits-first : Sits doc at xs
  sits-first = record {
    is = sym (take-take (length xs) (length xs + length ys) (drop at doc) (omega arith)) ∙ rw whole (take-append_seam xs ys);
    to = omega (arith, end);
  }

  pub sits-rest : Sits doc (at + length xs) ys
  sits-rest = record {
    is = rw (← drop-drop (length xs) at doc)
        (sym (drop_at (take (length xs) (drop at doc)) (take (length ys) (drop (length xs) (drop at doc))) (length xs) (ap length sits-first.is))
        ∙ rw (← take-add (length xs) (length ys) (drop at doc), whole) (drop-append_seam xs ys));
    to = omega (arith, end);
  }

pub sits-join : {doc : List ℕ} {at : ℕ} (xs ys : List ℕ) → Sits doc at xs → Sits doc (at + length xs) ys → Sits doc at (xs ++ ys)
sits-join {doc} {at} xs ys a b = record {
  is = rw (length-append xs ys, take-add (length xs) (length ys) (drop at doc), a.is, drop-drop (length xs) at doc, b.is) refl;
  to = omega (arith, length-append xs ys, b.to);
}

pub sits-nil : {doc : List ℕ} {at : ℕ} → at ≤ length doc → Sits doc at []
sits-nil h = record { is = refl; to = omega arith }

pub sits-part : (doc : List ℕ) (at n : ℕ) → at + n ≤ length doc → Sits doc at (part doc at n)
sits-part doc at n h = record { is = rw (part_length doc at n h) refl; to = omega (arith, part_length doc at n h) }

-- a list stands at its own beginning
pub sits-front : (xs rest : List ℕ) → Sits (xs ++ rest) 0 xs
sits-front xs rest = record { is = take-append_seam xs rest; to = omega (arith, length-append xs rest) }

-- the first of the bytes
pub sits-head : {doc : List ℕ} {at : ℕ} (b : ℕ) (xs : List ℕ) → Sits doc at (b ∷ xs) → (at < length doc) × (get_or doc at 0 ≡ b)
sits-head {doc} {at} b xs s =
    let t = s.to in
    let l : at < length doc = omega arith in
    let e = rw (drop-cons doc at 0 l) at s.is in
    (l, cc)

pub sits-byte : (doc : List ℕ) (at : ℕ) → at < length doc → Sits doc at (get_or doc at 0 ∷ [])
sits-byte doc at l = record { is = rw (drop-cons doc at 0 l) refl; to = omega (arith, l) }
