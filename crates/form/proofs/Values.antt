-- Laws of the values that records stand for: the integers of a span fit, and are laid out as its bytes; a record's kind is its tag's.
-- Assumes nothing.
use Prim.Native.Nat.{ℕ, zero, suc, ◌+◌, ◌*◌, ◌≤◌, ◌<◌}
use mathlib.Core.Logic.{◌⊎◌, inl, inr}
use mathlib.Core.List.{List}
use mathlib.Core.Path.{◌≡◌, refl, ap, ◌∙◌}
use native.Mathlib.Omega.{arith}
use lib.ListN.{length, get_or, drop}
use lib.Seq.{take-add, drop-drop}
use Rattle.form.specs.Form.{Form}
use Rattle.form.specs.Spans.{part}
use Rattle.form.specs.Numbers.{number_in, bytes_in, signed_of, FitsIn}
use Rattle.form.specs.Tree.{Tags, Entries, kind_of, many, AllFit}
use Rattle.form.specs.Layout.{int_bytes_in, ints_bytes_in}
use Rattle.form.specs.Table.{Head, Forest, none, node, width, ints_at, value_by, tags_of}
use Rattle.form.specs.Tables.{LeafIs, ContainerIs}
use Rattle.form.proofs.Digits.{bits-signed, signed-fits}
use Rattle.form.proofs.Orders.{value-bytes}
use Rattle.form.proofs.EachKind.{by_kind}
use Rattle.form.proofs.Leaves.{leaf-kind, held-kind}

-- ---- integers

module _ (form : Form) (doc : List ℕ) (bytes : (i : ℕ) → get_or doc i 0 < 256) where
  -- An integer is laid out as the bytes that it was taken from.
  pub int-back : (w at : ℕ) → at + w ≤ length doc → int_bytes_in form w (signed_of w (number_in form.order (part doc at w))) ≡ part doc at w
  int-back w at h =
      let v = value-bytes form.order doc bytes at w h in
      ap (bytes_in form.order w) (bits-signed w (number_in form.order (part doc at w)) v.1) ∙ v.0

  -- And it fits so many bytes.
  pub int-fits : (w at : ℕ) → 0 < w → at + w ≤ length doc → FitsIn w (signed_of w (number_in form.order (part doc at w)))
  int-fits w at p h = signed-fits w (number_in form.order (part doc at w)) p (value-bytes form.order doc bytes at w h).1

  -- So do integers that follow each other.
  pub ints-back : (w n at : ℕ) → at + n * w ≤ length doc → ints_bytes_in form w (ints_at form doc w n at) ≡ part doc at (n * w)
  unfolding ints_bytes_in ints_at
  ints-back w zero at h = let z : 0 * w ≡ 0 = omega arith in rw z refl
  ints-back w (suc n) at h =
      let m : suc n * w ≡ w + n * w = omega arith in
      rw (m, take-add w (n * w) (drop at doc), drop-drop w at doc, int-back w at (omega (arith, m)), ints-back w n (at + w) (omega (arith, m))) refl

  pub ints-fit : (w n at : ℕ) → 0 < w → at + n * w ≤ length doc → AllFit w (ints_at form doc w n at)
  unfolding AllFit ints_at
  ints-fit w zero at p h = tt
  ints-fit w (suc n) at p h =
      let m : suc n * w ≡ w + n * w = omega arith in
      (int-fits w at p (omega (arith, m)), ints-fit w n (at + w) p (omega (arith, m)))

-- How many there are.
pub ints-count : (form : Form) (doc : List ℕ) (w n at : ℕ) → length (ints_at form doc w n at) ≡ n
unfolding ints_at
ints-count form doc w zero at = refl
ints-count form doc w (suc n) at = ap suc (ints-count form doc w n (at + w))

-- ---- kinds

-- A record's kind is its tag's.
pub kind_is : (form : Form) (doc : List ℕ) (h : Head) (ts : Tags) (es : Entries) → 0 < h.kind → h.kind ≤ 12 → kind_of (value_by form doc h ts es) ≡ h.kind
unfolding kind_of value_by
kind_is form doc h ts es lo hi =
    by_kind (λ k. h.kind ≡ k → kind_of (value_by form doc h ts es) ≡ k)
    (λ e. rw e refl) (λ e. rw e refl) (λ e. rw e refl) (λ e. rw e refl) (λ e. rw e refl) (λ e. rw e refl)
    (λ e. rw e refl) (λ e. rw e refl) (λ e. rw e refl) (λ e. rw e refl) (λ e. rw e refl) (λ e. rw e refl)
    h.kind lo hi refl

-- A fair record's kind is one of twelve.
pub fair-kind : (d : ℕ) (h : Head) (inner : Forest) → LeafIs d h inner ⊎ ContainerIs h inner → (0 < h.kind) × (h.kind ≤ 12)
fair-kind d h inner (inl f) = leaf-kind h.kind h.size h.count f.fits
fair-kind d h inner (inr c) = go (held-kind h.kind c.kind)
  where
    go : (h.kind ≡ 9) ⊎ (h.kind ≡ 10) → (0 < h.kind) × (h.kind ≤ 12)
    go (inl e) = (omega arith, omega arith)
    go (inr e) = (omega arith, omega arith)

-- A list has as many tags as its record has children.
pub many_is : (form : Form) (doc : List ℕ) (f : Forest) → many (tags_of form doc f) ≡ width f
unfolding many tags_of width
many_is form doc none = refl
many_is form doc (node h inner later) = omega (arith, many_is form doc later)
