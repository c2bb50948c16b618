-- A content that is accepted is well formed: characters of UTF-8 and escapes both give scalar values, which are encoded by rule 2.
-- Assumes nothing.
use Prim.Native.Nat.{ℕ, zero, suc, ◌+◌, ◌-◌, ◌*◌, ◌^◌, ◌≤◌, ◌<◌}
use mathlib.Core.Bool.{Bool, true, false, ◌&&◌}
use mathlib.Core.List.{List, [], ◌∷◌}
use mathlib.Core.Logic.{inl, inr}
use mathlib.Core.Path.{◌≡◌, refl, ap, ◌∙◌}
use native.Mathlib.Omega.{arith}
use native.Mathlib.Nat.{pow-suc, mul_assoc, mul_comm, mul-le-mul_right}
use lib.Dec.{ltb, leb, eqb}
use borrow.Author.Tests.{ltb-true, ltb-false, leb-false, eqb-true}
use lib.ListN.{drop}
use Rattle.form.specs.Answer.{Out, got, no, pick, unknown_escape}
use Rattle.form.specs.Spans.{part}
use Rattle.form.specs.Strings.{IsScalar, AllScalar, WellFormed, utf8_bytes}
use Rattle.form.specs.Decoding.{Sequence, is, stuck, utf8_of}
use Rattle.form.proofs.Coding.{SoundBy}
use Rattle.form.proofs.Utf8 as utf8
use Rattle.form.proofs.Picks.{pick-eq}
use Rattle.snbt_form.specs.Lexing.{among, Escape, stands, bad, cut, hex_of, hexes, unicode, escape_of, Front, character_of, escaped, front_of, scalars_by, content_of}
use Rattle.snbt_form.proofs.Gives.{of_escape, of_content, among-all, Gives, gives-got, gives-no, gives-bind, gives-pick, gives-also, gives-it, gives-number}

-- ---- escapes

-- An escape stands for a scalar value, or has one of the numbers of escapes.
abbrev pub Stands : Escape → Type 0
Stands (stands c n) = IsScalar c
Stands (bad n p) = among of_escape n ≡ true
Stands cut = Unit {0}

-- n more hexadecimal digits behind v stay below as many places.
next-digit : (v h m w : ℕ) → h < 16 → w < (v * 16 + h + 1) * m → w < (v + 1) * (m * 16)
next-digit v h m w l k =
    let a : (v * 16 + h + 1) * m ≤ (v + 1) * 16 * m = mul-le-mul_right m (omega arith) in
    let b : (v + 1) * 16 * m ≡ (v + 1) * (m * 16) = mul_assoc (v + 1) 16 m ∙ ap (λ x. (v + 1) * x) (mul_comm 16 m) in
    omega arith

hexes-below : (n v : ℕ) (l : List ℕ) (p : ℕ) → Gives of_escape (λ w. w < (v + 1) * 16 ^ n) (hexes n v l p)
unfolding hexes among
hexes-below zero v l p = gives-got (omega arith)
hexes-below (suc n) v [] p = gives-no refl
hexes-below (suc n) v (b ∷ l) p =
    gives-pick (ltb (hex_of b) 16)
    (λ e. gives-also (hexes n (v * 16 + hex_of b) l (p + 1)) (hexes-below n (v * 16 + hex_of b) l (p + 1)) (λ w _ k. rw (pow-suc 16 n) (next-digit v (hex_of b) (16 ^ n) w (ltb-true (hex_of b) 16 e) k)))
    (λ e. gives-no refl)

-- A scalar value below 65,536 is none of the surrogates.
unicode-stands : (o : Out ℕ) (p : ℕ) → Gives of_escape (λ w. w < 65536) o → Stands (unicode o p)
unfolding among
unicode-stands (got v) p h = go (leb 55296 v) (ltb v 57344) refl refl
  where
    go : (x y : Bool) → leb 55296 v ≡ x → ltb v 57344 ≡ y → Stands (pick (x && y) (bad unknown_escape p) (stands v 6))
    go true true a b = refl
    go true false a b = (inr (ltb-false v 57344 b), omega (arith, gives-it refl h))
    go false y a b = (inl (leb-false 55296 v a), omega (arith, gives-it refl h))
unicode-stands (no n q) p h = gives-number refl h

pub escape-stands : (l : List ℕ) (p : ℕ) → Stands (escape_of l p)
unfolding escape_of among
escape-stands [] p = tt
escape-stands (b ∷ l) p =
    pick-eq Stands b 117 (λ e. unicode-stands (hexes 4 0 l (p + 2)) p (hexes-below 4 0 l (p + 2)))
    (λ _. go (eqb b 34) (eqb b 39) (eqb b 92) refl refl refl)
  where
    low : (c n : ℕ) → c < 128 → Stands (stands c n)
    low c n h = (inl (omega arith), omega arith)

    plain : Stands (pick (eqb b 110) (stands 10 2) (pick (eqb b 114) (stands 13 2) (pick (eqb b 116) (stands 9 2) (bad unknown_escape p))))
    plain = pick-eq Stands b 110 (λ e. low 10 2 (omega arith)) (λ _. pick-eq Stands b 114 (λ e. low 13 2 (omega arith)) (λ _. pick-eq Stands b 116 (λ e. low 9 2 (omega arith)) (λ _. refl)))

    go : (x y z : Bool) → eqb b 34 ≡ x → eqb b 39 ≡ y → eqb b 92 ≡ z
        → Stands (pick (pick x true (pick y true (pick z true false))) (stands b 2)
        (pick (eqb b 110) (stands 10 2) (pick (eqb b 114) (stands 13 2) (pick (eqb b 116) (stands 9 2) (bad unknown_escape p)))))
    go true y z i j k = low b 2 (omega (arith, eqb-true b 34 i))
    go false true z i j k = low b 2 (omega (arith, eqb-true b 39 j))
    go false false true i j k = low b 2 (omega (arith, eqb-true b 92 k))
    go false false false i j k = plain

-- ---- the front of a content

-- What stands at a front is a scalar value.
abbrev Scalar : Front → Type 0
Scalar x = IsScalar x.scalar

written-scalar : (l : List ℕ) (r : Sequence) → SoundBy utf8_bytes l r → Gives of_content Scalar (character_of r)
unfolding among
written-scalar l (is c n) h = gives-got h.0
written-scalar l stuck h = gives-no refl

escaped-scalar : (e : Escape) (p : ℕ) → Stands e → Gives of_content Scalar (escaped e p)
unfolding among
escaped-scalar (stands c n) p h = gives-got h
escaped-scalar (bad n q) p h = gives-no (among-all of_escape of_content n refl h)
escaped-scalar cut p h = gives-no refl

front-scalar : (q : Bool) (l : List ℕ) (p : ℕ) → Gives of_content Scalar (front_of q l p)
unfolding front_of among
front-scalar q [] p = gives-no refl
front-scalar q (b ∷ l) p =
    gives-pick (q && eqb b 92) (λ _. escaped-scalar (escape_of l p) p (escape-stands l p)) (λ _. written-scalar (b ∷ l) (utf8_of (b ∷ l)) (utf8.sound (b ∷ l)))

-- ---- a content

scalars-all : (f : ℕ) (q : Bool) (l : List ℕ) (p : ℕ) → Gives of_content AllScalar (scalars_by f q l p)
unfolding scalars_by among
scalars-all zero q [] p = gives-got tt
scalars-all zero q (b ∷ l) p = gives-no refl
scalars-all (suc f) q [] p = gives-got tt
scalars-all (suc f) q (b ∷ l) p =
    gives-bind (front_of q (b ∷ l) p) _ (front-scalar q (b ∷ l) p)
    (λ x h. gives-bind (scalars_by f q (drop x.bytes (b ∷ l)) (p + x.bytes)) _ (scalars-all f q (drop x.bytes (b ∷ l)) (p + x.bytes)) (λ cs k. gives-got (h, k)))

-- A content is well formed.
pub content-formed : (t : List ℕ) (q : Bool) (a e : ℕ) → Gives of_content WellFormed (content_of t q a e)
unfolding content_of
content-formed t q a e = gives-bind (scalars_by (e - a) q (part t a (e - a)) a) _ (scalars-all (e - a) q (part t a (e - a)) a) (λ cs h. gives-got (cs, h, refl))
