-- The bounds on the turns of a quoted token and of a content never run out: a turn takes a byte at least, so the bytes end first, and a
-- larger bound gives the same answer.
-- Assumes nothing.
use Prim.Native.Nat.{ℕ, zero, suc, ◌+◌, ◌-◌, ◌≤◌, ◌<◌}
use mathlib.Core.Path.{◌≡◌, refl, sym, ap}
use mathlib.Core.Bool.{Bool, ◌&&◌}
use mathlib.Core.List.{List, [], ◌∷◌}
use native.Mathlib.Omega.{arith}
use native.Mathlib.Nat.{suc-add}
use lib.Dec.{ltb, leb, eqb}
use lib.ListN.{length, get_or, drop, length-drop, length-take}
use Rattle.form.specs.Answer.{Out, got, no, ◌>>=◌, pick}
use Rattle.form.specs.Spans.{part}
use Rattle.form.specs.Decoding.{Sequence, is, stuck, utf8_of}
use Rattle.form.proofs.Utf8.{utf8}
use Rattle.form.proofs.Walks as walks
use Rattle.snbt_form.specs.Lexing.{begins, among, Escape, stands, bad, cut, hexes, unicode, escape_of, Quoted, on_escape, quoted_by, quoted, Front, character_of, escaped, front_of, scalars_by}
use Rattle.snbt_form.proofs.Moves.{Holds, either_way}

-- ---- a turn takes a byte at least

-- An escape that stands for a scalar value takes one.
abbrev Takes : Escape → Type 0
Takes (stands c n) = 0 < n
Takes (bad n p) = Unit {0}
Takes cut = Unit {0}

unicode-takes : (o : Out ℕ) (p : ℕ) → Takes (unicode o p)
unicode-takes (got v) p = either_way Takes (leb 55296 v && ltb v 57344) tt (omega arith)
unicode-takes (no n q) p = tt

escape-takes : (l : List ℕ) (p : ℕ) → Takes (escape_of l p)
unfolding escape_of
escape-takes [] p = tt
escape-takes (b ∷ l) p =
    either_way Takes (eqb b 117) (unicode-takes (hexes 4 0 l (p + 2)) p)
    (either_way Takes (among (34 ∷ 39 ∷ 92 ∷ []) b) (omega arith)
    (either_way Takes (eqb b 110) (omega arith) (either_way Takes (eqb b 114) (omega arith) (either_way Takes (eqb b 116) (omega arith) tt))))

-- So does what stands at the front of a content.
abbrev Some : Front → Type 0
Some x = 0 < x.bytes

escaped-takes : (e : Escape) (p : ℕ) → Takes e → Holds Some (escaped e p)
escaped-takes (stands c n) p h = h
escaped-takes (bad n q) p h = tt
escaped-takes cut p h = tt

written-takes : (l : List ℕ) (r : Sequence) → utf8_of l ≡ r → Holds Some (character_of r)
written-takes l (is c n) e = (walks.fits utf8 l c n e).0
written-takes l stuck e = tt

front-takes : (q : Bool) (l : List ℕ) (p : ℕ) → Holds Some (front_of q l p)
unfolding front_of
front-takes q [] p = tt
front-takes q (b ∷ l) p =
    either_way (Holds Some) (q && eqb b 92) (escaped-takes (escape_of l p) p (escape-takes l p)) (written-takes (b ∷ l) (utf8_of (b ∷ l)) refl)

-- Fewer bytes are left behind it.
fewer : (b : ℕ) (l : List ℕ) (n : ℕ) → 0 < n → length (drop n (b ∷ l)) ≤ length l
fewer b l n h = omega (arith, length-drop n (b ∷ l))

-- ---- a quoted token

on-escape : (k k' : ℕ → Out Quoted) (start : ℕ) (e : Escape) → Takes e → ((n : ℕ) → 0 < n → k n ≡ k' n) → on_escape k start e ≡ on_escape k' start e
on-escape k k' start (stands c n) t h = h n t
on-escape k k' start (bad n p) t h = refl
on-escape k k' start cut t h = refl

-- A bound above the number of bytes can be raised.
pub quoted-bound : (f k start q : ℕ) (l : List ℕ) (i w : ℕ) → length l < f → quoted_by f start q l i w ≡ quoted_by (f + k) start q l i w
unfolding quoted_by
quoted-bound zero k start q l i w h = absurd (omega arith)
quoted-bound (suc f) k start q [] i w h = rw (suc-add f k) refl
quoted-bound (suc f) k start q (b ∷ l) i w h =
    rw (suc-add f k)
    (ap (pick (eqb b q) _)
    (on-escape _ _ start (pick (eqb b 92) (escape_of l i) (stands b 1)) (either_way Takes (eqb b 92) (escape-takes l i) (omega arith))
    (λ n m. quoted-bound f k start q (drop n (b ∷ l)) (i + n) (w + pick (eqb b 92) n (begins b)) (omega (arith, fewer b l n m)))))

-- The bound of a quoted token is such a one.
pub quoted-enough : (k : ℕ) (t : List ℕ) (i : ℕ) → quoted t i ≡ quoted_by (suc (length t) + k) i (get_or t i 0) (drop (i + 1) t) (i + 1) 1
unfolding quoted
quoted-enough k t i = quoted-bound (suc (length t)) k i (get_or t i 0) (drop (i + 1) t) (i + 1) 1 (omega (arith, length-drop (i + 1) t))

-- ---- a content

-- A chain is the same where what follows its first step is.
bind-same : {A B : Type 0} (P : A → Type 0) (o : Out A) (k k' : A → Out B) → Holds P o → ((a : A) → P a → k a ≡ k' a) → (o >>= k) ≡ (o >>= k')
bind-same P (got a) k k' t h = h a t
bind-same P (no n p) k k' t h = refl

-- No bytes need no turn.
scalars-none : (f : ℕ) (q : Bool) (p : ℕ) → scalars_by f q [] p ≡ got []
unfolding scalars_by
scalars-none zero q p = refl
scalars-none (suc f) q p = refl

-- A bound of the number of bytes or more can be raised.
pub scalars-bound : (f k : ℕ) (q : Bool) (l : List ℕ) (p : ℕ) → length l ≤ f → scalars_by f q l p ≡ scalars_by (f + k) q l p
unfolding scalars_by
scalars-bound zero k q [] p h = sym (scalars-none (0 + k) q p)
scalars-bound zero k q (b ∷ l) p h = absurd (omega arith)
scalars-bound (suc f) k q [] p h = sym (scalars-none (suc f + k) q p)
scalars-bound (suc f) k q (b ∷ l) p h =
    rw (suc-add f k)
    (bind-same Some (front_of q (b ∷ l) p) _ _ (front-takes q (b ∷ l) p)
    (λ x m. ap (λ (o : Out (List ℕ)). o >>= (λ cs. got (x.scalar ∷ cs))) (scalars-bound f k q (drop x.bytes (b ∷ l)) (p + x.bytes) (omega (arith, fewer b l x.bytes m)))))

-- The bound of a content from a start to an end is such a one.
pub scalars-enough : (k : ℕ) (t : List ℕ) (q : Bool) (start e : ℕ)
    → scalars_by (e - start) q (part t start (e - start)) start ≡ scalars_by (e - start + k) q (part t start (e - start)) start
scalars-enough k t q start e = scalars-bound (e - start) k q (part t start (e - start)) start (omega (arith, length-take (e - start) (drop start t)))
