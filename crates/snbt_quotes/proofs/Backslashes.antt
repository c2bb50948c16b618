-- Laws of escapes (rule 12): the digits of one, and how far one reaches.
-- Assumes nothing.
use Prim.Native.Nat.{ℕ, zero, suc, ◌+◌, ◌-◌, ◌*◌, ◌≤◌, ◌<◌}
use mathlib.Core.Path.{◌≡◌, refl, sym, ap, ◌∙◌}
use mathlib.Core.Bool.{Bool, true, false, ◌&&◌}
use mathlib.Core.Logic.{⊎_elim}
use lib.Dec.{ltb, leb, eqb}
use mathlib.Core.List.{List, [], ◌∷◌}
use native.Mathlib.Omega.{arith}
use native.Mathlib.Numerals.{sub-one}
use borrow.Author.Tests.{lt-ltb, le-ltb, ne_eqb}
use lib.ListN.{length, get_or}
use Rattle.form.specs.Answer.{Out, got, no, pick, text_ends, unexpected_token}
use Rattle.form.specs.Spans.{part}
use Rattle.form.proofs.Picks.{pick-lt, lt-or}
use Rattle.snbt_form.specs.Lexing.{Escape, stands, bad, cut, among, hex_of, hexes, unicode, escape_of}
use Rattle.snbt_quotes.proofs.Parts.{part_none, part-first}

-- ---- digits

-- how large a number is before so many digits more
abbrev pub room : ℕ → ℕ
room zero = 65536
room (suc zero) = 4096
room (suc (suc zero)) = 256
room (suc (suc (suc zero))) = 16
room (suc (suc (suc (suc n)))) = 1

pub room_next : (left v h : ℕ) → 0 < left → left ≤ 4 → v < room left → h < 16 → v * 16 + h < room (left - 1)
room_next zero v h z m k d = absurd (omega arith)
room_next (suc zero) v h z m k d = omega arith
room_next (suc (suc zero)) v h z m k d = omega arith
room_next (suc (suc (suc zero))) v h z m k d = omega arith
room_next (suc (suc (suc (suc zero)))) v h z m k d = omega arith
room_next (suc (suc (suc (suc (suc n))))) v h z m k d = absurd (omega arith)

pub room-le : (left : ℕ) → room left ≤ 65536
room-le zero = omega arith
room-le (suc zero) = omega arith
room-le (suc (suc zero)) = omega arith
room-le (suc (suc (suc zero))) = omega arith
room-le (suc (suc (suc (suc n)))) = omega arith

-- the digits from i on, by the first of them
module _ (t : List ℕ) (i e left v : ℕ) (some : 0 < left) where
  pub hexes-cut : e ≤ i → hexes left v (part t i (e - i)) i ≡ no text_ends i
  unfolding hexes
  hexes-cut h = go left some
    where
      go : (n : ℕ) → 0 < n → hexes n v (part t i (e - i)) i ≡ no text_ends i
      go zero z = absurd (omega arith)
      go (suc n) z = rw (part_none t i e h) refl

  module _ (h : i < e) (k : e ≤ length t) where
    pub hexes-stuck : 16 ≤ hex_of (get_or t i 0) → hexes left v (part t i (e - i)) i ≡ no unexpected_token i
    unfolding hexes
    hexes-stuck d = go left some
      where
        go : (n : ℕ) → 0 < n → hexes n v (part t i (e - i)) i ≡ no unexpected_token i
        go zero z = absurd (omega arith)
        go (suc n) z = rw (part-first t i e h k) (simp (le-ltb (hex_of (get_or t i 0)) 16 d))

    pub hexes-more : (d : ℕ) → d ≡ hex_of (get_or t i 0) → d < 16
        → hexes left v (part t i (e - i)) i ≡ hexes (left - 1) (v * 16 + d) (part t (i + 1) (e - (i + 1))) (i + 1)
    unfolding hexes
    hexes-more d f b = go left some
      where
        go : (n : ℕ) → 0 < n → hexes n v (part t i (e - i)) i ≡ hexes (n - 1) (v * 16 + d) (part t (i + 1) (e - (i + 1))) (i + 1)
        go zero z = absurd (omega arith)
        go (suc n) z = rw (sub-one (suc n), part-first t i e h k, f) (simp (lt-ltb (hex_of (get_or t i 0)) 16 (omega (arith, f))))

pub hexes-done : (left v p : ℕ) (l : List ℕ) → left ≤ 0 → hexes left v l p ≡ got v
unfolding hexes
hexes-done zero v p l h = refl
hexes-done (suc n) v p l h = absurd (omega arith)

-- ---- an escape by its letter

pub escape_unicode : (b p : ℕ) (l : List ℕ) → b ≡ 117 → escape_of (b ∷ l) p ≡ unicode (hexes 4 0 l (p + 2)) p
unfolding escape_of
escape_unicode b p l e = rw e refl

pub escape-letter : (b p : ℕ) (l : List ℕ) → (b ≡ 117 → ⊥) → escape_of (b ∷ l) p ≡ escape_of (b ∷ []) p
unfolding escape_of
escape-letter b p l n = rw (ne_eqb b 117 n) refl

pub escape-cut : (t : List ℕ) (i e p : ℕ) → e ≤ i → escape_of (part t i (e - i)) p ≡ cut
unfolding escape_of
escape-cut t i e p h = rw (part_none t i e h) refl

-- the escape whose backslash stands at i, by the letter behind it
module _ (t : List ℕ) (i e : ℕ) (h : i + 1 < e) (k : e ≤ length t) where
  behind : part t (i + 1) (e - (i + 1)) ≡ get_or t (i + 1) 0 ∷ part t (i + 2) (e - (i + 2))
  behind = let z : i + 1 + 1 ≡ i + 2 = omega arith in rw z at (part-first t (i + 1) e h k)

  pub escape-u : get_or t (i + 1) 0 ≡ 117 → unicode (hexes 4 0 (part t (i + 2) (e - (i + 2))) (i + 2)) i ≡ escape_of (part t (i + 1) (e - (i + 1))) i
  escape-u u = sym (ap (λ (l : List ℕ). escape_of l i) behind ∙ escape_unicode (get_or t (i + 1) 0) i _ u)

  pub escape-other : (get_or t (i + 1) 0 ≡ 117 → ⊥) → escape_of (get_or t (i + 1) 0 ∷ []) i ≡ escape_of (part t (i + 1) (e - (i + 1))) i
  escape-other u = sym (ap (λ (l : List ℕ). escape_of l i) behind ∙ escape-letter (get_or t (i + 1) 0) i _ u)

-- ---- how far an escape reaches

-- Four digits that stand are four bytes, and a number below 65536.
abbrev HexFits : List ℕ → Out ℕ → Type 0
HexFits l (got v) = (4 ≤ length l) × (v < 65536)
HexFits l (no n p) = Unit {0}

-- An escape that stands has its backslash and at least one byte more, none beyond the end, and a small scalar value.
abbrev pub EscapeFits : List ℕ → Escape → Type 0
EscapeFits l (stands c n) = (2 ≤ n) × (n ≤ 1 + length l) × (c < 65536)
EscapeFits l (bad n p) = Unit {0}
EscapeFits l cut = Unit {0}

hexes-fit : (l : List ℕ) (p : ℕ) → HexFits l (hexes 4 0 l p)
unfolding hexes
hexes-fit [] p = tt
hexes-fit (a ∷ []) p = pick-lt (HexFits (a ∷ [])) (hex_of a) 16 (λ _. tt) (λ _. tt)
hexes-fit (a ∷ b ∷ []) p =
    let F = HexFits (a ∷ b ∷ []) in
    pick-lt F (hex_of a) 16 (λ _. pick-lt F (hex_of b) 16 (λ _. tt) (λ _. tt)) (λ _. tt)
hexes-fit (a ∷ b ∷ c ∷ []) p =
    let F = HexFits (a ∷ b ∷ c ∷ []) in
    pick-lt F (hex_of a) 16 (λ _.
    pick-lt F (hex_of b) 16 (λ _. pick-lt F (hex_of c) 16 (λ _. tt) (λ _. tt)) (λ _. tt)) (λ _. tt)
hexes-fit (a ∷ b ∷ c ∷ d ∷ l) p =
    let F = HexFits (a ∷ b ∷ c ∷ d ∷ l) in
    pick-lt F (hex_of a) 16 (λ h₁.
    pick-lt F (hex_of b) 16 (λ h₂.
    pick-lt F (hex_of c) 16 (λ h₃.
    pick-lt F (hex_of d) 16 (λ h₄. (omega arith, omega arith)) (λ _. tt)) (λ _. tt)) (λ _. tt)) (λ _. tt)

by : (P : Escape → Type 0) (t : Bool) {x y : Escape} → (t ≡ true → P x) → (t ≡ false → P y) → P (pick t x y)
by P true f g = f refl
by P false f g = g refl

unicode-fits : (b : ℕ) (l : List ℕ) (p : ℕ) (r : Out ℕ) → HexFits l r → EscapeFits (b ∷ l) (unicode r p)
unicode-fits b l p (no n q) h = tt
unicode-fits b l p (got v) h =
    by (EscapeFits (b ∷ l)) (leb 55296 v && ltb v 57344) (λ _. tt) (λ _. (omega arith, omega (arith, h.0), h.1))

-- the letters that stand for themselves
themselves : (b : ℕ) → among (34 ∷ 39 ∷ 92 ∷ []) b ≡ true → b < 128
unfolding among
themselves b e = ⊎_elim (λ h. h) (λ h. absurd (differ (sym e ∙ none h))) (lt-or b 128)
  where
    none : 128 ≤ b → among (34 ∷ 39 ∷ 92 ∷ []) b ≡ false
    none h = simp (ne_eqb b 34 (omega arith), ne_eqb b 39 (omega arith), ne_eqb b 92 (omega arith))

    differ : true ≡ false → ⊥
    differ x = let z : ◌≡◌ {A = ℕ} 0 1 = cc in omega arith

pub escape-fits : (l : List ℕ) (p : ℕ) → EscapeFits l (escape_of l p)
unfolding escape_of
escape-fits [] p = tt
escape-fits (b ∷ l) p =
    let F = EscapeFits (b ∷ l) in
    by F (eqb b 117) (λ _. unicode-fits b l p (hexes 4 0 l (p + 2)) (hexes-fit l (p + 2))) (λ _.
    by F (among (34 ∷ 39 ∷ 92 ∷ []) b) (λ e. (omega arith, omega arith, omega (arith, themselves b e))) (λ _.
    by F (eqb b 110) (λ _. (omega arith, omega arith, omega arith)) (λ _.
    by F (eqb b 114) (λ _. (omega arith, omega arith, omega arith)) (λ _.
    by F (eqb b 116) (λ _. (omega arith, omega arith, omega arith)) (λ _. tt)))))
