-- How far a token reaches: it begins at or behind the place asked for, takes a byte at least, and stays within the text.
-- Assumes nothing.
use Prim.Native.Nat.{ℕ, zero, suc, ◌+◌, ◌-◌, ◌≤◌, ◌<◌}
use mathlib.Core.Path.{◌≡◌, refl, subst}
use mathlib.Core.Bool.{Bool, true, false, ◌||◌}
use mathlib.Core.List.{List, [], ◌∷◌}
use native.Mathlib.Omega.{arith}
use lib.Dec.{eqb}
use lib.ListN.{length, get_or, drop, length-drop}
use Rattle.form.specs.Answer.{Out, got, no, ◌>>=◌, pick}
use Rattle.form.specs.Spans.{part}
use Rattle.form.proofs.Picks.{pick-le}
use Rattle.snbt_form.specs.Numbers.{Number, is_digit, number}
use Rattle.snbt_form.specs.Lexing.{Stops, blank, begins, Token, open_curly, closed_curly, open_square, closed_square, comma, colon, semicolon, string, numeral, TokenData, Lexed, found}
use Rattle.snbt_form.specs.Lexing.{ended, Scan, Word, stops, after, slurp, begun, word, unquoted, Escape, stands, bad, cut, escape_of, Quoted, on_escape, quoted_by, quoted, skip_by, skip}
use Rattle.snbt_form.specs.Lexing.{made, sign, unquoted_at, quoted_at, token_by, token_at}

-- ---- an answer whose value has a property

-- What is accepted has it.
abbrev pub Holds : {A : Type 0} → (A → Type 0) → Out A → Type 0
Holds P (got a) = P a
Holds P (no n p) = Unit {0}

pub holds-bind : {A B : Type 0} (P : B → Type 0) (o : Out A) (k : A → Out B) → ((a : A) → o ≡ got a → Holds P (k a)) → Holds P (o >>= k)
holds-bind P (got a) k h = h a refl
holds-bind P (no n p) k h = tt

-- what holds in both cases of a test
pub either_way : {A : Type 0} (P : A → Type 0) (t : Bool) {x y : A} → P x → P y → P (pick t x y)
either_way P true p q = p
either_way P false p q = q

pub from-got : {A : Type 0} (P : A → Type 0) (o : Out A) (a : A) → Holds P o → o ≡ got a → P a
from-got P o a h e = subst (λ (x : Out _). Holds P x) e h

-- ---- blanks

skip_by_lem : (l : List ℕ) (i : ℕ) → (i ≤ skip_by l i) × (skip_by l i ≤ i + length l)
unfolding skip_by
skip_by_lem [] i = (omega arith, omega arith)
skip_by_lem (b ∷ l) i = go (blank b) (skip_by_lem l (i + 1))
  where
    go : (t : Bool) → (i + 1 ≤ skip_by l (i + 1)) × (skip_by l (i + 1) ≤ i + 1 + length l) → (i ≤ pick t (skip_by l (i + 1)) i) × (pick t (skip_by l (i + 1)) i ≤ i + suc (length l))
    go true h = (omega (arith, h.0), omega (arith, h.1))
    go false h = (omega arith, omega arith)

pub skip-ge : (t : List ℕ) (i : ℕ) → i ≤ skip t i
unfolding skip
skip-ge t i = (skip_by_lem (drop i t) i).0

pub skip-le : (t : List ℕ) (i : ℕ) → i ≤ length t → skip t i ≤ length t
unfolding skip
skip-le t i h = omega (arith, (skip_by_lem (drop i t) i).1, length-drop i t)

-- ---- an unquoted token

-- the token's end stays where it was, or comes to lie behind a byte at i
abbrev Grew : ℕ → ℕ → ℕ → Type 0
Grew i e e' = (e ≤ i → e' ≤ i + 1) × ((k : ℕ) → k ≤ i → k < e → k < e')

grew_same : (i e : ℕ) → Grew i e e
grew_same i e = ((λ h. omega arith), (λ k h m. m))

grew-on : (i e : ℕ) → Grew i e (i + 1)
grew-on i e = ((λ h. omega arith), (λ k h m. omega arith))

after-grew : (s : Scan) (b i : ℕ) → Grew i s.end (after s b i).end
unfolding after
after-grew s b i =
    let P : Scan → Type 0 = λ (s' : Scan). Grew i s.end s'.end in
    either_way P (eqb b 92) (grew_same i s.end)
    (either_way P (eqb b 39) (grew_same i s.end)
    (either_way P (eqb b 34) (grew_same i s.end) (either_way (Grew i s.end) (blank b) (grew_same i s.end) (grew-on i s.end))))

-- A token that begins at k in a text of m bytes: it takes a byte at least, ends before the next place, and that lies in the text.
pub record Reach (k m : ℕ) (w : Word) : Type 0 where
  pub some : k < w.end
  pub before : w.end ≤ w.next
  pub within : w.next ≤ m

slurp-reach : (set : Stops) (k : ℕ) (l : List ℕ) (s : Scan) (i : ℕ) → k ≤ i → k < s.end → s.end ≤ i → Reach k (i + length l) (slurp set l s i)
unfolding slurp
slurp-reach set k [] s i a h e = record { some = h; before = e; within = omega arith }
slurp-reach set k (b ∷ l) s i a h e =
    let g = after-grew s b i in
    let z = slurp-reach set k l (after s b i) (i + 1) (omega arith) (g.1 k a h) (g.0 e) in
    either_way (Reach k (i + suc (length l))) (stops set s b) (record { some = h; before = e; within = omega arith })
    (record { some = z.some; before = z.before; within = omega (arith, z.within) })

pub word-reach : (set : Stops) (t : List ℕ) (i : ℕ) → i < length t → Reach i (length t) (word set t i)
unfolding word
word-reach set t i h =
    let z = slurp-reach set i (drop (i + 1) t) (begun i) (i + 1) (omega arith) (omega arith) (omega arith) in
    record { some = z.some; before = z.before; within = omega (arith, z.within, length-drop (i + 1) t) }

-- ---- a quoted token

-- Its end lies at or behind i, and before m.
abbrev pub EndsIn : ℕ → ℕ → Quoted → Type 0
EndsIn i m r = (i ≤ r.end) × (r.end < m)

on-escape : (P : Quoted → Type 0) (k : ℕ → Out Quoted) (start : ℕ) (e : Escape) → ((n : ℕ) → Holds P (k n)) → Holds P (on_escape k start e)
on-escape P k start (stands c n) h = h n
on-escape P k start (bad n p) h = tt
on-escape P k start cut h = tt

wider : (i j m n : ℕ) (o : Out Quoted) → i ≤ j → (j < n → n ≤ m) → Holds (EndsIn j n) o → Holds (EndsIn i m) o
wider i j m n (got r) a b h = (omega (arith, h.0), let z : j < n = omega (arith, h.0, h.1) in omega (arith, h.1, b z))
wider i j m n (no x p) a b h = tt

quoted-by : (f start q : ℕ) (l : List ℕ) (i w : ℕ) → Holds (EndsIn i (i + length l)) (quoted_by f start q l i w)
unfolding quoted_by
quoted-by zero start q l i w = tt
quoted-by (suc f) start q [] i w = tt
quoted-by (suc f) start q (b ∷ l) i w =
    let m = i + suc (length l) in
    let k : ℕ → Out Quoted = λ (n : ℕ). quoted_by f start q (drop n (b ∷ l)) (i + n) (w + pick (eqb b 92) n (begins b)) in
    either_way (Holds (EndsIn i m)) (eqb b q) (omega arith, omega arith)
    (on-escape (EndsIn i m) k start (pick (eqb b 92) (escape_of l i) (stands b 1))
    (λ (n : ℕ). wider i (i + n) m (i + n + length (drop n (b ∷ l))) (k n) (omega arith) (λ z. fits n z)
    (quoted-by f start q (drop n (b ∷ l)) (i + n) (w + pick (eqb b 92) n (begins b)))))
  where
    fits : (n : ℕ) → i + n < i + n + length (drop n (b ∷ l)) → i + n + length (drop n (b ∷ l)) ≤ i + suc (length l)
    fits n z = let e = length-drop n (b ∷ l) in omega (arith, e, z)

pub quoted-ends : (t : List ℕ) (i : ℕ) → i < length t → Holds (EndsIn (i + 1) (length t)) (quoted t i)
unfolding quoted
quoted-ends t i h =
    wider (i + 1) (i + 1) (length t) (i + 1 + length (drop (i + 1) t)) (quoted_by (suc (length t)) i (get_or t i 0) (drop (i + 1) t) (i + 1) 1) (omega arith) (λ z. omega (arith, length-drop (i + 1) t))
    (quoted-by (suc (length t)) i (get_or t i 0) (drop (i + 1) t) (i + 1) 1)

-- ---- a token

-- The span of a string token at i lies in a text of m bytes; an unquoted one begins at i and is not empty.
abbrev pub SpanIn : ℕ → ℕ → Token → Type 0
SpanIn i m open_curly = Unit {0}
SpanIn i m closed_curly = Unit {0}
SpanIn i m open_square = Unit {0}
SpanIn i m closed_square = Unit {0}
SpanIn i m comma = Unit {0}
SpanIn i m colon = Unit {0}
SpanIn i m semicolon = Unit {0}
SpanIn i m (string q a e) = (a ≤ e) × (e ≤ m) × (q ≡ false → (a ≡ i) × (a < e))
SpanIn i m (numeral n) = Unit {0}

-- A token from p on, or the end, of a text of m bytes.
abbrev pub MovesIn : ℕ → ℕ → Lexed → Type 0
MovesIn p m (found d n) = (p ≤ d.index) × (d.index < n) × (n ≤ m) × SpanIn d.index m d.token
MovesIn p m (ended q) = q ≡ m

module _ (t : List ℕ) (p i : ℕ) (a : p ≤ i) (h : i < length t) where
  sign-moves : (k : Token) → SpanIn i (length t) k → Holds (MovesIn p (length t)) (sign k i)
  sign-moves k s = (a, omega arith, omega arith, s)

  unquoted-span : (e : ℕ) → i < e → e ≤ length t → Holds (SpanIn i (length t)) (unquoted t i e)
  unquoted-span e x y =
      either_way (Holds (SpanIn i (length t))) (eqb (get_or t i 0) 45 || is_digit (get_or t i 0))
      (holds-bind (SpanIn i (length t)) (number (part t i (e - i)) i) (λ (n : Number). got (numeral n)) (λ n r. tt))
      (omega arith, y, λ r. (refl, x))

  unquoted-moves : (set : Stops) → Holds (MovesIn p (length t)) (unquoted_at set t i)
  unfolding unquoted_at
  unquoted-moves set =
      let w = word set t i in
      let z = word-reach set t i h in
      holds-bind (MovesIn p (length t)) (unquoted t i w.end) (λ (k : Token). got (made k i w.width w.next))
      (λ k e. (
        a,
        omega (arith, z.some, z.before),
        z.within,
        from-got (SpanIn i (length t)) _ k (unquoted-span w.end z.some (omega (arith, z.before, z.within))) e,
      ))

  quoted-moves : Holds (MovesIn p (length t)) (quoted_at t i)
  unfolding quoted_at
  quoted-moves =
      holds-bind (MovesIn p (length t)) (quoted t i) (λ (r : Quoted). got (made (string true (i + 1) r.end) i r.width (r.end + 1)))
      (λ r e.
      let z = from-got (EndsIn (i + 1) (length t)) _ r (quoted-ends t i h) e in
      (a, omega (arith, z.0), omega (arith, z.1), (z.0, omega (arith, z.1), λ f. absurd (true-false f))))
    where
      true-false : true ≡ false → ⊥
      true-false f = let z : ◌≡◌ {A = ℕ} 0 1 = cc in omega arith

  by-moves : (set : Stops) (b : ℕ) → Holds (MovesIn p (length t)) (token_by set t i b)
  unfolding token_by
  by-moves set b =
      let P = Holds (MovesIn p (length t)) in
      either_way P (eqb b 44) (sign-moves comma tt)
      (either_way P (eqb b 58) (sign-moves colon tt)
      (either_way P (eqb b 59) (sign-moves semicolon tt)
      (either_way P (eqb b 91) (sign-moves open_square tt)
      (either_way P (eqb b 93) (sign-moves closed_square tt)
      (either_way P (eqb b 123) (sign-moves open_curly tt)
      (either_way P (eqb b 125) (sign-moves closed_curly tt)
      (either_way P (eqb b 34 || eqb b 39) quoted-moves (unquoted-moves set))))))))

at-moves : (set : Stops) (t : List ℕ) (p : ℕ) → Holds (MovesIn p (length t)) (token_at set t p)
unfolding token_at
at-moves set t p =
    pick-le (Holds (MovesIn p (length t))) (length t) (skip t p) (λ h. refl)
    (λ h. by-moves t p (skip t p) (skip-ge t p) h set (get_or t (skip t p) 0))

-- ---- what the parser rests on

module _ (set : Stops) (t : List ℕ) (p : ℕ) where
  -- A token begins at or behind the place asked for, the next place lies behind its beginning, and within the text.
  pub token-moves : (d : TokenData) (n : ℕ) → token_at set t p ≡ got (found d n) → p ≤ length t → (p ≤ d.index) × (d.index < n) × (n ≤ length t)
  token-moves d n e h = let z = from-got (MovesIn p (length t)) _ (found d n) (at-moves set t p) e in (z.0, z.1, z.2)

  -- A string token's span lies in the text; an unquoted one is the token itself, of a byte at least.
  pub token-span : (d : TokenData) (n : ℕ) → token_at set t p ≡ got (found d n) → p ≤ length t
      → (q : Bool) (a e : ℕ) → d.token ≡ string q a e → (a ≤ e) × (e ≤ length t) × (q ≡ false → (a ≡ d.index) × (a < e))
  token-span d n e h q a b k =
      let z = from-got (MovesIn p (length t)) _ (found d n) (at-moves set t p) e in subst (SpanIn d.index (length t)) k z.3

  -- The end answer is placed at the text's end.
  pub ended-there : (q : ℕ) → token_at set t p ≡ got (ended q) → p ≤ length t → q ≡ length t
  ended-there q e h = from-got (MovesIn p (length t)) _ (ended q) (at-moves set t p) e
