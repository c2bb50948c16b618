-- How far a value reaches and how many bytes it takes: at most 16 for each byte of the text, so that a place in the output fits a word.
-- Assumes nothing.
use Prim.Native.Nat.{ℕ, zero, suc, ◌+◌, ◌-◌, ◌*◌, ◌≤◌, ◌<◌}
use mathlib.Core.Bool.{Bool, true, false, ◌||◌}
use mathlib.Core.List.{List, [], ◌∷◌}
use native.Mathlib.Omega.{arith}
use lib.Dec.{eqb, leb}
use lib.ListN.{length, drop, get_or}
use Rattle.form.specs.Answer.{Out, got, ◌>>=◌, ◌>>◌, guard}
use Rattle.form.specs.Form.{modified}
use Rattle.form.specs.Strings.{scalar_bytes, encode_by}
use Rattle.form.proofs.Picks.{pick-le, lt-or}
use Rattle.form.proofs.Turned.{encoded-size}
use mathlib.Core.Logic.{◌⊎◌, inl, inr}
use borrow.Author.Tests.{le-leb, lt-leb}
use Rattle.snbt_form.specs.Numbers.{Number, is_digit, number}
use Rattle.snbt_form.specs.Lexing.{Stops, Token, open_curly, closed_curly, open_square, closed_square, comma, colon, semicolon, string, numeral, TokenData, Lexed, found, ended, front_of, Front}
use Rattle.snbt_form.specs.Lexing.{scalars_by, content_of, made, unquoted, unquoted_at, word, quoted, Quoted, quoted_at, token_by, skip, token_at}
use Rattle.snbt_form.specs.Text.{string_of}
use Rattle.form.specs.Spans.{part}
use Rattle.snbt_form.proofs.Moves.{Holds, holds-bind, either_way, from-got, word-reach, token-moves}
use Rattle.snbt_due.specs.Due.{Met}

-- ---- a string's span lies in its token

abbrev pub InToken : Token → ℕ → ℕ → Type 0
InToken open_curly i n = Unit {0}
InToken closed_curly i n = Unit {0}
InToken open_square i n = Unit {0}
InToken closed_square i n = Unit {0}
InToken comma i n = Unit {0}
InToken colon i n = Unit {0}
InToken semicolon i n = Unit {0}
InToken (string q a e) i n = (i ≤ a) × (e ≤ n)
InToken (numeral m) i n = Unit {0}

abbrev InLexed : Lexed → Type 0
InLexed (found d n) = InToken d.token d.index n
InLexed (ended p) = Unit {0}

module _ (t : List ℕ) (i : ℕ) (h : i < length t) where
  in-unquoted : (set : Stops) → Holds InLexed (unquoted_at set t i)
  unfolding unquoted_at
  in-unquoted set =
      let w = word set t i in
      let z = word-reach set t i h in
      holds-bind InLexed (unquoted t i w.end) (λ (k : Token). got (made k i w.width w.next))
      (λ k e. from-got (λ (k : Token). InToken k i w.next) _ k
      (either_way (Holds (λ (k : Token). InToken k i w.next)) (eqb (get_or t i 0) 45 || is_digit (get_or t i 0))
      (holds-bind (λ (k : Token). InToken k i w.next) (number (part t i (w.end - i)) i) (λ (n : Number). got (numeral n)) (λ n r. tt))
      (omega arith, z.before)) e)

  in-quoted : Holds InLexed (quoted_at t i)
  unfolding quoted_at
  in-quoted =
      holds-bind InLexed (quoted t i) (λ (r : Quoted). got (made (string true (i + 1) r.end) i r.width (r.end + 1)))
      (λ r e. (omega arith, omega arith))

  in-token : (set : Stops) (b : ℕ) → Holds InLexed (token_by set t i b)
  unfolding token_by
  in-token set b =
      let P = Holds InLexed in
      either_way P (eqb b 44) tt
      (either_way P (eqb b 58) tt
      (either_way P (eqb b 59) tt
      (either_way P (eqb b 91) tt
      (either_way P (eqb b 93) tt
      (either_way P (eqb b 123) tt
      (either_way P (eqb b 125) tt
      (either_way P (eqb b 34 || eqb b 39) in-quoted (in-unquoted set))))))))

in-lexed : (set : Stops) (t : List ℕ) (p : ℕ) → Holds InLexed (token_at set t p)
unfolding token_at
in-lexed set t p =
    pick-le (Holds InLexed) (length t) (skip t p) (λ h. tt)
    (λ h. in-token t (skip t p) h set (get_or t (skip t p) 0))

module _ {t : List ℕ} {d : TokenData} {n : ℕ} (met : Met t d n) where
  -- A token takes a byte at least and ends within the text.
  pub met-within : (d.index < n) × (n ≤ length t)
  met-within = let z = token-moves met.set t met.from d n met.is met.within in (z.1, z.2)

  pub met-in : InToken d.token d.index n
  met-in = from-got InLexed _ (found d n) (in-lexed met.set t met.from) met.is

-- ---- how long a content is

scalars-few : (f : ℕ) (q : Bool) (l : List ℕ) (p : ℕ) → Holds (λ (cs : List ℕ). length cs ≤ f) (scalars_by f q l p)
unfolding scalars_by
scalars-few zero q [] p = omega arith
scalars-few zero q (b ∷ l) p = tt
scalars-few (suc f) q [] p = omega arith
scalars-few (suc f) q (b ∷ l) p =
    holds-bind (λ (cs : List ℕ). length cs ≤ suc f) (front_of q (b ∷ l) p) (λ (x : Front). scalars_by f q (drop x.bytes (b ∷ l)) (p + x.bytes) >>= (λ cs. got (x.scalar ∷ cs)))
    (λ x e. holds-bind (λ (cs : List ℕ). length cs ≤ suc f) (scalars_by f q (drop x.bytes (b ∷ l)) (p + x.bytes)) (λ (cs : List ℕ). got (x.scalar ∷ cs))
    (λ cs g. let z = from-got (λ (cs : List ℕ). length cs ≤ f) _ cs (scalars-few f q (drop x.bytes (b ∷ l)) (p + x.bytes)) g in omega (arith, z)))

content-size : (t : List ℕ) (q : Bool) (a e : ℕ) → Holds (λ (s : List ℕ). length s ≤ 6 * (e - a)) (content_of t q a e)
unfolding content_of
content-size t q a e =
    holds-bind (λ (s : List ℕ). length s ≤ 6 * (e - a)) (scalars_by (e - a) q (part t a (e - a)) a) (λ (cs : List ℕ). got (encode_by scalar_bytes cs))
    (λ cs g. let z = from-got (λ (cs : List ℕ). length cs ≤ e - a) _ cs (scalars-few (e - a) q (part t a (e - a)) a) g in omega (arith, z, encoded-size modified cs))

-- a test that is passed
guard-le : {A : Type 0} (P : A → Type 0) (a b n p : ℕ) (o : Out A) → (a ≤ b → Holds P o) → Holds P (guard (leb a b) n p >> o)
guard-le {A} P a b n p o k = go (lt-or b a)
  where
    go : (b < a) ⊎ (a ≤ b) → Holds P (guard (leb a b) n p >> o)
    go (inl h) = rw (lt-leb a b h) tt
    go (inr h) = rw (le-leb a b h) (k h)

pub guard-any : {A : Type 0} (P : A → Type 0) (b : Bool) (n p : ℕ) (o : Out A) → Holds P o → Holds P (guard b n p >> o)
guard-any P true n p o h = h
guard-any P false n p o h = tt

abbrev pub Short : ℕ → ℕ → List ℕ → Type 0
Short i n s = (length s ≤ 65535) × (length s ≤ 6 * (n - i))

pub string-size : (t : List ℕ) (room : ℕ) (q : Bool) (a e p i n : ℕ) → i ≤ a → e ≤ n → Holds (Short i n) (string_of t room q a e p)
unfolding string_of
string-size t room q a e p i n h l =
    holds-bind (Short i n) (content_of t q a e) (λ (s : List ℕ). guard (leb (length s) 65535) 12 p >> got s)
    (λ s g.
    let z = from-got (λ (s : List ℕ). length s ≤ 6 * (e - a)) _ s (content-size t q a e) g in
    guard-le (Short i n) (length s) 65535 12 p (got s) (λ y. (y, omega (arith, z))))
