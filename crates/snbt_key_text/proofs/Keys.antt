-- Laws of a key: its content and its refusals, the room for it in the buffer, and what stands there.
-- Assumes nothing.
use Prim.Native.Nat.{ℕ, ◌-◌, ◌≤◌, ◌<◌}
use mathlib.Core.Bool.{Bool}
use mathlib.Core.Logic.{inl, inr}
use mathlib.Core.List.{List}
use mathlib.Core.Path.{◌≡◌, refl, ◌∙◌}
use native.Mathlib.Omega.{arith}
use borrow.Author.Tests.{le-leb, lt-leb}
use lib.ListN.{length, take}
use Rattle.form.specs.Answer.{Out, got, no, unexpected_token, long_string}
use Rattle.form.specs.Spans.{part, over}
use Rattle.form.proofs.Places.{part-over}
use Rattle.form.proofs.Spans.{part_length}
use Rattle.snbt_form.specs.Lexing.{Token, open_curly, closed_curly, open_square, closed_square, comma, colon, semicolon, string, numeral, content_of}
use Rattle.snbt_form.specs.Text.{string_of, key_of}
use Rattle.snbt_tokens.specs.Answers.{token_is}
use Rattle.snbt_tokens.specs.declared.Token as code
use Rattle.snbt_tokens.specs.declared.Token.TheVariants.{OpenCurly, ClosedCurly, OpenSquare, ClosedSquare, Comma, Colon, Semicolon, Str, Byte, Short, Int, Long as LongInt, Float, Double}
use Rattle.snbt_tokens.proofs.Rests.{Unstrung}
use Rattle.snbt_contents.specs.Puts.{PutIs, Verbatim}
use Rattle.snbt_contents.proofs.Fitted.{Long}
use Rattle.snbt_key_text.specs.Keys.{KeyRoom, KeyIn}
use Rattle.snbt_key_text.proofs.Bounds.{content-bounded}

-- ---- by its token

-- No string is 19.
pub key-other : (t : List ℕ) (room : ℕ) (x : Token) (p : ℕ) → Unstrung x → key_of t room x p ≡ no unexpected_token p
unfolding key_of
key-other t room open_curly p u = refl
key-other t room closed_curly p u = refl
key-other t room open_square p u = refl
key-other t room closed_square p u = refl
key-other t room comma p u = refl
key-other t room colon p u = refl
key-other t room semicolon p u = refl
key-other t room (string q a e) p u = absurd u
key-other t room (numeral n) p u = refl

-- What the arm of a string leaves is none.
pub unstrung : (k : code.Token) → ((q : Bool) (a e : ℕ) → k ≡ Str q a e → ⊥) → Unstrung (token_is k)
unstrung OpenCurly h = tt
unstrung ClosedCurly h = tt
unstrung OpenSquare h = tt
unstrung ClosedSquare h = tt
unstrung Comma h = tt
unstrung Colon h = tt
unstrung Semicolon h = tt
unstrung (Str q a e) h = h q a e refl
unstrung (Byte z) h = tt
unstrung (Short z) h = tt
unstrung (Int z) h = tt
unstrung (LongInt z) h = tt
unstrung (Float x) h = tt
unstrung (Double x) h = tt

module _ (t : List ℕ) (q : Bool) (a e p room : ℕ) where
  pub key-string : (x : Token) → x ≡ string q a e → string_of t room q a e p ≡ key_of t room x p
  unfolding key_of
  key-string x f = rw f refl

  -- ---- a string's content

  -- A refusal of it stays.
  pub string-no : (m k : ℕ) → content_of t q a e ≡ no m k → string_of t room q a e p ≡ no m k
  unfolding string_of
  string-no m k c = rw c refl

  -- Over 65,535 bytes it is 12.
  pub string-long : {n : ℕ} → Long (content_of t q a e) n → 65535 < n → string_of t room q a e p ≡ no long_string p
  unfolding string_of
  string-long l h = rw (l.is, lt-leb (length l.bytes) 65535 (omega (arith, h, l.size))) refl

  -- Else it is the string.
  pub string-got : (s : List ℕ) → content_of t q a e ≡ got s → length s ≤ 65535 → string_of t room q a e p ≡ got s
  unfolding string_of
  string-got s c h = rw (c, le-leb (length s) 65535 h) refl

  -- ---- in the buffer

  module _ {n : ℕ} (l : Long (content_of t q a e) n) (h : n ≤ 65535) where
    -- There is room for it.
    pub key-room : {m : ℕ} → KeyRoom (length t) m → a ≤ e → e ≤ length t → n ≤ m
    key-room (inl r) i j = omega (arith, r, h)
    key-room (inr r) i j = omega (arith, r, l.size, content-bounded t q e j a l.bytes i l.is)

    -- It was put to the start.
    pub key_in : (o : List ℕ) (r : ℕ) (o' : List ℕ) → n ≤ length o → PutIs (content_of t q a e) o 0 r o' → KeyIn (string_of t room q a e p) o r o'
    key_in o r o' f w =
        let v : PutIs (got l.bytes) o 0 r o' = rw l.is at w in
        let z : r ≡ length l.bytes = omega (arith, v.0) in
        record {
          bytes = l.bytes;
          same = string-got l.bytes l.is (omega (arith, h, l.size));
          size_is = z;
          fits = omega (arith, z, f, l.size);
          wrote = v.1;
        }

-- A span that is its own content: its length, and its copy at the start.
module _ (t : List ℕ) (a e : ℕ) (h : a ≤ e) (k : e ≤ length t) (v : Verbatim t a e) (q : Bool) where
  pub own-long : Long (content_of t q a e) (e - a)
  own-long = record { bytes = part t a (e - a); is = v.is q; size = part_length t a (e - a) (omega arith) }

  pub own_put : (o o' : List ℕ) → o' ≡ over o 0 (part t a (e - a)) → PutIs (content_of t q a e) o 0 (e - a) o'
  own_put o o' w = rw (v.is q) (omega (arith, part_length t a (e - a) (omega arith)), w)

-- What was put at the start stands there.
pub taken : (b : List ℕ) (o : List ℕ) → length b ≤ length o → take (length b) (over o 0 b) ≡ b
taken b o h = part-over o 0 b (omega arith)

pub key-stands : {res : Out (List ℕ)} {o : List ℕ} {n : ℕ} {o' : List ℕ} (k : KeyIn res o n o') → take n o' ≡ k.bytes
key-stands {res} {o} k = (λ i. take (k.size_is i) (k.wrote i)) ∙ taken k.bytes o (omega (arith, k.size_is, k.fits))
