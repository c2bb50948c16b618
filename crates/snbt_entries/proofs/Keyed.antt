-- Keys where one is due, by what stands there: the `}`, an entry by its key's token, and a key that is new.
-- Assumes nothing.
use Prim.Native.Nat.{ℕ, ◌+◌, ◌-◌, ◌≤◌}
use mathlib.Core.Path.{◌≡◌, refl, sym, ap, ◌∙◌}
use mathlib.Core.List.{List}
use native.Mathlib.Omega.{arith}
use borrow.Author.Tests.{eqb-false}
use lib.ListN.{length, take, length-take}
use Rattle.form.specs.Answer.{got, ◌>>◌, unmatched_brace}
use Rattle.snbt_form.specs.Lexing.{key, value, TokenData, found, token_at}
use Rattle.snbt_form.specs.Text.{Last, Reads, sign_of, no_comma, key_of}
use Rattle.snbt_form.proofs.Moves.{token-moves}
use Rattle.snbt_tokens.specs.Answers.{token_is}
use Rattle.snbt_tokens.specs.declared.Token.{Token}
use Rattle.snbt_tokens.specs.declared.Token.TheVariants.{OpenCurly, ClosedCurly, OpenSquare, ClosedSquare, Comma, Colon, Semicolon, Str, Byte, Short, Int, Long, Float, Double}
use Rattle.std.specs.Prelude.{Result, Ok, Err}
use Rattle.form.specs.declared.refusals.Refused.{Refused}
use mathlib.Core.Bool.{false}
use lib.Dec.{eqb}
use Rattle.snbt_keys.specs.Keys.{FreeAt, names_in}
use Rattle.snbt_key_text.specs.Keys.{KeyIn}
use Rattle.snbt_key_text.proofs.Keys.{key-stands}
use Rattle.snbt_due.specs.Due.{Met, value_from}
use Rattle.snbt_due.proofs.Reading.{due-found}
use Rattle.snbt_due.proofs.Sizes.{met-within}
use Rattle.snbt_entries.specs.declared.Key.{Key}
use Rattle.snbt_entries.specs.Entries.{stops, entry_turn, ColonIs, Fit, NameIs, NamedIs, EndedIs, KeyedIs}
use Rattle.snbt_entries.proofs.Turns.{entry_value, turn_end, turn-entry-no, turn-entry}
use Rattle.snbt_entries.proofs.Sizes.{key-size}

-- ---- a key's content

-- a key's content in the buffer
module _ (t o buffer : List ℕ) (x : TokenData) (n : ℕ) (e : (room : ℕ) → KeyIn (key_of t room x.token x.index) o n buffer) where
  pub key-is : (room : ℕ) → key_of t room x.token x.index ≡ got (take n buffer)
  key-is room = (e room).same ∙ ap got (sym (key-stands (e room)))

  pub key-length : n ≡ length (take n buffer)
  key-length = (e 0).size_is ∙ ap length (sym (key-stands (e 0)))

  pub key-within : n ≤ length buffer
  key-within = omega (arith, simp length-take at key-length)

-- What the arm of the `}` leaves is another token.
pub not-closed : (k : Token) → (k ≡ ClosedCurly → ⊥) → sign_of (token_is k) ≡ 125 → ⊥
not-closed k h = eqb-false (sign_of (token_is k)) 125 (by k h)
  where
    by : (k : Token) → (k ≡ ClosedCurly → ⊥) → eqb (sign_of (token_is k)) 125 ≡ false
    by OpenCurly h = refl
    by ClosedCurly h = absurd (h refl)
    by OpenSquare h = refl
    by ClosedSquare h = refl
    by Comma h = refl
    by Colon h = refl
    by Semicolon h = refl
    by (Str q a e) h = refl
    by (Byte z) h = refl
    by (Short z) h = refl
    by (Int z) h = refl
    by (Long z) h = refl
    by (Float x) h = refl
    by (Double x) h = refl

-- ---- a key that is new, with the place behind its colon

module _ (t : List ℕ) (x : TokenData) (next brace : ℕ) (met : Met t x next) (o k : List ℕ) (base top : ℕ) (buffer s : List ℕ) (n i m : ℕ) where
  pub named-is : ((room : ℕ) → key_of t room x.token x.index ≡ got s) → n ≡ length s → take n buffer ≡ s → FreeAt o k base top s i → ColonIs t brace next (Ok m)
      → NameIs t x next brace o k base top buffer n i m
  named-is e l stands free g =
      let z = key-size met 0 x.index s (e 0) in
      let w = met-within met in
      record {
        name = s;
        is = λ room val u. entry_value t room val brace (names_in o k base (top - base)) (record { td = x; next = next }) u s (e room) free.new m (g.0 room);
        fit = record {
          stands = stands;
          length_is = l;
          short = omega (arith, l, z.0);
          free = free;
          within = g.2;
          small = omega (arith, l, z.1, w.0, g.1);
          far = omega (arith, w.0, g.1);
        };
      }

-- ---- where a key is due

-- a key at or behind a place
fit-from : {t : List ℕ} {p q : ℕ} {o k : List ℕ} {base top : ℕ} {buffer name : List ℕ} {n i m : ℕ} → p ≤ q → Fit t q o k base top buffer name n i m → Fit t p o k base top buffer name n i m
fit-from h f =
    record { stands = f.stands; length_is = f.length_is; short = f.short; free = f.free; within = f.within; small = omega (arith, f.small); far = omega (arith, f.far) }

module _ (t : List ℕ) (brace : ℕ) (last : Last) (p : ℕ) (o k : List ℕ) (base top : ℕ) (buffer : List ℕ) (d : TokenData) (m : ℕ)
    (e : token_at key t p ≡ got (found d m)) (h : p ≤ length t) where
  abbrev names : List (List ℕ)
  names = names_in o k base (top - base)

  -- an entry, by its key's token
  pub keyed-named : (r : Result Key Refused) → (sign_of d.token ≡ 125 → ⊥) → NamedIs t d m brace o k base top buffer r → KeyedIs t brace last p o k base top buffer r
  keyed-named (Ok (Key.End i n)) s l = absurd l
  keyed-named (Ok (Key.Is n i m')) s l =
      record {
        name = l.name;
        is = λ room val u.
            turn-entry t room val brace names last p u (record { td = d; next = m }) (due-found t room key p unmatched_brace brace d m e) s l.name
            (value_from t room val value 0 m' (u + (3 + length l.name))) (l.is room val u);
        fit = fit-from (token-moves key t p d m e h).0 l.fit;
      }
  keyed-named (Err y) s l =
      λ room val u. turn-entry-no t room val brace names last p u (record { td = d; next = m }) (due-found t room key p unmatched_brace brace d m e) s _ _ (l room val u)

  -- the `}`
  pub keyed-ended : (r : Result Key Refused) → sign_of d.token ≡ 125 → EndedIs last d.index m r → KeyedIs t brace last p o k base top buffer r
  keyed-ended r s l = by r l
    where
      turn : (room : ℕ) (val : Reads) (u : ℕ) → entry_turn t room val brace names last p u ≡ (no_comma last >> got (stops d.index m))
      turn room val u = turn_end t room val brace names last p u (record { td = d; next = m }) (due-found t room key p unmatched_brace brace d m e) s

      by : (r : Result Key Refused) → EndedIs last d.index m r → KeyedIs t brace last p o k base top buffer r
      by (Ok (Key.End j n)) (z, i, q) =
          let y = token-moves key t p d m e h in
          ((λ room val u. turn room val u ∙ rw (z, i, q) refl), omega (arith, q, y.0, y.1), omega (arith, q, y.2))
      by (Ok (Key.Is n i m')) l = absurd l
      by (Err y) l = λ room val u. turn room val u ∙ rw l refl
