-- What a `[` opens (rules 14 and 15): each way through the definitions, one law a path.
-- Assumes nothing.
use Prim.Native.Nat.{ℕ, ◌+◌, ◌≤◌, ◌<◌}
use mathlib.Core.Path.{◌≡◌, refl, ap, ◌∙◌}
use mathlib.Core.Bool.{false}
use mathlib.Core.List.{List}
use native.Mathlib.Omega.{arith}
use borrow.Author.Tests.{lt-ltb, le-ltb, le-leb, lt-leb, eq-eqb}
use lib.Dec.{eqb}
use lib.ListN.{length}
use Rattle.form.specs.Answer.{got, no}
use Rattle.snbt_form.specs.Lexing.{first, default, TokenData, found, ended, token_at}
use Rattle.snbt_form.specs.Text.{Reads, sign_of, letter_width, opened_by, square_at, list_at, list_from, array_at}
use Rattle.snbt_form.proofs.Moves.{token-moves}
use Rattle.snbt_tokens.specs.declared.Token.{Token}
use Rattle.snbt_tokens.specs.Answers.{token_is, lexed_is}
use Rattle.snbt_tokens.specs.declared.TokenData.{TokenData as Data}
use Rattle.snbt_tokens.specs.declared.Lexed.{Lexed}
use Rattle.snbt_tokens.specs.declared.Lexed.TheVariants.{Found, Ended}
use Rattle.snbt_tokens.specs.declared.Token.TheVariants.{OpenCurly, ClosedCurly, OpenSquare, ClosedSquare, Comma, Colon, Semicolon, Str, Byte, Short, Int, Long, Float, Double}
use Rattle.snbt_placing.specs.Done.{Wide, bytes, ints, longs}
use Rattle.snbt_due.proofs.Reading.{from_found}
use Rattle.std.specs.Prelude.{Some, None, Result, Ok, Err}
use Rattle.form.specs.Refusals.{number_of}
use Rattle.form.specs.declared.refusals.Refusal.TheVariants.{TooDeep, OutputFull, UnmatchedBrace}
use Rattle.form.specs.declared.refusals.Refused.{Refused}
use Rattle.snbt_lists.specs.declared.Opened.{Opened}
use Rattle.snbt_lists.specs.Lists.{LetterIs, ListAdmitted, ListedIs, UnmatchedIs, OpenedIs}

-- ---- what a rest arm leaves

-- The arm of a `]` leaves tokens that are none.
pub no-close : (k : Token) → (k ≡ ClosedSquare → ⊥) → eqb (sign_of (token_is k)) 93 ≡ false
no-close OpenCurly o = refl
no-close ClosedCurly o = refl
no-close OpenSquare o = refl
no-close ClosedSquare o = absurd (o refl)
no-close Comma o = refl
no-close Colon o = refl
no-close Semicolon o = refl
no-close (Str q a e) o = refl
no-close (Byte z) o = refl
no-close (Short z) o = refl
no-close (Int z) o = refl
no-close (Long z) o = refl
no-close (Float x) o = refl
no-close (Double x) o = refl

-- The arm of a `;` leaves tokens that are none.
pub no-semicolon : (k : Token) → (k ≡ Semicolon → ⊥) → eqb (sign_of (token_is k)) 59 ≡ false
no-semicolon OpenCurly o = refl
no-semicolon ClosedCurly o = refl
no-semicolon OpenSquare o = refl
no-semicolon ClosedSquare o = refl
no-semicolon Comma o = refl
no-semicolon Colon o = refl
no-semicolon Semicolon o = absurd (o refl)
no-semicolon (Str q a e) o = refl
no-semicolon (Byte z) o = refl
no-semicolon (Short z) o = refl
no-semicolon (Int z) o = refl
no-semicolon (Long z) o = refl
no-semicolon (Float x) o = refl
no-semicolon (Double x) o = refl

-- Where no token is found the text ends.
pub not-found : (x : Lexed) → ((d : Data) (n : ℕ) → x ≡ Found d n → ⊥) → (i : ℕ) × (lexed_is x ≡ ended i)
not-found (Found d n) f = absurd (f d n refl)
not-found (Ended i) f = (i, refl)

-- ---- a list, by its head and its first token

module _ (left room brace u : ℕ) where
  pub list-deep : left ≡ 0 → ListAdmitted left room brace u (Err (record { refusal = TooDeep; place = brace }))
  unfolding list_at
  list-deep h t val x = rw (le-ltb 0 left (omega arith)) refl

  pub list_full : 0 < left → room < u + 5 → ListAdmitted left room brace u (Err (record { refusal = OutputFull; place = brace }))
  unfolding list_at
  list_full h k t val x = rw (lt-ltb 0 left h, lt-leb (u + 5) room k) refl

  module _ (is : (0 < left) × (u + 5 ≤ room)) where
    pub list-ended : UnmatchedIs room left brace u (Err (record { refusal = UnmatchedBrace; place = brace }))
    unfolding list_at
    list-ended t val p = rw (lt-ltb 0 left is.0, le-leb (u + 5) room is.1) refl

    module _ (d : TokenData) (n : ℕ) where
      pub list-empty : sign_of d.token ≡ 93 → ListedIs room left brace d n u (Ok (Opened.Empty n))
      unfolding list_at list_from
      list-empty e = ((λ t val. rw (lt-ltb 0 left is.0, le-leb (u + 5) room is.1, list_from, eq-eqb (sign_of d.token) 93 e) refl), is.1, refl)

      pub list-first : eqb (sign_of d.token) 93 ≡ false → ListedIs room left brace d n u (Ok Opened.First)
      unfolding list_at list_from
      list-first e = ((λ t val. rw (lt-ltb 0 left is.0, le-leb (u + 5) room is.1, list_from, e) refl), is.0, is.1)

-- ---- a `[`, by the tokens that are taken

module _ (t : List ℕ) (room left brace p u : ℕ) where
  pub square-no : (x : Refused) → token_at first t p ≡ no (number_of x.refusal) x.place → OpenedIs t room left brace p u (Err x)
  unfolding square_at
  square-no x e val = rw e refl

  pub square-ended : (i : ℕ) (r : Result Opened Refused) → token_at first t p ≡ got (ended i) → UnmatchedIs room left brace u r → OpenedIs t room left brace p u r
  unfolding square_at
  square-ended i (Ok o) e l = absurd l
  square-ended i (Err x) e l = λ val. rw e (l t val i)

  module _ (d : TokenData) (n : ℕ) (e : token_at first t p ≡ got (found d n)) (h : p ≤ length t) where
    -- A list, by the token in front.
    listed : (r : Result Opened Refused) → ((val : Reads) → square_at t room left val brace p u ≡ list_at t room left val brace (found d n) u) → ListedIs room left brace d n u r → OpenedIs t room left brace p u r
    listed (Ok (Opened.Array w m)) is l = absurd l
    listed (Ok (Opened.Empty m)) is (f, g, z) =
        let y = token-moves first t p d n e h in
        ((λ val. is val ∙ f t val), g, omega (arith, z, y.0, y.1), omega (arith, z, y.2))
    listed (Ok Opened.First) is (f, g, z) = ((λ val. rw (from_found t room val first 0 p (u + 5) d n e) (is val ∙ f t val)), g, z)
    listed (Err x) is l = λ val. is val ∙ l t val

    pub no-letter : LetterIs t d None → (r : Result Opened Refused) → ListedIs room left brace d n u r → OpenedIs t room left brace p u r
    unfolding square_at
    no-letter g r = listed r (λ val. rw (e, opened_by, eq-eqb (letter_width t room d.token) 0 (g room)) refl)

    module _ (w : ℕ) (g : LetterIs t d (Some w)) where
      -- A width that is announced is not 0.
      wide-some : {w : ℕ} → Wide w → eqb w 0 ≡ false
      wide-some bytes = refl
      wide-some ints = refl
      wide-some longs = refl

      pub letter-no : (x : Refused) → token_at default t n ≡ no (number_of x.refusal) x.place → OpenedIs t room left brace p u (Err x)
      unfolding square_at
      letter-no x k val = rw (e, opened_by, g.0 room, wide-some g.1, k) refl

      pub letter-ended : (i : ℕ) → token_at default t n ≡ got (ended i) → (r : Result Opened Refused) → ListedIs room left brace d n u r → OpenedIs t room left brace p u r
      unfolding square_at
      letter-ended i k r = listed r (λ val. rw (e, opened_by, g.0 room, wide-some g.1, k) refl)

      module _ (d' : TokenData) (m : ℕ) (k : token_at default t n ≡ got (found d' m)) where
        pub letter-other : eqb (sign_of d'.token) 59 ≡ false → (r : Result Opened Refused) → ListedIs room left brace d n u r → OpenedIs t room left brace p u r
        unfolding square_at
        letter-other s r = listed r (λ val. rw (e, opened_by, g.0 room, wide-some g.1, k, s) refl)

        pub letter-semicolon : sign_of d'.token ≡ 59 → OpenedIs t room left brace p u (Ok (Opened.Array w m))
        unfolding square_at
        letter-semicolon s =
            let y = token-moves first t p d n e h in
            let z = token-moves default t n d' m k y.2 in
            let is : (val : Reads) → square_at t room left val brace p u ≡ array_at t room w brace m u = λ val.
            rw (e, opened_by, g.0 room, wide-some g.1, k, eq-eqb (sign_of d'.token) 59 s) (ap (λ x. array_at t room x brace m u) (g.0 room)) in
            (is, g.1, omega (arith, y.0, y.1, z.0, z.1), z.2)
