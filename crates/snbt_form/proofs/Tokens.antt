-- What the parser takes from a token: the double that a number carries is one of its format, the token moves on and stays in the text, and
-- its refusal has one of the numbers of tokens.
-- Assumes nothing.
use Prim.Native.Nat.{ℕ, zero, suc, ◌+◌, ◌-◌, ◌≤◌, ◌<◌}
use mathlib.Core.Bool.{Bool, true, false, ◌||◌}
use mathlib.Core.List.{List, [], ◌∷◌}
use mathlib.Core.Path.{◌≡◌, refl}
use native.Mathlib.Omega.{arith}
use lib.Dec.{leb, eqb}
use lib.ListN.{length, get_or, drop}
use lib.Ieee.{binary64}
use Rattle.form.specs.Answer.{Out, got, pick, text_limit}
use Rattle.form.specs.Decoding.{utf8_verdict, is_good}
use Rattle.form.specs.Spans.{part}
use Rattle.snbt_form.specs.Numbers.{is_digit, number}
use Rattle.snbt_form.specs.Lexing.{among, judged_text, Stops, Token, open_curly, closed_curly, open_square, closed_square, comma, colon, semicolon, string, numeral, Lexed, found, ended}
use Rattle.snbt_form.specs.Lexing.{word, begins, unquoted, Escape, stands, bad, cut, escape_of, Quoted, on_escape, quoted_by, quoted, skip, unquoted_at, quoted_at, token_by, token_at}
use Rattle.snbt_form.specs.Text.{Next, or_else, due}
use Rattle.snbt_form.proofs.Gives.{of_whole, of_escape, of_token, all_in, among-all, Gives, Any, gives-got, gives-no, gives-bind, gives-guard, gives-test, gives-pick, gives-also, gives_all}
use Rattle.snbt_form.proofs.Contents.{Stands, escape-stands}
use Rattle.snbt_form.proofs.Carried.{Carries, Held, number-held}
use Rattle.snbt_form.proofs.Moves.{token-moves}

-- A number token carries what its format holds.
abbrev pub TokenHeld : Token → Type 0
TokenHeld open_curly = Unit {0}
TokenHeld closed_curly = Unit {0}
TokenHeld open_square = Unit {0}
TokenHeld closed_square = Unit {0}
TokenHeld comma = Unit {0}
TokenHeld colon = Unit {0}
TokenHeld semicolon = Unit {0}
TokenHeld (string q a e) = Unit {0}
TokenHeld (numeral n) = Carries (Held binary64) n

abbrev pub LexedHeld : Lexed → Type 0
LexedHeld (found d n) = TokenHeld d.token
LexedHeld (ended p) = Unit {0}

module _ (t : List ℕ) where
  -- A text as a whole is refused with 9 or 15.
  pub whole-any : Gives of_whole Any (judged_text t)
  unfolding judged_text among
  whole-any = gives-guard (leb (length t) text_limit) _ _ _ refl (λ _. gives-test (is_good (utf8_verdict t)) _ _ refl)

  unquoted-held : (set : Stops) (i : ℕ) → Gives of_token LexedHeld (unquoted_at set t i)
  unfolding unquoted_at among
  unquoted-held set i = gives-bind (unquoted t i (word set t i).end) _ (go (word set t i).end) (λ k h. gives-got h)
    where
      go : (e : ℕ) → Gives of_token TokenHeld (unquoted t i e)
      go e =
          gives-pick (eqb (get_or t i 0) 45 || is_digit (get_or t i 0))
          (λ _. gives-bind (number (part t i (e - i)) i) _ (gives_all refl (number-held (part t i (e - i)) i)) (λ n h. gives-got h))
          (λ _. gives-got tt)

  escape-any : (k : ℕ → Out Quoted) (start : ℕ) (e : Escape) → Stands e → ((n : ℕ) → Gives of_token Any (k n)) → Gives of_token Any (on_escape k start e)
  unfolding among
  escape-any k start (stands c n) h f = f n
  escape-any k start (bad n p) h f = gives-no (among-all of_escape of_token n refl h)
  escape-any k start cut h f = gives-no refl

  quoted-any : (f start q : ℕ) (l : List ℕ) (i w : ℕ) → Gives of_token Any (quoted_by f start q l i w)
  unfolding quoted_by among
  quoted-any zero start q l i w = gives-no refl
  quoted-any (suc f) start q [] i w = gives-no refl
  quoted-any (suc f) start q (b ∷ l) i w =
      gives-pick (eqb b q) (λ _. gives-got tt)
      (λ _. go (eqb b 92) (λ n. quoted_by f start q (drop n (b ∷ l)) (i + n) (w + pick (eqb b 92) n (begins b)))
      (λ n. quoted-any f start q (drop n (b ∷ l)) (i + n) (w + pick (eqb b 92) n (begins b))))
    where
      go : (x : Bool) (k : ℕ → Out Quoted) → ((n : ℕ) → Gives of_token Any (k n)) → Gives of_token Any (on_escape k start (pick x (escape_of l i) (stands b 1)))
      go true k h = escape-any k start (escape_of l i) (escape-stands l i) h
      go false k h = h 1

  quoted-held : (i : ℕ) → Gives of_token LexedHeld (quoted_at t i)
  unfolding quoted_at quoted
  quoted-held i = gives-bind (quoted t i) _ (quoted-any (suc (length t)) i (get_or t i 0) (drop (i + 1) t) (i + 1) 1) (λ r _. gives-got tt)

  by-held : (set : Stops) (i b : ℕ) → Gives of_token LexedHeld (token_by set t i b)
  unfolding token_by
  by-held set i b =
      gives-pick (eqb b 44) (λ _. gives-got tt)
      (λ _. gives-pick (eqb b 58) (λ _. gives-got tt)
      (λ _. gives-pick (eqb b 59) (λ _. gives-got tt)
      (λ _. gives-pick (eqb b 91) (λ _. gives-got tt)
      (λ _. gives-pick (eqb b 93) (λ _. gives-got tt)
      (λ _. gives-pick (eqb b 123) (λ _. gives-got tt)
      (λ _. gives-pick (eqb b 125) (λ _. gives-got tt)
      (λ _. gives-pick (eqb b 34 || eqb b 39) (λ _. quoted-held i) (λ _. unquoted-held set i))))))))

  -- From any place on.
  pub token-held : (set : Stops) (p : ℕ) → Gives of_token LexedHeld (token_at set t p)
  unfolding token_at
  token-held set p = gives-pick (leb (length t) (skip t p)) (λ _. gives-got tt) (λ _. by-held set (skip t p) (get_or t (skip t p) 0))

  -- A token from p on as the parser takes it: it moves on, and stays within the text.
  abbrev pub LexedFine : ℕ → Lexed → Type 0
  LexedFine p (found d n) = TokenHeld d.token × (p < n) × (n ≤ length t)
  LexedFine p (ended q) = Unit {0}

  pub token-fine : (set : Stops) (p : ℕ) → p ≤ length t → Gives of_token (LexedFine p) (token_at set t p)
  token-fine set p l = gives-also (token_at set t p) (token-held set p) go
    where
      go : (x : Lexed) → token_at set t p ≡ got x → LexedHeld x → LexedFine p x
      go (found d n) e h = let m = token-moves set t p d n e l in (h, omega (arith, m.0, m.1), m.2)
      go (ended q) e h = tt

  -- A token that is due at p.
  abbrev pub NextFine : ℕ → Next → Type 0
  NextFine p x = TokenHeld x.td.token × (p < x.next) × (x.next ≤ length t)

  pub or-fine : {ns : List ℕ} (p : ℕ) (x : Lexed) (n q : ℕ) → among ns n ≡ true → LexedFine p x → Gives ns (NextFine p) (or_else x n q)
  or-fine p (found d m) n q o h = gives-got h
  or-fine p (ended r) n q o h = gives-no o

  -- It is refused as a token is, or with n at the text's end.
  pub due-fine : {ns : List ℕ} → all_in of_token ns ≡ true → (room : ℕ) (set : Stops) (p n q : ℕ) → among ns n ≡ true → p ≤ length t
      → Gives ns (NextFine p) (due t room set p n q)
  unfolding due
  due-fine a room set p n q o l = gives-bind (token_at set t p) _ (gives_all a (token-fine set p l)) (λ x h. or-fine p x n q o h)
