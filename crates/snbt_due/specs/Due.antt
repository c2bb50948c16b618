-- What the contracts of tokens that are due cite (rules 14 and 15).
-- Assumes nothing.
use Rattle.std.specs.Prelude.{ℕ, ◌≤◌, ◌<◌, ◌≡◌, List, length, Result, Ok, Err}
use Rattle.form.specs.declared.refusals.Refusal.{Refusal}
use Rattle.form.specs.declared.refusals.Refused.{Refused}
use Rattle.form.specs.Answer.{Out, got, no, ◌>>=◌, text_ends}
use Rattle.snbt_form.specs.Lexing.{Stops, TokenData, found, token_at}
use Rattle.snbt_form.specs.Text.{Value, goes_on, closes, Reads, due, following}
use Rattle.snbt_tokens.specs.Answers.{data_is}
use Rattle.snbt_due.specs.declared.Due.{Due}
use Rattle.snbt_due.specs.declared.After.{After}
use Rattle.snbt_due.specs.declared.Told.{Told}

-- A refusal that was told by its name is the one so named.
abbrev pub TurnsTo : Told Refusal → Refused → Type 0
TurnsTo e r = (r.refusal ≡ e.number) × (r.place ≡ e.place)

-- A token is there from p on, or the definition refuses, whatever the room; `v` has the number that the answer's stands for.
abbrev pub DueIs : {N : Type 0} → (N → ℕ) → List ℕ → Stops → ℕ → ℕ → ℕ → Result Due (Told N) → Type 0
DueIs v t set p n q (Ok d) = token_at set t p ≡ got (found (data_is d.td) d.next)
DueIs v t set p n q (Err e) = (room : ℕ) → due t room set p n q ≡ no (v e.number) e.place

-- What follows an element or an entry that ends at p.
abbrev pub AfterIs : {N : Type 0} → (N → ℕ) → List ℕ → ℕ → ℕ → ℕ → ℕ → Result After (Told N) → Type 0
AfterIs v t closing p n q (Ok (After.Comma i m)) = ((room : ℕ) → following t room closing p n q ≡ got (goes_on i.0 m)) × (p < m) × (m ≤ length t)
AfterIs v t closing p n q (Ok (After.Close i m)) = ((room : ℕ) → following t room closing p n q ≡ got (closes i.0 m)) × (p < m) × (m ≤ length t)
AfterIs v t closing p n q (Err e) = (room : ℕ) → following t room closing p n q ≡ no (v e.number) e.place

-- A token that the lexer found in the text, with the next place.
pub record Met (t : List ℕ) (d : TokenData) (n : ℕ) : Type 0 where
  pub set : Stops
  pub from : ℕ
  pub within : from ≤ length t
  pub is : token_at set t from ≡ got (found d n)

module _ (t : List ℕ) (room : ℕ) where
  -- A value that is due at p, read by its first token; at the text's end refusal 20 there.
  unfoldable pub value_from : Reads → Stops → ℕ → ℕ → ℕ → Out Value
  value_from val set want p u = do
    x ← due t room set p text_ends (length t)
    val want x.td x.next u
