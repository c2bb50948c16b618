-- What the contracts of keys cite (rule 15).
-- Assumes nothing.
use Rattle.std.specs.Prelude.{ℕ, ◌*◌, ◌≤◌, ◌≡◌, ◌⊎◌, List, length, Result, Ok, Err}
use Rattle.form.specs.Refusals.{number_of}
use Rattle.form.specs.declared.refusals.Refused.{Refused}
use Rattle.form.specs.Answer.{Out, got, no}
use Rattle.form.specs.Spans.{over}

-- A buffer of m bytes has room for every key of a text of n bytes that is not over 65,535 bytes.
abbrev pub KeyRoom : ℕ → ℕ → Type 0
KeyRoom n m = (65535 ≤ m) ⊎ (2 * n ≤ m)

-- A key's content stands in the buffer from 0 on, in n bytes, and the rest of the buffer is as it was.
pub record KeyIn (res : Out (List ℕ)) (o : List ℕ) (n : ℕ) (o' : List ℕ) : Type 0 where
  pub bytes : List ℕ
  pub same : res ≡ got bytes
  pub size_is : n ≡ length bytes
  pub fits : n ≤ length o
  pub wrote : o' ≡ over o 0 bytes

-- The code's answer on a key agrees with the definitions' one; a refusal leaves the buffer as it was.
abbrev pub KeyAgrees : Out (List ℕ) → List ℕ → Result ℕ Refused → List ℕ → Type 0
KeyAgrees res o (Ok n) o' = KeyIn res o n o'
KeyAgrees res o (Err e) o' = (res ≡ no (number_of e.refusal) e.place) × (o' ≡ o)
