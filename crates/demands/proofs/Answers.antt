-- The refusals of a read: by their numbers, and where a 4 points.
-- Assumes nothing.
use Prim.Native.Nat.{ℕ}
use mathlib.Core.Bool.{true, false}
use mathlib.Core.List.{List}
use mathlib.Core.Path.{◌≡◌, sym, ◌∙◌}
use lib.Dec.{eqb}
use borrow.Author.Tests.{eq-eqb}
use Rattle.form.specs.Form.{Form}
use Rattle.form.specs.Answer.{bad_string}
use Rattle.form.proofs.Picks.{differ}
use Rattle.snbt_form.specs.Lexing.{among}
use Rattle.demands.specs.Numbers.{read_numbers}
use Rattle.demands.specs.Characters.{BrokenString}

-- the refusals of a read are allowed; with 4 it points at a character (02, [3])
pub record Numbered (form : Form) (doc : List ℕ) (n p : ℕ) : Type 0 where
  pub number : among read_numbers n ≡ true
  pub character : n ≡ bad_string → BrokenString form doc p

-- one of the others
pub other : (form : Form) → {doc : List ℕ} {n p : ℕ} → among read_numbers n ≡ true → eqb n bad_string ≡ false → Numbered form doc n p
other form {doc} {n} h d = record { number = h; character = λ e. differ (sym (eq-eqb n bad_string e) ∙ d) }
