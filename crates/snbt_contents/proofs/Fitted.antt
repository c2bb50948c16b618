-- Laws of a single content (rule 12): its refusals in their order, and the room for it.
-- Assumes nothing.
use Prim.Native.Nat.{ℕ, ◌≤◌}
use mathlib.Core.Path.{◌≡◌, refl, sym}
use mathlib.Core.Bool.{Bool, true, false, ◌&&◌}
use mathlib.Core.List.{List}
use native.Mathlib.Omega.{arith}
use lib.Dec.{leb}
use lib.ListN.{length}
use Rattle.form.specs.Answer.{Out, got, no, bad_text}
use Rattle.form.specs.Writing.{length_of, Gives}
use Rattle.snbt_form.specs.Lexing.{judged_text, on_character, content_of, content}
use Rattle.std.specs.Prelude.{Result, Ok, Err}
use Rattle.form.specs.Refusals.{number_of}
use Rattle.form.specs.declared.refusals.Refused.{Refused}
use Rattle.snbt_contents.specs.Answers.{content_out}
use Rattle.snbt_contents.specs.Puts.{Ready, fitted}

-- ---- the room

-- a content of length n
pub record Long (x : Out (List ℕ)) (n : ℕ) : Type 0 where
  pub bytes : List ℕ
  pub is : x ≡ got bytes
  pub size : length bytes ≡ n

-- what a call's answer on its length says of a content
abbrev pub Sized : Out (List ℕ) → Result ℕ Refused → Type 0
Sized x (Ok n) = Long x n
Sized x (Err e) = x ≡ no (number_of e.refusal) e.place

pub sized : (x : Out (List ℕ)) (r : Result ℕ Refused) → content_out r ≡ length_of x → Sized x r
sized (got bs) (Ok n) e = let z : n ≡ length bs = cc in record { bytes = bs; is = refl; size = sym z }
sized (got bs) (Err r) e = let z : ◌≡◌ {A = ℕ} 0 1 = cc in absurd (omega arith)
sized (no m q) (Ok n) e = let z : ◌≡◌ {A = ℕ} 0 1 = cc in absurd (omega arith)
sized (no m q) (Err r) e = let y : m ≡ number_of r.refusal = cc in let z : q ≡ r.place = cc in rw (y, z) refl

pub ready : (t : List ℕ) (quoted : Bool) (start e : ℕ) (o : List ℕ) (n : ℕ) → Long (content_of t quoted start e) n
    → (start ≤ e) × (e ≤ length t) → n ≤ length o → Ready t quoted start e o 0
ready t quoted start e o n l h f = record { bytes = l.bytes; is = l.is; within = h; fits = omega (arith, l.size) }

-- ---- the whole

module _ (t : List ℕ) (start e : ℕ) (quoted : Bool) (o : List ℕ) where
  abbrev fine : Bool
  fine = on_character t start && (on_character t e && leb start e)

  pub single-refused : (n : ℕ) → judged_text t ≡ no n 0 → Gives (content t start e quoted (length o)) o (no n 0) o
  unfolding content
  single-refused n d = rw d (record { answer_is = refl; output_is = refl })

  pub single-off : judged_text t ≡ got tt → fine ≡ false → Gives (content t start e quoted (length o)) o (no bad_text 0) o
  unfolding content
  single-off d f = rw (d, f) (record { answer_is = refl; output_is = refl })

  pub single-fitted : judged_text t ≡ got tt → fine ≡ true → fitted (content_of t quoted start e) (length o) ≡ content t start e quoted (length o)
  unfolding content
  single-fitted d f = rw (d, f) refl
