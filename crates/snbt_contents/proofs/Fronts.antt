-- What a call's answer says of the front of a content, by the case that a `match` took of it.
-- Assumes nothing.
use Prim.Native.Nat.{ℕ, ◌+◌, ◌-◌, ◌≤◌, ◌<◌}
use mathlib.Core.Path.{◌≡◌, refl}
use mathlib.Core.Bool.{Bool, true, false, ◌&&◌}
use mathlib.Core.List.{List}
use lib.Dec.{eqb}
use lib.ListN.{length, get_or}
use Rattle.form.specs.Spans.{part}
use Rattle.form.specs.Decoding.{utf8_of}
use Rattle.snbt_form.specs.Lexing.{escape_of, escaped, character_of, front_of}
use Rattle.snbt_quotes.proofs.Parts.{part-first}

module _ (t : List ℕ) (i e : ℕ) (h : i < e) (k : e ≤ length t) where
  -- a backslash within quotes
  pub front-escape : (q : Bool) → (q && eqb (get_or t i 0) 92) ≡ true → escaped (escape_of (part t (i + 1) (e - (i + 1))) i) i ≡ front_of q (part t i (e - i)) i
  unfolding front_of
  front-escape q z = rw (part-first t i e h k, z) refl

  -- anything else
  pub front-other : (q : Bool) → (q && eqb (get_or t i 0) 92) ≡ false → character_of (utf8_of (part t i (e - i))) ≡ front_of q (part t i (e - i)) i
  unfolding front_of
  front-other q z = rw (part-first t i e h k, z) refl
