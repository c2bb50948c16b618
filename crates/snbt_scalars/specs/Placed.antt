-- What is left to ask of a scalar whose tag is known, in the order of rule 15.
-- Assumes nothing.
use Rattle.std.specs.Prelude.{ℕ, ◌+◌, Bool, ◌||◌, List, leb, eqb, ℤ, length}
use Rattle.form.specs.Answer.{Out, got, ◌>>=◌, ◌>>◌, guard, mixed_list, output_full}
use Rattle.form.specs.Tree as tree
use Rattle.form.specs.Tree.{Tag, kind_of}
use Rattle.form.specs.Layout.{payload}
use Rattle.snbt_form.specs.Text.{Value, ranged, string_of}

-- What is left to ask of a scalar whose tag is known, as `scalar_value` asks it: its kind (11), then its room (13).
unfoldable pub placed : ℕ → ℕ → Tag → ℕ → ℕ → ℕ → Out Value
placed room want tag p n u = do
  guard (eqb want 0 || eqb (kind_of tag) want) mixed_list p
  guard (leb (u + length (payload tag)) room) output_full p
  got (record { tag = tag; next = n; used = u + length (payload tag) })

-- A whole number of w bytes: its range (19), and then the same of its tag.
unfoldable pub whole_placed : ℕ → ℤ → ℕ → ℕ → Tag → ℕ → ℕ → ℕ → Out Value
whole_placed w v room want tag p n u = do
  k ← ranged w v tag p
  placed room want k p n u

-- A string of the text, its content known (12), and then the same of it.
unfoldable pub string_placed : List ℕ → Bool → ℕ → ℕ → ℕ → ℕ → ℕ → ℕ → ℕ → Out Value
string_placed t q a e room want p n u = do
  s ← string_of t room q a e p
  placed room want (tree.string s) p n u
