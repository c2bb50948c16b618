-- One tag: how it is read, the tag that its record stands for, and the range of its kind.
-- Assumes nothing.
use Prim.Native.Nat.{ℕ, ◌≤◌, ◌<◌}
use mathlib.Core.List.{List}
use native.Mathlib.Omega.{arith}
use Rattle.form.specs.Form.{Form}
use Rattle.form.specs.Tree.{Tag, byte, short, int, long, float, double, byte_array, string, list, compound, int_array, long_array, kind_of}
use Rattle.form.specs.Table.{value_by, tags_of, entries_of}
use Rattle.form.specs.Reading.{One, Reader, payload_by, inside_at}

-- the tag that a record stands for
abbrev pub tag_of : Form → List ℕ → One → Tag
tag_of form doc x = value_by form doc x.head (tags_of form doc x.inner) (entries_of form doc x.inner)

-- reads one payload, where so many containers may still stand within each other
abbrev pub read_at : Form → List ℕ → ℕ → ℕ → Reader
read_at form doc room d = payload_by form doc room (inside_at form doc room d)

-- a tag's id is one of twelve
pub kind-range : (t : Tag) → (0 < kind_of t) × (kind_of t ≤ 12)
unfolding kind_of
kind-range (byte v) = omega arith
kind-range (short v) = omega arith
kind-range (int v) = omega arith
kind-range (long v) = omega arith
kind-range (float b) = omega arith
kind-range (double b) = omega arith
kind-range (byte_array vs) = omega arith
kind-range (string s) = omega arith
kind-range (list ts) = omega arith
kind-range (compound es) = omega arith
kind-range (int_array vs) = omega arith
kind-range (long_array vs) = omega arith
