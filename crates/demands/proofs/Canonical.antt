-- The layout that a writer gives is a layout: by recursion on the tree.
-- Assumes nothing.
use mathlib.Core.Path.{refl}
use native.Mathlib.Omega.{arith}
use Rattle.form.specs.Form.{Form}
use Rattle.form.specs.Tree.{Tag, Tags, Entries, byte, short, int, long, float, double, byte_array, string, list, compound, int_array, long_array, nil, more, ended, entry}
use Rattle.form.specs.Layout.{ListId, list_id, PayloadIn, ElementsIn, EntryBytesIn, payload_in, element_bytes_in, entry_bytes_in}

-- the id that a writer gives a list is one that it may carry
list-id : (ts : Tags) → ListId ts (list_id ts)
list-id nil = omega arith
list-id (more t ts) = refl

mutual
  unfolding PayloadIn payload_in

  pub payload-laid : (form : Form) (t : Tag) → PayloadIn form t (payload_in form t)
  payload-laid form (byte v) = refl
  payload-laid form (short v) = refl
  payload-laid form (int v) = refl
  payload-laid form (long v) = refl
  payload-laid form (float b) = refl
  payload-laid form (double b) = refl
  payload-laid form (byte_array vs) = refl
  payload-laid form (string s) = refl
  payload-laid form (list ts) = (list_id ts, element_bytes_in form ts, list-id ts, elements_laid form ts, refl)
  payload-laid form (compound es) = entries-laid form es
  payload-laid form (int_array vs) = refl
  payload-laid form (long_array vs) = refl

  pub elements_laid : (form : Form) (ts : Tags) → ElementsIn form ts (element_bytes_in form ts)
  elements_laid form nil = refl
  elements_laid form (more t ts) = (payload_in form t, element_bytes_in form ts, payload-laid form t, elements_laid form ts, refl)

  pub entries-laid : (form : Form) (es : Entries) → EntryBytesIn form es (entry_bytes_in form es)
  entries-laid form ended = refl
  entries-laid form (entry n t es) = (payload_in form t, entry_bytes_in form es, payload-laid form t, entries-laid form es, refl)
