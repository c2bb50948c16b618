-- The examples of request [11] hold by computing.
-- Assumes nothing.
use mathlib.Core.Path.{refl}
use Rattle.form.specs.Numbers.{value, digits}
use Rattle.form.specs.Spans.{same}
use Rattle.form.specs.Decoding.{two_of, three_of, unit_of, pair_of, scalar_of, walk, verdict_by}
use Rattle.form.specs.Tree.{kind_of, many}
use Rattle.form.specs.Layout.{ints_bytes_in, payload_in, element_bytes_in, entry_bytes_in, layout_in}
use Rattle.form.specs.Table.{size, width, ◌⊕◌, width_of, ints_at, value_by, tags_of, entries_of}
use Rattle.form.specs.Tables.{first_kind}
use Rattle.form.specs.Reading.{has_name, byte_at, bytes_at, number_at, string_at, count_at, array_at, leaf_at, leaf_one, list_head_at}
use Rattle.form.specs.Reading.{entry_at, elements, entries, list_at, compound_at, container_at, payload_by, inside_at, document_at}
use Rattle.form.specs.Cut.{kept_elements, kept_entries, begun_at, kept_of, rescued}
use Rattle.snbt_form.specs.Lexing.{hex_of}
use Rattle.demands.specs.Marked.{ascii, bytes_in}
use Rattle.demands.specs.Cuts.{examples, AreCutExamples}

pub cut-examples : AreCutExamples
unfolding examples value digits same kind_of many first_kind
    two_of three_of unit_of pair_of scalar_of walk verdict_by
    ints_bytes_in payload_in element_bytes_in entry_bytes_in layout_in size width ◌⊕◌ width_of value_by tags_of entries_of ints_at
    has_name byte_at bytes_at number_at string_at count_at array_at leaf_at leaf_one list_head_at entry_at
    elements entries list_at compound_at container_at payload_by inside_at document_at
    kept_elements kept_entries begun_at kept_of rescued hex_of ascii bytes_in
cut-examples = refl
