-- The examples in the pocket edition's form hold by computing.
-- Assumes nothing.
use mathlib.Core.Path.{refl}
use Rattle.form.specs.Numbers.{value, digits}
use Rattle.form.specs.Spans.{same}
use Rattle.form.specs.Strings.{unit_bytes, scalar_bytes, utf8_bytes}
use Rattle.form.specs.Decoding.{two_of, three_of, four_of, unit_of, pair_of, scalar_of, utf8_of, walk, verdict_by}
use Rattle.form.specs.Tree.{kind_of, many}
use Rattle.form.specs.Layout.{ints_bytes_in, payload_in, layout_in}
use Rattle.form.specs.Table.{size, width, ◌⊕◌, flat, width_of, ints_at, value_by, tags_of}
use Rattle.form.specs.Reading.{has_name, byte_at, bytes_at, number_at, string_at, count_at, array_at, leaf_at, leaf_one, list_head_at, entry_at}
use Rattle.form.specs.Reading.{elements, entries, list_at, compound_at, container_at, payload_by, inside_at, document_at}
use Rattle.form.specs.Turned.{chars_by, chars_in, recoded, map_tag}
use Rattle.form.specs.Writing.{string_fine, payload_fine, judged, written}
use Rattle.form.specs.Paths.{one_then, some_tail, fits, tag_paths, paths, which, matches}
use Rattle.form.specs.Query.{step_by, step_at, steps_at, spelt, shallow, asked}
use Rattle.snbt_form.specs.Lexing.{hex_of}
use Rattle.demands.specs.Marked.{ascii, bytes_in}
use Rattle.demands.specs.Pocket.{conversions, AreConversionExamples, tries, ArePocketExamples}

pub pocket-examples : ArePocketExamples
unfolding tries value digits same two_of three_of four_of unit_of utf8_of walk verdict_by kind_of many ints_bytes_in payload_in layout_in
    size width ◌⊕◌ flat width_of ints_at value_by tags_of has_name byte_at bytes_at number_at string_at count_at array_at leaf_at leaf_one list_head_at entry_at
    elements entries list_at compound_at container_at payload_by inside_at document_at recoded map_tag string_fine payload_fine judged written
    one_then some_tail fits tag_paths paths which matches step_by step_at steps_at spelt shallow asked hex_of ascii bytes_in
pocket-examples = refl

pub conversion-examples : AreConversionExamples
unfolding conversions value digits same unit_bytes scalar_bytes utf8_bytes two_of three_of four_of unit_of pair_of scalar_of utf8_of walk verdict_by kind_of many
    ints_bytes_in payload_in layout_in size width ◌⊕◌ flat width_of ints_at value_by tags_of has_name byte_at bytes_at number_at string_at count_at array_at leaf_at leaf_one
    list_head_at entry_at elements entries list_at compound_at container_at payload_by inside_at document_at chars_by chars_in recoded map_tag string_fine payload_fine
    judged written hex_of ascii bytes_in
conversion-examples = refl
