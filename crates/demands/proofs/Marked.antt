-- The marked records hold by computing.
-- Assumes nothing.
use mathlib.Core.Path.{refl}
use lib.Ieee.{to_bits, of_int, round}
use Rattle.form.specs.Numbers.{value, digits}
use Rattle.form.specs.Spans.{same}
use Rattle.form.specs.Strings.{unit_bytes, scalar_bytes}
use Rattle.form.specs.Decoding.{two_of, three_of, four_of, unit_of, utf8_of, pair_of, scalar_of, walk, verdict_by}
use Rattle.form.specs.Tree.{kind_of, many}
use Rattle.form.specs.Layout.{ints_bytes_in, payload_in, element_bytes_in, entry_bytes_in, layout_in}
use Rattle.form.specs.Table.{size, width, ◌⊕◌, flat, width_of, value_by, tags_of, entries_of}
use Rattle.form.specs.Reading.{has_name, byte_at, bytes_at, number_at, string_at, count_at, array_at, leaf_at, leaf_one, list_head_at, entry_at}
use Rattle.form.specs.Reading.{elements, entries, list_at, compound_at, container_at, payload_by, inside_at, document_at}
use Rattle.form.specs.Turned.{recoded, map_tag}
use Rattle.form.specs.Writing.{string_fine, payload_fine, judged, written}
use Rattle.form.specs.Paths.{one_then, some_tail, fits, tag_paths, item_paths, entry_paths, paths, which, matches}
use Rattle.form.specs.Query.{step_by, step_at, steps_at, spelt, shallow, asked}
use Rattle.snbt_form.specs.Numbers.{has, before, behind, digits as decimalDigits, worth, whole_of, whole_number, decimal_of, decimal_number, number}
use Rattle.snbt_form.specs.Lexing.{among, after, slurp, word, hex_of, hexes, escape_of, quoted_by, quoted, skip_by, skip, unquoted_at}
use Rattle.snbt_form.specs.Lexing.{quoted_at, token_by, token_at, judged_text, lexed, front_of, scalars_by, content_of, content}
use Rattle.snbt_form.specs.Text.{known, due, following, string_of, scalar_tag, scalar_value, ints_by, array_at as textArrayAt, elements_by, list_from, list_at as textListAt, square_at}
use Rattle.snbt_form.specs.Text.{key_of, colon_at, close_at, entry_at as textEntryAt, entries_by, compound_at as textCompoundAt, value_by as textValueBy, value_at, parsed}
use Rattle.demands.specs.Marked.{ascii, bytes_in, records, AreMarked}

pub marked : AreMarked
unfolding records value same two_of three_of unit_of pair_of scalar_of walk verdict_by size width ◌⊕◌ flat width_of has_name byte_at bytes_at number_at string_at
    count_at array_at leaf_at leaf_one list_head_at entry_at elements entries list_at compound_at container_at payload_by inside_at document_at value_by tags_of
    entries_of one_then some_tail fits tag_paths item_paths entry_paths paths which matches step_by step_at steps_at spelt shallow asked to_bits of_int round
    digits unit_bytes scalar_bytes four_of utf8_of kind_of many ints_bytes_in payload_in element_bytes_in entry_bytes_in layout_in ascii bytes_in has before behind
    decimalDigits worth whole_of whole_number decimal_of decimal_number number among after slurp word hex_of hexes escape_of quoted_by quoted skip_by skip
    unquoted_at quoted_at token_by token_at judged_text lexed front_of scalars_by content_of content known due following string_of scalar_tag scalar_value ints_by
    textArrayAt elements_by list_from textListAt square_at key_of colon_at close_at textEntryAt entries_by textCompoundAt textValueBy value_at parsed
    recoded map_tag string_fine payload_fine judged written
marked = refl
