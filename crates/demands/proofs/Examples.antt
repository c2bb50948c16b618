-- The worked examples hold by computing.
-- Assumes nothing.
use mathlib.Core.Path.{refl}
use Rattle.form.specs.Numbers.{value, digits}
use Rattle.form.specs.Strings.{unit_bytes, scalar_bytes, utf8_bytes}
use Rattle.form.specs.Decoding.{two_of, three_of, four_of, unit_of, utf8_of, pair_of, scalar_of, walk, verdict_by}
use Rattle.form.specs.Tree.{kind_of}
use Rattle.form.specs.Layout.{entry_bytes_in, layout_in}
use Rattle.form.specs.Table.{size, width, flat, value_by, entries_of}
use Rattle.form.specs.Reading.{has_name, byte_at, bytes_at, number_at, string_at, leaf_at, leaf_one, entry_at, entries, compound_at, container_at, payload_by, inside_at, document_at}
use Rattle.form.specs.Turned.{recoded, map_tag}
use Rattle.form.specs.Writing.{string_fine, payload_fine, judged, written}
use Rattle.snbt_form.specs.Lexing.{hex_of}
use Rattle.demands.specs.Marked.{ascii, bytes_in}
use Rattle.demands.specs.Examples.{examples, AreWorked}

pub worked : AreWorked
unfolding examples value digits kind_of
    unit_bytes scalar_bytes utf8_bytes two_of three_of four_of unit_of utf8_of pair_of scalar_of walk verdict_by
    entry_bytes_in layout_in size width flat value_by entries_of
    has_name byte_at bytes_at number_at string_at leaf_at leaf_one entry_at entries compound_at container_at payload_by inside_at document_at
    recoded map_tag string_fine payload_fine judged written hex_of ascii bytes_in
worked = refl
