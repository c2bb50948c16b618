-- The measures of the cycle: the containers left fall from a container to what is in it, and between two of them the calls go from
-- `parse_entries` to `parse_entry`, from `parse_entry` and `parse_elements` to `parse_value`, and from `parse_value` to
-- `parse_compound_tag` and `parse_list`. The invariants: the elements or entries so far, then what the definition says of the rest, are the whole.
-- Assumes nothing.
use Rattle.std.proofs.Common.{◌≡◌, ◌+◌, ◌*◌, ◌-◌, length}
use Rattle.snbt_tokens.specs.Answers.{last_is}
use Rattle.snbt.proofs.Listing.{Listing}
use Rattle.snbt.proofs.Entering.{Entering}
use Rattle.snbt.proofs.values.+parse_compound_tag_parse_elements_parse_entries_parse_entry_parse_list_parse_value.Given as goal

abbrev pub decreases-parse_compound_tag : goal.decreases-parse_compound_tag
decreases-parse_compound_tag l = 5 * l.left

abbrev pub decreases-parse_elements : goal.decreases-parse_elements
decreases-parse_elements l = 5 * l.left + 3

abbrev pub decreases-parse_entries : goal.decreases-parse_entries
decreases-parse_entries l = 5 * l.left + 4

abbrev pub decreases-parse_entry : goal.decreases-parse_entry
decreases-parse_entry l = 5 * l.left + 3

abbrev pub decreases-parse_list : goal.decreases-parse_list
decreases-parse_list l = 5 * l.left

abbrev pub decreases-parse_value : goal.decreases-parse_value
decreases-parse_value l = 5 * l.left + 1

abbrev pub invariant-parse_elements-loop-next : goal.invariant-parse_elements-loop-next
invariant-parse_elements-loop-next l =
    Listing l.text l.fn.out l.fn.keys l.kind l.start l.at l.top l.left l.out l.keys l.place l.used l.count × (length l.keys ≡ length l.fn.keys) × (length l.buffer ≡ length l.fn.buffer)

abbrev pub decreases-parse_elements-loop-next : goal.decreases-parse_elements-loop-next
decreases-parse_elements-loop-next l = length l.text - l.place

abbrev pub invariant-parse_entries-loop-index : goal.invariant-parse_entries-loop-index
invariant-parse_entries-loop-index l =
    Entering l.text l.fn.out l.fn.keys l.block l.next l.at l.left l.out l.keys l.place l.used l.top (last_is l.last)
    × (length l.keys ≡ length l.fn.keys) × (length l.buffer ≡ length l.fn.buffer)

abbrev pub decreases-parse_entries-loop-index : goal.decreases-parse_entries-loop-index
decreases-parse_entries-loop-index l = length l.text - l.place
