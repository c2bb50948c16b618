-- The measures of the cycle: the depth left falls from a container to what is in it, and between two depths the calls go from
-- `gather_elements` and `gather_compound` to `gather_tag_body`, and from there to `gather_larger_body`. The invariants: the records so far,
-- then what is left, are the whole, read and kept. The definition's bound on the entries left, `fuel`, is not reached, for that would be
-- another refusal than 1.
-- Assumes nothing.
use Rattle.std.proofs.Common.{ℕ, ◌+◌, ◌*◌, ◌-◌, ◌≤◌, ◌≡◌, length, List}
use Rattle.form.specs.Form.{Form, form_no}
use Rattle.form.specs.Table.{Forest}
use Rattle.form.specs.Reading.{room_of}
use Rattle.form.specs.Reading.{entries as entries_of}
use Rattle.form.specs.Cut.{begun_at, kept_entries}
use Rattle.nbt_gather.specs.Steps.{read_in, elements_in, entries_in, elements_kept, entries_kept}
use Rattle.nbt_gather.proofs.Runs.{Gathering}
use Rattle.nbt_gather.proofs.+gather_compound_gather_elements_gather_larger_body_gather_tag_body.Given as goal

abbrev pub decreases-gather_compound : goal.decreases-gather_compound
decreases-gather_compound l = 5 * l.depth + 3

abbrev pub decreases-gather_elements : goal.decreases-gather_elements
decreases-gather_elements l = 5 * l.depth + 3

abbrev pub decreases-gather_larger_body : goal.decreases-gather_larger_body
decreases-gather_larger_body l = 5 * l.depth + 1

abbrev pub decreases-gather_tag_body : goal.decreases-gather_tag_body
decreases-gather_tag_body l = 5 * l.depth + 2

pub record ElementsKept (form : Form) (doc : List ℕ) (kind count at depth : ℕ) (t₀ : List ℕ) (n : ℕ) (ls₀ t ls : List ℕ) (here next done : ℕ) : Type 0 where
  pub left : ℕ
  pub left_is : done + left ≡ count
  pub acc : Forest
  pub going : Gathering
      (elements_in form doc (length t₀) depth count kind at (n + 1)) (elements_in form doc (length t₀) depth left kind here next)
      (elements_kept form doc (length t₀) depth count kind at (n + 1)) (elements_kept form doc (length t₀) depth left kind here next)
      acc t₀ t ls₀ ls n (n + 1) next done
  pub on : at ≤ here
  pub at_le : here ≤ length doc
  pub n_le : next ≤ room_of (length t₀)

abbrev pub invariant-gather_elements-loop-done : goal.invariant-gather_elements-loop-done
invariant-gather_elements-loop-done l =
    ElementsKept (form_no l.form) l.doc l.kind l.count l.at l.depth l.fn.table l.n l.fn.lines l.table l.lines l.here l.next l.done

pub record EntriesKept (form : Form) (doc : List ℕ) (at depth : ℕ) (t₀ : List ℕ) (n : ℕ) (ls₀ t ls : List ℕ) (here next count : ℕ) : Type 0 where
  pub fuel : ℕ
  pub acc : Forest
  pub going : Gathering
      (entries_in form doc (length t₀) depth at (n + 1)) (entries_of form doc (read_in form doc (length t₀) depth) fuel acc here next)
      (entries_kept form doc (length t₀) depth at (n + 1)) (kept_entries form doc (read_in form doc (length t₀) depth) (begun_at form doc (room_of (length t₀)) depth) fuel here next)
      acc t₀ t ls₀ ls n (n + 1) next count
  pub on : at ≤ here
  pub at_le : here ≤ length doc
  pub n_le : next ≤ room_of (length t₀)

abbrev pub invariant-gather_compound-loop-entry : goal.invariant-gather_compound-loop-entry
invariant-gather_compound-loop-entry l =
    EntriesKept (form_no l.form) l.doc l.at l.depth l.fn.table l.n l.fn.lines l.table l.lines l.here l.next l.count

abbrev pub decreases-gather_compound-loop-entry : goal.decreases-gather_compound-loop-entry
decreases-gather_compound-loop-entry l = length l.doc - l.here
