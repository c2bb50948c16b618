-- The measures of the cycle: the depth left falls from a container to what is in it, and between two depths the calls go from `read_list` to
-- `read_elements`, from `read_elements` and `read_compound` to `read_tag_body`, from `read_tag_body` to `read_larger_body`, and from
-- `read_larger_body` to `read_container`. The invariants: the records so far, then the elements or entries left, are the whole, if the
-- entries' names are told apart. The definition's bound on the entries left, `fuel`, is above the bytes left.
-- Assumes nothing.
use Rattle.std.proofs.Common.{ℕ, suc, ◌+◌, ◌*◌, ◌-◌, ◌≤◌, ◌<◌, ◌≡◌, length, List}
use Rattle.form.specs.Form.{Form, form_no}
use Rattle.form.specs.Table.{Forest, none}
use Rattle.form.specs.Reading.{Reader, payload_by, inside_at}
use Rattle.form.specs.Reading.{elements as elementsOf}
use Rattle.form.specs.Reading.{entries as entries_of}
use Rattle.form.proofs.Runs.{Sofar}
use Rattle.nbt_reader.proofs.Deferred.{Going}
use Rattle.nbt_reader.proofs.bodies.+read_compound_read_container_read_elements_read_larger_body_read_list_read_tag_body.Given as goal

abbrev pub decreases-read_compound : goal.decreases-read_compound
decreases-read_compound l = 5 * l.depth + 3

abbrev pub decreases-read_container : goal.decreases-read_container
decreases-read_container l = 5 * l.depth

abbrev pub decreases-read_elements : goal.decreases-read_elements
decreases-read_elements l = 5 * l.depth + 3

abbrev pub decreases-read_larger_body : goal.decreases-read_larger_body
decreases-read_larger_body l = 5 * l.depth + 1

abbrev pub decreases-read_list : goal.decreases-read_list
decreases-read_list l = 5 * l.depth + 4

abbrev pub decreases-read_tag_body : goal.decreases-read_tag_body
decreases-read_tag_body l = 5 * l.depth + 2

-- the reader of a payload, where so many containers may still stand within each other
abbrev pub read_of : Form → List ℕ → ℕ → ℕ → Reader
read_of form doc cap depth = payload_by form doc cap (inside_at form doc cap depth)

pub record ElementsRead (form : Form) (doc : List ℕ) (kind count at depth : ℕ) (t₀ : List ℕ) (cap above ix : ℕ) (t : List ℕ) (here next done : ℕ) : Type 0 where
  pub left : ℕ
  pub left-is : left + done ≡ count
  pub acc : Forest
  pub sofar : Sofar (elementsOf form doc (read_of form doc cap depth) count kind at ix) (elementsOf form doc (read_of form doc cap depth) left kind here next) acc t₀ t above ix next done
  pub on : at ≤ here
  pub at_le : here ≤ length doc
  pub n_le : next ≤ cap

abbrev pub invariant-read_elements-loop : goal.invariant-read_elements-loop
invariant-read_elements-loop l =
    ElementsRead (form_no l.form) l.doc l.kind l.count l.at l.depth l.fn.table l.cap l.above l.ix l.table l.here l.next l.counter

pub record EntriesRead (form : Form) (doc : List ℕ) (at depth : ℕ) (t₀ : List ℕ) (cap above ix : ℕ) (t : List ℕ) (here next count : ℕ) : Type 0 where
  pub fuel : ℕ
  pub enough : length doc < fuel + here
  pub acc : Forest
  pub going : Going doc (entries_of form doc (read_of form doc cap depth) (suc (length doc)) none at ix) (entries_of form doc (read_of form doc cap depth) fuel acc here next) acc t₀ t above ix next count
  pub on : at ≤ here
  pub at_le : here ≤ length doc
  pub n_le : next ≤ cap
  pub count-le : count ≤ here

abbrev pub invariant-read_compound-loop-e : goal.invariant-read_compound-loop-e
invariant-read_compound-loop-e l =
    EntriesRead (form_no l.form) l.doc l.at l.depth l.fn.table l.cap l.above l.ix l.table l.here l.next l.count

abbrev pub decreases-read_compound-loop-e : goal.decreases-read_compound-loop-e
decreases-read_compound-loop-e l = length l.doc - l.here
