-- Rule 8 and the conversion of [2]: what writing a table gives, in the form of its document or in another. The records are judged in file
-- order, each by name (12, 4, 12 as it is written, 6), depth (7), kind (11) and string payload (12, 4, 12 as it is written); then the layout
-- of the document that they stand for, where there is room (13). A 4 is answered at the character, with the record beside it (02, [3]). Rule 8
-- itself is `stays java`: a string that is written as it is can't be too long for its second 12.
-- Assumes nothing.
use Rattle.std.specs.Prelude.{ℕ, ◌+◌, ◌-◌, ◌≡◌, List, Bool, true, false, not, ◌||◌, length, ltb, leb, eqb}
use Rattle.form.specs.Answer.{Out, got, no, ◌>>◌, guard, pick, Count, counted, failed, bad_string, name_twice, too_deep, over_limit, no_table, mixed_list, long_string, output_full, depth_limit, string_limit}
use Rattle.form.specs.Form.{Way}
use Rattle.form.specs.Spans.{part, over}
use Rattle.form.specs.Decoding.{good, bad, verdict_in, well_formed_in}
use Rattle.form.specs.Table.{Head, Forest, none, node, size, ◌⊕◌, head_of, holds, value_of}
use Rattle.form.specs.Tables.{IsTable, Within}
use Rattle.form.specs.Reading.{has_name}
use Rattle.form.specs.Layout.{layout_in}
use Rattle.form.specs.Turned.{recoded, turned}

module _ (way : Way) (doc : List ℕ) where
  -- A name or a string payload of record n: its length fits a u16 (12), it is well formed (4), and its length fits a u16 as it is written (12).
  unfoldable pub string_fine : ℕ → ℕ → ℕ → Out (Unit {0})
  string_fine start size n = do
    guard (leb size string_limit) long_string n
    guard (well_formed_in way.from.strings (part doc start size)) bad_string n
    guard (leb (length (recoded way (part doc start size))) string_limit) long_string n

  -- The string payload of a record, if it has one.
  unfoldable pub payload_fine : Head → ℕ → Out (Unit {0})
  payload_fine h n = elim (eqb h.kind 8) [ true ↦ string_fine h.start h.size n | false ↦ got tt ]

  -- The records side by side and those in them, from record n on. `left` is how many containers may still stand within each other, `list`
  -- says whether the records are elements of a list, of kind k, and `earlier` are the records before them.
  unfoldable pub judged : ℕ → Bool → ℕ → Forest → ℕ → Forest → Out (Unit {0})
  judged left list k earlier n none = got tt
  judged left list k earlier n (node h inner later) = do
    string_fine h.name h.name_length n
    guard (list || not (has_name doc (part doc h.name h.name_length) earlier)) name_twice n
    guard (not (holds h.kind) || ltb 0 left) too_deep n
    guard (not list || eqb h.kind k) mixed_list n
    payload_fine h n
    judged (left - 1) (eqb h.kind 9) h.list_kind none (n + 1) inner
    judged left list k (earlier ⊕ node h inner none) (n + 1 + size inner) later

  -- What writing a root's record and the records in it gives, with so much room.
  unfoldable pub written : Head → Forest → ℕ → Out (List ℕ)
  written h inner room = do
    judged depth_limit false 0 none 0 (node h inner none)
    guard (leb (length (layout_in way.to (turned way (value_of way.from doc h inner)))) room) output_full 0
    got (layout_in way.to (turned way (value_of way.from doc h inner)))

  -- Refusal 4's place in a record of which 4 is due ([3]): where in the document the first sequence that can't be read begins, of its
  -- name or, if that is well formed, of its string payload.
  unfoldable pub bad_place : Head → ℕ
  bad_place h = elim (verdict_in way.from.strings (part doc h.name h.name_length)) [
    | bad k ↦ h.name + k
    | good ↦ elim (verdict_in way.from.strings (part doc h.start h.size)) [ bad k ↦ h.start + k | good ↦ 0 ]
  ]

  -- What a write of the table t answers: the number of bytes written; or the refusal where it was judged, but 4 at the character, with the
  -- record beside it ([3]).
  abbrev pub answer_of : List ℕ → Out (List ℕ) → Count
  answer_of t (got bs) = counted (length bs)
  answer_of t (no m n) = pick (eqb m bad_string) (failed m (bad_place (head_of t n)) n) (failed m n 0)

-- How many bytes were written.
abbrev pub length_of : Out (List ℕ) → Out ℕ
length_of (got bs) = got (length bs)
length_of (no n p) = no n p

-- The output after a write: the bytes from 0 on and the rest as it was; after a refusal unchanged.
abbrev pub output_after : Out (List ℕ) → List ℕ → List ℕ
output_after (got bs) o = over o 0 bs
output_after (no n p) o = o

-- The answer and the output are those of w, whose refusals need nothing beside them.
pub record Gives (w : Out (List ℕ)) (o : List ℕ) (answer : Out ℕ) (o' : List ℕ) : Type 0 where
  pub answer_is : answer ≡ length_of w
  pub output_is : o' ≡ output_after w o

-- The answer and the output of a write of the table t are those of w.
pub record WriteGives (way : Way) (doc t : List ℕ) (w : Out (List ℕ)) (o : List ℕ) (answer : Count) (o' : List ℕ) : Type 0 where
  pub answer_is : answer ≡ answer_of way doc t w
  pub output_is : o' ≡ output_after w o

-- The promise of a write: a limit first (9), then whether the words form a table (10), then what its records give.
pub record WriteIs (way : Way) (doc t o : List ℕ) (answer : Count) (o' : List ℕ) : Type 0 where
  pub large : (Within (length doc) t → ⊥) → WriteGives way doc t (no over_limit 0) o answer o'
  pub unfit : Within (length doc) t → (IsTable (length doc) t → ⊥) → WriteGives way doc t (no no_table 0) o answer o'
  pub fit : Within (length doc) t → (i : IsTable (length doc) t) → WriteGives way doc t (written way doc i.head i.inner (length o)) o answer o'
