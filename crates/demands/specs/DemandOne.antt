-- Demand 1, said of the calls that people link: every input gets an answer, and no other than this one. No call has a condition on its
-- input, so each promise holds for every input; here stands what the promises have in common.
-- The proof is in proofs/DemandOne.antt.
-- Assumes nothing.
use Rattle.std.specs.Prelude.{ℕ, ◌*◌, ◌≡◌, ◌⊎◌, List, [], ◌∷◌, true, false, length, drop, get_or, replicate}
use Rattle.form.specs.Form.{Form, Way, Rule}
use Rattle.form.specs.Answer.{bad_string, over_limit, more_matches}
use Rattle.form.specs.Moved.{Edition}
use Rattle.snbt_form.specs.Lexing.{among}
use Rattle.calls.specs.Calls.{StringCalled, ReadCalled, TableCalled, WriteCalled, RescueCalled, WriteLinesCalled, ReadLinesCalled, MoveCalled, QueryCalled, TokenCalled}
use Rattle.calls.specs.Calls.{ContentCalled, ParseCalled}
use Rattle.demands.specs.Reading.{Bytes}
use Rattle.demands.specs.Numbers.{read_numbers, write_numbers, rescue_numbers, write_lines_numbers, read_lines_numbers, move_numbers, query_numbers, token_numbers, content_numbers, parse_numbers}

-- The eight words accept: the first two are 0.
abbrev pub Accepts : List ℕ → Type 0
Accepts a = (ws : List ℕ) × (a ≡ 0 ∷ 0 ∷ ws) × (length ws ≡ 6)

-- The eight words refuse: a number of those that the call can give, a place, and all else 0 but for what stands beside some numbers: the
-- true count beside 24, the record beside a write's 4 (02, [3]).
pub record Refuses (numbers besides a : List ℕ) : Type 0 where
  pub number : ℕ
  pub place : ℕ
  pub beside : ℕ
  pub is : a ≡ number ∷ place ∷ beside ∷ 0 ∷ 0 ∷ 0 ∷ 0 ∷ 0 ∷ []
  pub one_of : among numbers number ≡ true
  pub plain : among besides number ≡ false → beside ≡ 0

-- Of some memory only the first k bytes or words may have changed.
pub record Changed (k : ℕ) (old new : List ℕ) : Type 0 where
  pub long : length new ≡ length old
  pub rest : drop k new ≡ drop k old

-- What demand 1 says of a call whose promise P speaks of the memory that it may change, and of its answer: there is one outcome; it
-- accepts, and then changes the first `many` bytes or words of what was lent and no others; or it refuses, with one of its numbers, something
-- beside it only in `besides`, and leaves `left` in the memory.
pub record Answers (P : List ℕ → List ℕ → Type 0) (numbers besides old left : List ℕ) (many : List ℕ → ℕ) : Type 0 where
  pub one : (m₁ m₂ a₁ a₂ : List ℕ) → P m₁ a₁ → P m₂ a₂ → (m₁ ≡ m₂) × (a₁ ≡ a₂)
  pub each : (m a : List ℕ) → P m a → (Accepts a × Changed (many a) old m) ⊎ (Refuses numbers besides a × (m ≡ left))

-- The promise of a call that is lent nothing but its answer.
abbrev pub Alone : (List ℕ → Type 0) → List ℕ → List ℕ → Type 0
Alone P m a = (m ≡ []) × P a

-- Refusals and what they leave: a refused read, of a document or of lines, zeroes the whole table, a refused parse the whole output, any
-- other changes nothing. On acceptance the words and bytes that the answer counts change, and no others. A rescue is lent three memories:
-- its output and its list of changes are as any call's, and its table ends as a read of the same document leaves it.
pub record DemandOne : Type 0 where
  pub read : (form : Form) (doc t : List ℕ) → Bytes doc → Answers (ReadCalled form doc t) read_numbers [] t (replicate (length t) 0) (λ a. 9 * get_or a 3 0)
  pub is_table : (d : ℕ) (t : List ℕ) → Answers (Alone (TableCalled d t)) (over_limit ∷ []) [] [] [] (λ a. 0)
  pub write : (way : Way) (doc t t' o : List ℕ) → Answers (WriteCalled way doc t t' o) write_numbers (bad_string ∷ []) o o (λ a. get_or a 2 0)
  pub write_table : (way : Way) (doc t t' o o' a : List ℕ) → WriteCalled way doc t t' o o' a → t' ≡ t
  pub rescue : (form : Form) (doc t t' o c c' : List ℕ) → Bytes doc → Answers (λ o' a. RescueCalled form doc t t' o o' c c' a) rescue_numbers (more_matches ∷ []) o o (λ a. get_or a 2 0)
  pub rescue_changes : (form : Form) (doc t t' o o' c : List ℕ) → Bytes doc → Answers (RescueCalled form doc t t' o o' c) rescue_numbers (more_matches ∷ []) c c (λ a. 3 * get_or a 3 0)
  pub rescue_table : (form : Form) (doc t t' o o' c c' a : List ℕ) → RescueCalled form doc t t' o o' c c' a → (t'' b : List ℕ) → ReadCalled form doc t t'' b → t' ≡ t''
  pub write_lines : (d : ℕ) (t o : List ℕ) → Answers (WriteLinesCalled d t o) write_lines_numbers [] o o (λ a. get_or a 2 0)
  pub read_lines : (s t : List ℕ) → Answers (ReadLinesCalled s t) read_lines_numbers [] t (replicate (length t) 0) (λ a. 9 * get_or a 2 0)
  pub move_lines : (e : Edition) (d : ℕ) (s o : List ℕ) → Answers (MoveCalled e d s o) move_numbers [] o o (λ a. get_or a 2 0)
  pub query : (form : Form) (doc t q l : List ℕ) → Answers (QueryCalled form doc t q l) query_numbers (more_matches ∷ []) l l (λ a. get_or a 2 0)
  pub token : (t : List ℕ) (start stops : ℕ) → Answers (Alone (TokenCalled t start stops)) token_numbers [] [] [] (λ a. 0)
  pub content : (t : List ℕ) (start e quoted : ℕ) (o : List ℕ) → Answers (ContentCalled t start e quoted o) content_numbers [] o o (λ a. get_or a 2 0)
  pub parse : (t o : List ℕ) → Answers (ParseCalled t o) parse_numbers [] o (replicate (length o) 0) (λ a. get_or a 3 0)
  pub check_string : (r : Rule) (n : ℕ) (s : List ℕ) → Answers (Alone (StringCalled r n s)) (n ∷ []) [] [] [] (λ a. 0)
