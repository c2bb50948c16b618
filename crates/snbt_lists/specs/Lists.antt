-- What the contracts of lists up to their elements cite (rules 14 and 15).
-- Assumes nothing.
use Rattle.std.specs.Prelude.{ℕ, suc, ◌+◌, ◌≤◌, ◌<◌, ◌≡◌, List, length, Option, Some, None, Result, Ok, Err}
use Rattle.form.specs.Refusals.{number_of}
use Rattle.form.specs.declared.refusals.Refused.{Refused}
use Rattle.form.specs.Answer.{Out, got, no, ◌>>=◌}
use Rattle.form.specs.Tree as tree
use Rattle.form.specs.Tree.{kind_of}
use Rattle.snbt_form.specs.Lexing.{later, first, TokenData, Lexed, found, ended}
use Rattle.snbt_form.specs.Text.{Value, Row, Reads, letter_width, list_at, elements_by, square_at, array_at}
use Rattle.snbt_placing.specs.Done.{Wide}
use Rattle.snbt_due.specs.Due.{value_from}
use Rattle.snbt_lists.specs.declared.NextElement.{NextElement}
use Rattle.snbt_lists.specs.declared.Opened.{Opened}

-- ---- behind an element

-- What is read behind an element of kind k: a value at m, and then the elements behind it.
abbrev pub element_and : List ℕ → ℕ → ℕ → Reads → ℕ → ℕ → ℕ → Out Row
element_and t room f val k m u = do
  v ← value_from t room val later k m u
  r ← elements_by t room f val k v.next v.used
  got (record { tags = tree.more v.tag r.tags; next = r.next; used = r.used })

-- What stands behind an element that ends at p: the end, or a comma, behind which val reads the next one.
abbrev pub ElementIs : List ℕ → ℕ → Result NextElement Refused → Type 0
ElementIs t p (Ok (NextElement.End m)) =
    ((room f : ℕ) (val : Reads) (k u : ℕ) → elements_by t room (suc f) val k p u ≡ got (record { tags = tree.nil; next = m; used = u })) × (p < m) × (m ≤ length t)
ElementIs t p (Ok (NextElement.Is m)) =
    ((room f : ℕ) (val : Reads) (k u : ℕ) → elements_by t room (suc f) val k p u ≡ element_and t room f val k m u) × (p < m) × (m ≤ length t)
ElementIs t p (Err e) = (room f : ℕ) (val : Reads) (k u : ℕ) → elements_by t room (suc f) val k p u ≡ no (number_of e.refusal) e.place

-- ---- what a `[` opens

-- The width that a token announces is the definition's; where it announces none, that is 0.
abbrev pub LetterIs : List ℕ → TokenData → Option ℕ → Type 0
LetterIs t d (Some w) = ((room : ℕ) → letter_width t room d.token ≡ w) × Wide w
LetterIs t d None = (room : ℕ) → letter_width t room d.token ≡ 0

-- A list's `[` is taken, or refused whatever stands behind it.
abbrev pub ListAdmitted : ℕ → ℕ → ℕ → ℕ → Result (Unit {0}) Refused → Type 0
ListAdmitted left room brace u (Ok _) = (0 < left) × (u + 5 ≤ room)
ListAdmitted left room brace u (Err e) = (t : List ℕ) (val : Reads) (x : Lexed) → list_at t room left val brace x u ≡ no (number_of e.refusal) e.place

-- The empty list, which takes five bytes.
abbrev pub empty_at : ℕ → ℕ → Value
empty_at m u = record { tag = tree.list tree.nil; next = m; used = u + 5 }

-- The elements behind the first one, which sets the kind.
abbrev pub rest_of : List ℕ → ℕ → Reads → Value → Out Value
rest_of t room val v = do
  r ← elements_by t room (suc (length t)) val (kind_of v.tag) v.next v.used
  got (record { tag = tree.list (tree.more v.tag r.tags); next = r.next; used = r.used })

-- A list whose first token was taken.
abbrev pub ListedIs : ℕ → ℕ → ℕ → TokenData → ℕ → ℕ → Result Opened Refused → Type 0
ListedIs room left brace d n u (Ok (Opened.Array w m)) = ⊥
ListedIs room left brace d n u (Ok (Opened.Empty m)) =
    ((t : List ℕ) (val : Reads) → list_at t room left val brace (found d n) u ≡ got (empty_at m u)) × (u + 5 ≤ room) × (m ≡ n)
ListedIs room left brace d n u (Ok Opened.First) =
    ((t : List ℕ) (val : Reads) → list_at t room left val brace (found d n) u ≡ (val 0 d n (u + 5) >>= rest_of t room val)) × (0 < left) × (u + 5 ≤ room)
ListedIs room left brace d n u (Err e) = (t : List ℕ) (val : Reads) → list_at t room left val brace (found d n) u ≡ no (number_of e.refusal) e.place

-- A list whose text ends behind the `[`.
abbrev pub UnmatchedIs : ℕ → ℕ → ℕ → ℕ → Result Opened Refused → Type 0
UnmatchedIs room left brace u (Ok _) = ⊥
UnmatchedIs room left brace u (Err e) = (t : List ℕ) (val : Reads) (p : ℕ) → list_at t room left val brace (ended p) u ≡ no (number_of e.refusal) e.place

-- An array, a list that is empty, a list whose first element is due at p, or a refusal; u bytes are used, `left` containers left.
abbrev pub OpenedIs : List ℕ → ℕ → ℕ → ℕ → ℕ → ℕ → Result Opened Refused → Type 0
OpenedIs t room left brace p u (Ok (Opened.Array w m)) =
    ((val : Reads) → square_at t room left val brace p u ≡ array_at t room w brace m u) × Wide w × (p ≤ m) × (m ≤ length t)
OpenedIs t room left brace p u (Ok (Opened.Empty m)) =
    ((val : Reads) → square_at t room left val brace p u ≡ got (empty_at m u)) × (u + 5 ≤ room) × (p < m) × (m ≤ length t)
OpenedIs t room left brace p u (Ok Opened.First) =
    ((val : Reads) → square_at t room left val brace p u ≡ (value_from t room val first 0 p (u + 5) >>= rest_of t room val)) × (0 < left) × (u + 5 ≤ room)
OpenedIs t room left brace p u (Err e) = (val : Reads) → square_at t room left val brace p u ≡ no (number_of e.refusal) e.place
