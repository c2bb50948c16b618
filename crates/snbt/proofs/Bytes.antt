-- The bytes of lists and compounds as they grow, and where they stand in the output.
-- Assumes nothing.
use Prim.Native.Nat.{ℕ, suc, ◌+◌, ◌≤◌}
use mathlib.Core.Path.{◌≡◌, refl, sym, ap, subst, ◌∙◌}
use mathlib.Core.List.{List, [], ◌∷◌, ◌++◌, append_assoc, append-nil}
use native.Mathlib.Omega.{arith}
use lib.ListN.{length, take, drop, length-append}
use lib.Seq.{length-take-le, take-append-le, take-take}
use Rattle.form.specs.Numbers.{bytes_of}
use Rattle.form.specs.Spans.{over}
use Rattle.form.specs.Tree as tree
use Rattle.form.specs.Tree.{Tag, Tags, Entries, nil, more, ended, entry, kind_of, many}
use Rattle.form.specs.Layout.{payload, element_bytes, entry_bytes, string_bytes, element_bytes_in, entry_bytes_in, payload_in}
use Rattle.form.proofs.Digits.{digits-length}
use Rattle.form.proofs.Table.{over-over, over-before}
use Rattle.snbt_entries.specs.Entries.{Entered, stops, enters}
use Rattle.snbt.specs.Turns.{entered_bytes, before}

-- ---- tags behind tags

unfoldable pub ◌then◌ : Tags → Tags → Tags
◌then◌ nil b = b
◌then◌ (more t a) b = more t (◌then◌ a b)

pub then-nil : (a : Tags) → ◌then◌ a nil ≡ a
unfolding ◌then◌
then-nil nil = refl
then-nil (more t a) = ap (more t) (then-nil a)

pub then_one : (a : Tags) (t : Tag) (b : Tags) → ◌then◌ a (more t b) ≡ ◌then◌ (◌then◌ a (more t nil)) b
unfolding ◌then◌
then_one nil t b = refl
then_one (more s a) t b = ap (more s) (then_one a t b)

pub many-then : (a b : Tags) → many (◌then◌ a b) ≡ many a + many b
unfolding ◌then◌ many
many-then nil b = omega arith
many-then (more t a) b = omega (arith, many-then a b)

pub bytes-then : (a b : Tags) → element_bytes (◌then◌ a b) ≡ element_bytes a ++ element_bytes b
unfolding ◌then◌ element_bytes_in
bytes-then nil b = refl
bytes-then (more t a) b = ap (λ l. payload t ++ l) (bytes-then a b) ∙ sym (append_assoc (payload t) (element_bytes a) (element_bytes b))

pub bytes_one : (t : Tag) → element_bytes (more t nil) ≡ payload t
unfolding element_bytes_in
bytes_one t = append-nil (payload t)

-- ---- entries behind entries

unfoldable pub ◌and◌ : Entries → Entries → Entries
◌and◌ ended b = b
◌and◌ (entry n t a) b = entry n t (◌and◌ a b)

-- the entries without the end byte
unfoldable pub laid : Entries → List ℕ
laid ended = []
laid (entry n t a) = kind_of t ∷ string_bytes n ++ (payload t ++ laid a)

pub and-before : (a : Entries) (e : Entered) (b : Entries) → ◌and◌ a (before e b) ≡ ◌and◌ (◌and◌ a (before e ended)) b
unfolding ◌and◌
and-before ended (stops i n) b = refl
and-before ended (enters s v th) b = refl
and-before (entry n t a) e b = ap (entry n t) (and-before a e b)

pub laid-before : (a : Entries) (e : Entered) → laid (◌and◌ a (before e ended)) ≡ laid a ++ entered_bytes e
unfolding ◌and◌ laid
laid-before ended (stops i n) = refl
laid-before ended (enters s v th) = ap (λ l. kind_of v.tag ∷ (string_bytes s ++ l)) (append-nil (payload v.tag))
laid-before (entry n t a) e =
    ap (λ l. kind_of t ∷ (string_bytes n ++ (payload t ++ l))) (laid-before a e)
    ∙ ap (λ l. kind_of t ∷ (string_bytes n ++ l)) (sym (append_assoc (payload t) (laid a) (entered_bytes e)))
    ∙ ap (λ l. kind_of t ∷ l) (sym (append_assoc (string_bytes n) (payload t ++ laid a) (entered_bytes e)))

pub laid-ended : (a : Entries) → entry_bytes (◌and◌ a ended) ≡ laid a ++ (0 ∷ [])
unfolding ◌and◌ laid entry_bytes_in
laid-ended ended = refl
laid-ended (entry n t a) =
    ap (λ l. kind_of t ∷ (string_bytes n ++ (payload t ++ l))) (laid-ended a)
    ∙ ap (λ l. kind_of t ∷ (string_bytes n ++ l)) (sym (append_assoc (payload t) (laid a) (0 ∷ [])))
    ∙ ap (λ l. kind_of t ∷ l) (sym (append_assoc (string_bytes n) (payload t ++ laid a) (0 ∷ [])))

-- ---- what stands in the output

-- A name takes two bytes more than its own.
pub name-size : (s : List ℕ) → length (string_bytes s) ≡ 2 + length s
name-size s = length-append (bytes_of 2 (length s)) s ∙ ap (λ n. n + length s) (digits-length 2 (length s))

-- A list's head, written last, before its first element and the others.
pub list_over : (o o₁ o₂ o₃ : List ℕ) (at used kind count : ℕ) (t : Tag) (ts : Tags) → at + 5 + length (payload t) ≤ length o
    → o₁ ≡ over o (at + 5) (payload t) → used ≡ at + 5 + length (payload t) → o₂ ≡ over o₁ used (element_bytes ts)
    → kind ≡ kind_of t → count ≡ many ts → o₃ ≡ over o₂ at (kind ∷ bytes_of 4 (count + 1)) → o₃ ≡ over o at (payload (tree.list (more t ts)))
unfolding payload_in element_bytes_in many
list_over o o₁ o₂ o₃ at used kind count t ts fits e₁ u e₂ k n e₃ =
    let head = kind ∷ bytes_of 4 (count + 1) in
    let rest = payload t ++ element_bytes ts in
    let five : length head ≡ 5 = ap suc (digits-length 4 (count + 1)) in
    let a : o₂ ≡ over o (at + 5) rest = e₂ ∙ rw (e₁, u) (over-over o (at + 5) (payload t) fits (element_bytes ts)) in
    let b : over (over o (at + 5) rest) at head ≡ over o at (head ++ rest) =
    subst (λ (x : ℕ). over (over o (at + x) rest) at head ≡ over o at (head ++ rest)) five (over-before o at head rest (omega (arith, five))) in
    let c : count + 1 ≡ 1 + many ts = omega (arith, n) in
    e₃ ∙ ap (λ l. over l at head) a ∙ b ∙ rw (k, c) refl

-- An entry's id, written last, before its name and its value.
pub entry-over : (o o₁ o₂ o₃ : List ℕ) (at kind : ℕ) (s : List ℕ) (t : Tag) → at + 3 + length s + length (payload t) ≤ length o
    → o₁ ≡ over o (at + 1) (string_bytes s) → o₂ ≡ over o₁ (at + 3 + length s) (payload t)
    → kind ≡ kind_of t → o₃ ≡ over o₂ at (kind ∷ []) → o₃ ≡ over o at (kind_of t ∷ string_bytes s ++ payload t)
entry-over o o₁ o₂ o₃ at kind s t fits e₁ e₂ k e₃ =
    let two = name-size s in
    let p : at + 3 + length s ≡ at + 1 + length (string_bytes s) = omega (arith, two) in
    let a : o₂ ≡ over o (at + 1) (string_bytes s ++ payload t) =
    e₂ ∙ rw (e₁, p) (over-over o (at + 1) (string_bytes s) (omega (arith, two)) (payload t)) in
    e₃ ∙ ap (λ l. over l at (kind ∷ [])) a ∙ over-before o at (kind ∷ []) (string_bytes s ++ payload t) (omega arith) ∙ rw k refl

-- What is written from a place on leaves what stands before it.
pub take-over : (o : List ℕ) (at i : ℕ) (ws : List ℕ) → at ≤ i → i ≤ length o → take at (over o i ws) ≡ take at o
unfolding over
take-over o at i ws h l =
    let m : length (take i o) ≡ i = length-take-le i o l in
    take-append-le at (take i o) (ws ++ drop (i + length ws) o) (omega (arith, m)) ∙ take-take at i o h

pub list_kind : (ts : Tags) → 9 ≡ kind_of (tree.list ts)
unfolding kind_of
list_kind ts = refl

pub compound-kind : (es : Entries) → 10 ≡ kind_of (tree.compound es)
unfolding kind_of
compound-kind es = refl

pub list-size : (tag : Tag) (ts : Tags) → length (payload (tree.list (more tag ts))) ≡ 5 + (length (payload tag) + length (element_bytes ts))
unfolding payload_in element_bytes_in many
list-size tag ts =
    let n = 1 + many ts in
    omega (arith, length-append (kind_of tag ∷ bytes_of 4 n) (payload tag ++ element_bytes ts), digits-length 4 n, length-append (payload tag) (element_bytes ts))

pub entry-size : (s : List ℕ) (tag : Tag) → length (kind_of tag ∷ string_bytes s ++ payload tag) ≡ 3 + length s + length (payload tag)
entry-size s tag = omega (arith, length-append (string_bytes s) (payload tag), name-size s)

pub compound-bytes : (es : Entries) → payload (tree.compound es) ≡ entry_bytes es
unfolding payload_in
compound-bytes es = refl
