-- The theorems on the numbers of refusals, as specs/Numbers.antt states them.
-- Assumes nothing.
use Prim.Native.Nat.{ℕ, zero, suc, ◌+◌, ◌-◌}
use mathlib.Core.Bool.{Bool, true, false, not, ◌&&◌, ◌||◌, Bool-discrete}
use mathlib.Core.List.{List, [], ◌∷◌}
use mathlib.Core.Path.{◌≡◌, refl, sym, subst, ◌∙◌}
use native.Mathlib.Omega.{arith}
use native.Mathlib.Decide.{ℕ_discrete}
use lib.Dec.{ltb, leb, eqb}
use lib.ListN.{length}
use borrow.Author.Tests.{eqb-true}
use Rattle.form.specs.Form.{Form, Way}
use Rattle.form.specs.Answer.{Out, got, no, guard, ◌>>=◌, ◌>>◌, pick, Count, counted, failed, bad_string, depth_limit, record_limit, string_limit, step_limit}
use Rattle.form.specs.Spans.{part}
use Rattle.form.specs.Decoding.{well_formed_in}
use Rattle.form.specs.Layout.{layout_in}
use Rattle.form.specs.Turned.{recoded, turned}
use Rattle.form.specs.Table.{Head, Forest, none, node, size, ◌⊕◌, head_of, holds, value_of}
use Rattle.form.specs.Tables.{IsTable, Within}
use Rattle.form.specs.Reading.{has_name, byte_at}
use Rattle.form.specs.Writing.{string_fine, payload_fine, judged, written, bad_place, answer_of, length_of}
use Rattle.form.specs.Stored.{TextLine, table_lines, fitting, storing, lines_in, is_line, each_line, lines_read}
use Rattle.form.specs.Query.{blamed, step_by, step_at, steps_at, spelt, shallow, asked, Answered, matched, refused, within, count_of}
use Rattle.form.proofs.Outcomes.{both, in-each-case}
use Rattle.form.proofs.Strings.{well_formed-iff}
use Rattle.snbt_form.specs.Lexing.{among, on_character, judged_text, lexed, token_at, content_of, content}
use Rattle.snbt_form.proofs.Gives.{among-all, Gives, Any, gives-got, gives-no, gives-bind, gives-guard, gives-test, gives_then, gives-elim, gives-also, gives-number, gives_all}
use Rattle.snbt_form.proofs.Contents.{content-formed}
use Rattle.snbt_form.proofs.Tokens.{whole-any, token-held}
use Rattle.demands.specs.Numbers.{written_numbers, write_numbers, write_lines_numbers, read_lines_numbers, asked_numbers, within_numbers, query_numbers, token_numbers, content_numbers}
use Rattle.demands.specs.Numbers.{IsReadNumbers, IsWriteNumbers, IsWriteRefusals, IsWriteLinesRefusals, IsReadLinesNumbers, IsQueryNumbers, IsWithinNumbers, IsQueryRefusals}
use Rattle.demands.specs.Numbers.{IsTokenNumbers, IsContentNumbers, IsParseNumbers}
use Rattle.form.proofs.Answers.{of-no}
use Rattle.demands.proofs.Documents.{document-sound}
use Rattle.demands.proofs.Meant.{parsed-fine}

-- ---- reading

pub read-numbers : (form : Form) → IsReadNumbers form
read-numbers form doc bytes room n p e = (of-no e (document-sound form (well_formed-iff form.strings) doc room bytes)).number

-- ---- writing

module _ (way : Way) (doc : List ℕ) where
  string-any : (start len n : ℕ) → Gives written_numbers Any (string_fine way doc start len n)
  unfolding string_fine among
  string-any start len n = gives-guard (leb len string_limit) _ _ _ refl (λ _. gives-guard (well_formed_in way.from.strings (part doc start len)) _ _ _ refl
      (λ _. gives-test (leb (length (recoded way (part doc start len))) string_limit) _ _ refl))

  payload-any : (h : Head) (n : ℕ) → Gives written_numbers Any (payload_fine way doc h n)
  unfolding payload_fine
  payload-any h n = gives-elim (eqb h.kind 8) (λ _. string-any h.start h.size n) (λ _. gives-got tt)

  judged-any : (left : ℕ) (list : Bool) (k : ℕ) (earlier : Forest) (n : ℕ) (f : Forest) → Gives written_numbers Any (judged way doc left list k earlier n f)
  unfolding judged among
  judged-any left list k earlier n none = gives-got tt
  judged-any left list k earlier n (node h inner later) =
      gives_then (string_fine way doc h.name h.name_length n) _ (string-any h.name h.name_length n)
      (λ _. gives-guard (list || not (has_name doc (part doc h.name h.name_length) earlier)) _ _ _ refl
      (λ _. gives-guard (not (holds h.kind) || ltb 0 left) _ _ _ refl
      (λ _. gives-guard (not list || eqb h.kind k) _ _ _ refl
      (λ _. gives_then (payload_fine way doc h n) _ (payload-any h n)
      (λ _. gives_then (judged way doc (left - 1) (eqb h.kind 9) h.list_kind none (n + 1) inner) _
      (judged-any (left - 1) (eqb h.kind 9) h.list_kind none (n + 1) inner)
      (λ _. judged-any left list k (earlier ⊕ node h inner none) (n + 1 + size inner) later))))))

  written-any : (h : Head) (inner : Forest) (room : ℕ) → Gives written_numbers Any (written way doc h inner room)
  unfolding written among
  written-any h inner room =
      gives_then (judged way doc depth_limit false 0 none 0 (node h inner none)) _ (judged-any depth_limit false 0 none 0 (node h inner none))
      (λ _. gives-guard (leb (length (layout_in way.to (turned way (value_of way.from doc h inner)))) room) _ _ _ refl (λ _. gives-got tt))

pub write-numbers : (way : Way) → IsWriteNumbers way
write-numbers way doc h inner room n p e = gives-number e (written-any way doc h inner room)

-- A refusal's number is one of a write's, and what is beside it is 0 but in 4.
abbrev Told : Count → Type 0
Told (counted k) = Unit {0}
Told (failed n p r) = (among write_numbers n ≡ true) × ((n ≡ 4 → ⊥) → r ≡ 0)

answer-told : (way : Way) (doc t : List ℕ) (x : Out (List ℕ)) → Gives write_numbers Any x → Told (answer_of way doc t x)
answer-told way doc t (got bs) h = tt
answer-told way doc t (no m n) h = go (eqb m bad_string) refl
  where
    go : (b : Bool) → eqb m bad_string ≡ b → Told (pick b (failed m (bad_place way doc (head_of t n)) n) (failed m n 0))
    go true e = (gives-number refl h, λ d. absurd (d (eqb-true m bad_string e)))
    go false e = (gives-number refl h, λ d. refl)

-- In each of the promise's cases; both claims can be decided.
pub write-refusals : (way : Way) → IsWriteRefusals way
unfolding among
write-refusals way doc t o answer o' n p r w e = (each (Bool-discrete (among write_numbers n) true) (λ x. x.0), λ u. each (ℕ_discrete r 0) (λ x. x.1 u))
  where
    from : (x : Out (List ℕ)) → Gives write_numbers Any x → answer ≡ answer_of way doc t x → Told (failed n p r)
    from x h a = subst Told (sym a ∙ e) (answer-told way doc t x h)

    each : {C : Type 0} → Dec C → (Told (failed n p r) → C) → C
    each d f =
        in-each-case {W = Within (length doc) t} {T = IsTable (length doc) t} d
        (λ l. f (from (no 9 0) (gives-no refl) (w.large l).answer_is))
        (λ l u. f (from (no 10 0) (gives-no refl) (w.unfit l u).answer_is))
        (λ l i. f (from _ (gives_all refl (written-any way doc i.head i.inner (length o))) (w.fit l i).answer_is))

-- ---- stored lines

-- A refusal has one of the numbers, and the place 0.
abbrev AtZero : Out ℕ → Type 0
AtZero (got k) = Unit {0}
AtZero (no n p) = (among write_lines_numbers n ≡ true) × (p ≡ 0)

fitting-zero : (bs : List ℕ) (room : ℕ) → AtZero (length_of (fitting bs room))
unfolding fitting among
fitting-zero bs room = go (leb (length bs) room)
  where
    go : (b : Bool) → AtZero (length_of (guard b 13 0 >> got bs))
    go true = tt
    go false = (refl, refl)

-- In each of the promise's cases; both claims can be decided.
pub write-lines-refusals : IsWriteLinesRefusals
unfolding among
write-lines-refusals d t o answer o' n p w e =
    in-each-case {W = Within d t} {T = IsTable d t} (both (Bool-discrete (among write_lines_numbers n) true) (ℕ_discrete p 0))
    (λ l. from (no 9 0) (refl, refl) (w.large l).answer_is)
    (λ l u. from (no 10 0) (refl, refl) (w.unfit l u).answer_is)
    (λ l i. from (storing t (length o)) (fitting-zero (table_lines t) (length o)) (w.fit l i).answer_is)
  where
    from : (x : Out (List ℕ)) → AtZero (length_of x) → answer ≡ length_of x → (among write_lines_numbers n ≡ true) × (p ≡ 0)
    from x h a = subst AtZero (sym a ∙ e) h

each-any : (w room n : ℕ) (ls : List TextLine) → Gives read_lines_numbers Any (each_line w room n ls)
unfolding each_line among
each-any w room n [] = gives-got tt
each-any w room n (l ∷ ls) =
    gives-guard (is_line w l) _ _ _ refl
    (λ _. gives-guard (leb n room) _ _ _ refl
    (λ _. gives-bind (each_line w room (n + 1) ls) _ (each-any w room (n + 1) ls) (λ ws _. gives-got tt)))

pub read-lines-numbers : IsReadLinesNumbers
unfolding lines_read among
read-lines-numbers w room s n p e =
    gives-number e (gives-guard (leb (length (lines_in s)) record_limit) _ _ _ refl (λ _. each-any w room 1 (lines_in s)))

-- ---- queries

shallow-any : (left n : ℕ) (f : Forest) → Gives asked_numbers Any (shallow left n f)
unfolding shallow among
shallow-any left n none = gives-got tt
shallow-any left n (node h inner later) =
    gives-guard (not (holds h.kind) || ltb 0 left) _ _ _ refl
    (λ _. gives_then (shallow (left - 1) (n + 1) inner) _ (shallow-any (left - 1) (n + 1) inner)
    (λ _. shallow-any left (n + 1 + size inner) later))

-- Whatever is wrong with a step is 14.
step-any : (form : Form) (q : List ℕ) (at : ℕ) → Gives asked_numbers Any (step_at form q at)
unfolding step_at among
step-any form q at = go (byte_at q at >>= (λ k. step_by form q k at))
  where
    go : {A : Type 0} (o : Out A) → Gives asked_numbers Any (blamed at o)
    go (got a) = gives-got tt
    go (no n p) = gives-no refl

steps-any : (form : Form) (q : List ℕ) (left at : ℕ) → Gives asked_numbers Any (steps_at form q left at)
unfolding steps_at among
steps-any form q zero at = gives-elim (ltb at (length q)) (λ _. gives-no refl) (λ _. gives-got tt)
steps-any form q (suc left) at =
    gives-elim (ltb at (length q))
    (λ _. gives-bind (step_at form q at) _ (step-any form q at)
    (λ s _. gives-bind (steps_at form q left s.next) _ (steps-any form q left s.next) (λ rest _. gives-got tt)))
    (λ _. gives-got tt)

asked-any : (form : Form) (doc q : List ℕ) (h : Head) (inner : Forest) → Gives asked_numbers Any (asked form doc q h inner)
unfolding asked spelt
asked-any form doc q h inner =
    gives_then (shallow depth_limit 0 (node h inner none)) _ (shallow-any depth_limit 0 (node h inner none))
    (λ _. gives-bind (spelt form q) _ (steps-any form q step_limit 0) (λ ss _. gives-got tt))

pub query-numbers : (form : Form) → IsQueryNumbers form
query-numbers form doc q h inner n p e = gives-number e (asked-any form doc q h inner)

-- A refusal has one of the numbers, and a count in 24 alone.
abbrev Refuses : List ℕ → Answered → Type 0
Refuses ns (matched ms) = Unit {0}
Refuses ns (refused n p c) = (among ns n ≡ true) × ((n ≡ 24 → ⊥) → c ≡ 0)

within-refuses : (room : ℕ) (o : Out (List ℕ)) → Gives asked_numbers Any o → Refuses within_numbers (within room o)
unfolding among
within-refuses room (got ms) h = go (leb (length ms) room)
  where
    go : (b : Bool) → Refuses within_numbers (pick b (matched ms) (refused 24 0 (length ms)))
    go true = tt
    go false = (refl, λ n. absurd (n refl))
within-refuses room (no n p) h = (among-all asked_numbers within_numbers n refl (gives-number refl h), λ _. refl)

pub within-numbers : (form : Form) → IsWithinNumbers form
within-numbers form doc q h inner room n p c e = subst (Refuses within_numbers) e (within-refuses room (asked form doc q h inner) (asked-any form doc q h inner))

-- An answer that fails is that of a refusal.
failed-refused : (a : Answered) {n p c : ℕ} → count_of a ≡ failed n p c → a ≡ refused n p c
failed-refused (matched ms) e = let z : ◌≡◌ {A = ℕ} 0 1 = cc in absurd (omega arith)
failed-refused (refused m q d) e = cc

refuses-more : (a : Answered) → Refuses within_numbers a → Refuses query_numbers a
unfolding among
refuses-more (matched ms) h = tt
refuses-more (refused n p c) h = (among-all within_numbers query_numbers n refl h.0, h.1)

-- In each of the promise's cases; both claims can be decided.
pub query-refusals : (form : Form) → IsQueryRefusals form
unfolding among
query-refusals form doc t q l answer l' n p c w e = (each (Bool-discrete (among query_numbers n) true) (λ r. r.0), λ u. each (ℕ_discrete c 0) (λ r. r.1 u))
  where
    from : (a : Answered) → Refuses query_numbers a → answer ≡ count_of a → Refuses query_numbers (refused n p c)
    from a h i = subst (Refuses query_numbers) (failed-refused a (sym i ∙ e)) h

    fits : (h : Head) (inner : Forest) → Refuses query_numbers (within (length l) (asked form doc q h inner))
    fits h inner =
        let a = asked form doc q h inner in
        refuses-more (within (length l) a) (within-refuses (length l) a (asked-any form doc q h inner))

    each : {C : Type 0} → Dec C → (Refuses query_numbers (refused n p c) → C) → C
    each d f =
        in-each-case {W = Within (length doc) t} {T = IsTable (length doc) t} d
        (λ x. f (from (refused 9 0 0) (refl, λ _. refl) (w.large x).answer_is))
        (λ x y. f (from (refused 10 0 0) (refl, λ _. refl) (w.unfit x y).answer_is))
        (λ x i. f (from (within (length l) (asked form doc q i.head i.inner)) (fits i.head i.inner) (w.fit x i).answer_is))

-- ---- texts

pub token-numbers : IsTokenNumbers
unfolding lexed among
token-numbers t start set n p e = gives-number e token-any
  where
    token-any : Gives token_numbers Any (lexed t start set)
    token-any =
        gives_then (judged_text t) _ (gives_all refl (whole-any t))
        (λ _. gives-guard (on_character t start) _ _ _ refl (λ _. gives-also (token_at set t start) (gives_all refl (token-held t set start)) (λ x _ _. tt)))

pub content-numbers : IsContentNumbers
unfolding content among
content-numbers t start e inQuotes room n p i = gives-number i content-any
  where
    content-any : Gives content_numbers Any (content t start e inQuotes room)
    content-any =
        gives_then (judged_text t) _ (gives_all refl (whole-any t))
        (λ _. gives-guard (on_character t start && (on_character t e && leb start e)) _ _ _ refl
        (λ _. gives-bind (content_of t inQuotes start e) _ (gives_all refl (content-formed t inQuotes start e))
        (λ bs _. gives-guard (leb (length bs) room) _ _ _ refl (λ _. gives-got tt))))

pub parse-numbers : IsParseNumbers
parse-numbers t room n p e = gives-number e (parsed-fine t room)
