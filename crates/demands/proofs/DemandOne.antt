-- Demand 1 on the calls: of each promise one outcome, and what that is where it accepts and where it refuses.
-- Assumes nothing.
use Prim.Native.Nat.{ℕ, ◌+◌, ◌*◌, ◌/◌, ◌≤◌}
use mathlib.Core.Path.{◌≡◌, refl, sym, ap, ◌∙◌}
use mathlib.Core.Logic.{◌⊎◌, inl, inr}
use mathlib.Core.List.{List, [], ◌∷◌}
use mathlib.Core.Bool.{Bool, true, false, not, ◌&&◌}
use native.Mathlib.Omega.{arith}
use native.Mathlib.Decide.{ℕ_discrete}
use lib.Dec.{leb, eqb}
use borrow.Author.Tests.{leb-true, eq-eqb}
use lib.ListN.{length, drop, get_or, replicate}
use lib.Seq.{drop-append_seam}
use Rattle.form.specs.Form.{Form, Way, Rule}
use Rattle.form.specs.Answer.{Out, got, no as refused, pick, Count, counted, failed, bad_string, over_limit, no_table, more_matches, depth_limit}
use Rattle.form.specs.Spans.{over}
use Rattle.form.specs.Decoding.{Verdict, good, bad}
use Rattle.form.specs.Table.{Head, Forest, none, node, size, head_of, flat, wrote, value_of}
use Rattle.form.specs.Layout.{layout, layout_in}
use Rattle.form.specs.Tables.{IsTable, Within}
use Rattle.form.specs.Reading.{One, counts_of, table_after, reading, room_of}
use Rattle.form.specs.Turned.{turned}
use Rattle.form.specs.Writing.{Gives, output_after, length_of, WriteGives, WriteIs, judged, written, bad_place, answer_of}
use Rattle.form.specs.Stored.{WriteLinesIs, table_lines, fitting, storing, reading_lines, records_of, words_after}
use Rattle.form.specs.Moved.{Edition, other, tree_in, tree_lines, MoveIs}
use Rattle.form.specs.Cut as cut
use Rattle.form.specs.Cut.{Line, Rescue, saved, line_words, rescuing, sizes_of, bytes_after, lines_after}
use Rattle.form.specs.Query.{Answered, matched, within, asked, count_of, list_after, Finds, QueryIs}
use Rattle.form.specs.Query as query
use Rattle.form.proofs.Picks.{differ}
use Rattle.form.proofs.Answer.{got-no, guard-got, bind-got}
use Rattle.form.proofs.Table.{over-length, flat-length, size-one}
use Rattle.form.proofs.Payloads.{room_fits}
use Rattle.form.proofs.Outcomes.{same-list, both, in-each-case}
use Rattle.form.proofs.Stored.{fitting-got}
use Rattle.snbt_form.specs.Lexing.{among, Lexed, found, ended, judged_text, on_character, lexed, content_of, content}
use Rattle.snbt_form.specs.Text.{Block, parsed, document_of, lengths_of}
use Rattle.snbt_form.specs.Text as text
use Rattle.calls.specs.Words.{refusal, read_words, count_words, rescue_words, beside_words, token_words, stops_of, parse_words, verdict_words}
use Rattle.calls.specs.Calls.{StringCalled, ReadCalled, TableCalled, WriteCalled, RescueCalled, WriteLinesCalled, ReadLinesCalled, MoveCalled, QueryCalled, TokenCalled, ContentCalled, ParseCalled}
use Rattle.demands.specs.Reading.{Bytes}
use Rattle.demands.specs.Numbers.{read_numbers, write_numbers, rescue_numbers, write_lines_numbers, read_lines_numbers, move_numbers, query_numbers, token_numbers, content_numbers, parse_numbers}
use Rattle.demands.specs.DemandOne.{Accepts, Refuses, Changed, Answers, Alone, DemandOne}
use Rattle.demands.proofs.Judged.{then-got}
use Rattle.demands.proofs.Reading.{sound}
use Rattle.demands.proofs.Texts.{text-fills}
use Rattle.demands.proofs.Numbers.{read-numbers, write-refusals, write-lines-refusals, read-lines-numbers, query-refusals, token-numbers, content-numbers, parse-numbers}
use Rattle.demands.proofs.Stored.{lines_are}
use Rattle.form.proofs.Decided.{in-each-move}
use Rattle.demands.proofs.Moved.{move-refusals}
use Rattle.demands.proofs.Rescue.{Outcome, rescue-way}
use Rattle.demands.proofs.Outcomes.{one-table-called, one-write-called, one-write-lines-called, one-move-called, one-query-called}

-- ---- answers

refuses : (numbers : List ℕ) (n p : ℕ) → among numbers n ≡ true → Refuses numbers [] (refusal n p)
refuses numbers n p h = record { number = n; place = p; beside = 0; is = refl; one_of = h; plain = λ _. refl }

-- A number is among itself alone.
among_self : (n : ℕ) → among (n ∷ []) n ≡ true
unfolding among
among_self n = rw (eq-eqb n n refl) refl

-- What is 0 but beside the number k is 0 beside every number that is not k alone.
but-beside : (k n c : ℕ) → ((n ≡ k → ⊥) → c ≡ 0) → among (k ∷ []) n ≡ false → c ≡ 0
but-beside k n c h e = h (λ z. differ (sym (among_self k) ∙ ap (among (k ∷ [])) (sym z) ∙ e))

-- A refusal in place of bytes is a refusal of them.
of_length : (x : Out (List ℕ)) (n p : ℕ) → length_of x ≡ refused n p → x ≡ refused n p
of_length (got bs) n p e = absurd (got-no e)
of_length (refused m q) n p e = let a : m ≡ n = cc in let b : q ≡ p = cc in rw (a, b) refl

-- Matches are no refusal.
matched-refused : {ms : List ℕ} {n p c : ℕ} → matched ms ≡ query.refused n p c → ⊥
matched-refused {ms} {n} {p} {c} e = let z : ◌≡◌ {A = ℕ} 0 1 = cc in omega arith

-- ---- memory

-- What is put at the front of some memory changes that and no more.
over-changed : (k : ℕ) (old ws : List ℕ) → length ws ≡ k → length ws ≤ length old → Changed k old (over old 0 ws)
unfolding over
over-changed k old ws e le = record {
  long = over-length old 0 ws (omega arith);
  rest = ap (λ (i : ℕ). drop i (over old 0 ws)) (sym e) ∙ drop-append_seam ws (drop (0 + length ws) old) ∙ ap (λ (i : ℕ). drop i old) (let z : 0 + length ws ≡ k = omega arith in z);
}

nothing-changed : Changed 0 [] []
nothing-changed = record { long = refl; rest = refl }

same-changed : (k : ℕ) (old new : List ℕ) → Dec (Changed k old new)
same-changed k old new = go (both (ℕ_discrete (length new) (length old)) (same-list (drop k new) (drop k old)))
  where
    go : Dec ((length new ≡ length old) × (drop k new ≡ drop k old)) → Dec (Changed k old new)
    go (yes p) = yes (record { long = p.0; rest = p.1 })
    go (no n) = no (λ c. n (c.long, c.rest))

-- ---- a read

module _ (form : Form) (doc t : List ℕ) (bytes : Bytes doc) where
  -- The records that were read fit the table.
  read-changed : (x : One) → reading form doc t ≡ got x → Changed (9 * (1 + size x.inner)) t (table_after (got x) t)
  unfolding wrote
  read-changed x e =
      let f = node x.head x.inner none in
      let s = sound form doc bytes (room_of (length t)) x e in
      let long : length (flat 0 0 f) ≡ 9 * (1 + size x.inner) = omega (arith, flat-length 0 0 f, size-one x.head x.inner) in
      over-changed (9 * (1 + size x.inner)) t (flat 0 0 f) long (omega (arith, long, s.fits, s.records, room_fits (length t)))

  read-each : (t' a : List ℕ) → ReadCalled form doc t t' a
      → (Accepts a × Changed (9 * get_or a 3 0) t t') ⊎ (Refuses read_numbers [] a × (t' ≡ replicate (length t) 0))
  read-each t' a r = go (reading form doc t) refl r.answer_is r.table_is
    where
      go : (o : Out One) → reading form doc t ≡ o → a ≡ read_words (counts_of o) → t' ≡ table_after o t
          → (Accepts a × Changed (9 * get_or a 3 0) t t') ⊎ (Refuses read_numbers [] a × (t' ≡ replicate (length t) 0))
      go (got x) e w k = rw (w, k) (inl ((_, refl, refl), read-changed x e))
      go (refused n p) e w k = rw w (inr (refuses read_numbers n p (read-numbers form doc bytes (room_of (length t)) n p e), k))

  read-answers : Answers (ReadCalled form doc t) read_numbers [] t (replicate (length t) 0) (λ a. 9 * get_or a 3 0)
  read-answers = record {
    one = λ m₁ m₂ a₁ a₂ r s. (r.table_is ∙ sym s.table_is, r.answer_is ∙ sym s.answer_is);
    each = read-each;
  }

-- ---- a check of a table

table-each : (d : ℕ) (t m a : List ℕ) → Alone (TableCalled d t) m a → (Accepts a × Changed 0 [] m) ⊎ (Refuses (over_limit ∷ []) [] a × (m ≡ []))
table-each d t m a p = go (same-list a (refusal over_limit 0))
  where
    r : TableCalled d t a
    r = p.1

    -- What is not 9 is 0 or 1 in word 2.
    bit : (a ≡ refusal over_limit 0 → ⊥) → (b : ℕ) × (a ≡ 0 ∷ 0 ∷ b ∷ 0 ∷ 0 ∷ 0 ∷ 0 ∷ 0 ∷ [])
    bit n = (
      get_or a 2 0,
      in-each-case {W = Within d t} {T = IsTable d t} (same-list a (0 ∷ 0 ∷ get_or a 2 0 ∷ 0 ∷ 0 ∷ 0 ∷ 0 ∷ 0 ∷ []))
          (λ w. absurd (n (r.large w)))
          (λ w i. rw (r.unfit w i) refl)
          (λ w i. rw (r.fit w i) refl),
    )

    go : Dec (a ≡ refusal over_limit 0) → (Accepts a × Changed 0 [] m) ⊎ (Refuses (over_limit ∷ []) [] a × (m ≡ []))
    go (yes e) = inr (rw e (refuses (over_limit ∷ []) over_limit 0 (among_self over_limit)), p.0)
    go (no n) = let b = bit n in inl (rw b.1 (_, refl, refl), rw p.0 nothing-changed)

-- ---- bytes written

-- An output as the answer has it: the bytes counted have changed, or nothing has.
abbrev Left : List ℕ → List ℕ → Out ℕ → Type 0
Left o o' (got n) = Changed n o o'
Left o o' (refused n p) = o' ≡ o

same_left : (o o' : List ℕ) (r : Out ℕ) → Dec (Left o o' r)
same_left o o' (got n) = same-changed n o o'
same_left o o' (refused n p) = same-list o' o

left-of : (o : List ℕ) (x : Out (List ℕ)) → ((bs : List ℕ) → x ≡ got bs → length bs ≤ length o) → Left o (output_after x o) (length_of x)
left-of o (got bs) fits = over-changed (length bs) o bs refl (fits bs refl)
left-of o (refused n p) fits = refl

gives_left : (o o' : List ℕ) (x : Out (List ℕ)) (r : Out ℕ) → ((bs : List ℕ) → x ≡ got bs → length bs ≤ length o) → Gives x o r o' → Left o o' r
gives_left o o' x r fits g = rw (g.answer_is, g.output_is) (left-of o x fits)

-- The eight words and the output, by the number of bytes or the refusal.
left-each : (numbers o o' a : List ℕ) (r : Out ℕ) → a ≡ count_words r → Left o o' r → ((n p : ℕ) → r ≡ refused n p → among numbers n ≡ true)
    → (Accepts a × Changed (get_or a 2 0) o o') ⊎ (Refuses numbers [] a × (o' ≡ o))
left-each numbers o o' a (got n) w l f = rw w (inl ((_, refl, refl), l))
left-each numbers o o' a (refused n p) w l f = rw w (inr (refuses numbers n p (f n p refl), l))

-- ---- a write

-- Memory as the answer of a call that counts has it: so many bytes or words have changed, or nothing has.
abbrev Listed : List ℕ → List ℕ → Count → Type 0
Listed l l' (counted n) = Changed n l l'
Listed l l' (failed n p c) = l' ≡ l

same-listed : (l l' : List ℕ) (r : Count) → Dec (Listed l l' r)
same-listed l l' (counted n) = same-changed n l l'
same-listed l l' (failed n p c) = same-list l' l

-- The eight words and the memory, by the count or the refusal; `k` is the number that has something beside it.
listed-each : (numbers : List ℕ) (k : ℕ) (l l' a : List ℕ) (r : Count) → a ≡ beside_words r → Listed l l' r
    → ((n p c : ℕ) → r ≡ failed n p c → (among numbers n ≡ true) × ((n ≡ k → ⊥) → c ≡ 0))
    → (Accepts a × Changed (get_or a 2 0) l l') ⊎ (Refuses numbers (k ∷ []) a × (l' ≡ l))
listed-each numbers k l l' a (counted n) w h f = rw w (inl ((_, refl, refl), h))
listed-each numbers k l l' a (failed n p c) w h f =
    let told = f n p c refl in
    rw w (inr (record { number = n; place = p; beside = c; is = refl; one_of = told.0; plain = but-beside k n c told.1 }, h))

-- What is written fits.
written-fits : (way : Way) (doc : List ℕ) (h : Head) (inner : Forest) (room : ℕ) (bs : List ℕ) → written way doc h inner room ≡ got bs → length bs ≤ room
unfolding written
written-fits way doc h inner room bs e =
    let a = then-got (judged way doc depth_limit false 0 none 0 (node h inner none)) _ e in
    let b = guard-got (leb (length (layout_in way.to (turned way (value_of way.from doc h inner)))) room) _ _ _ a.1 in
    let q : layout_in way.to (turned way (value_of way.from doc h inner)) ≡ bs = cc b.1 in
    omega (arith, leb-true (length (layout_in way.to (turned way (value_of way.from doc h inner)))) room b.0, ap length q)

-- What a write gives, if it fits.
writes-listed : (way : Way) (doc t o o' : List ℕ) (x : Out (List ℕ)) (r : Count) → ((bs : List ℕ) → x ≡ got bs → length bs ≤ length o) → WriteGives way doc t x o r o' → Listed o o' r
writes-listed way doc t o o' x r fits g = rw (g.answer_is, g.output_is) (go x fits)
  where
    go : (x : Out (List ℕ)) → ((bs : List ℕ) → x ≡ got bs → length bs ≤ length o) → Listed o (output_after x o) (answer_of way doc t x)
    go (got bs) fits = over-changed (length bs) o bs refl (fits bs refl)
    go (refused m n) fits = by (eqb m bad_string)
      where
        by : (b : Bool) → Listed o o (pick b (failed m (bad_place way doc (head_of t n)) n) (failed m n 0))
        by true = refl
        by false = refl

write-listed : (way : Way) (doc t o : List ℕ) (r : Count) (o' : List ℕ) → WriteIs way doc t o r o' → Listed o o' r
write-listed way doc t o r o' h =
    in-each-case {W = Within (length doc) t} {T = IsTable (length doc) t} (same-listed o o' r)
    (λ w. writes-listed way doc t o o' (refused over_limit 0) r (λ bs e. absurd (got-no (sym e))) (h.large w))
    (λ w i. writes-listed way doc t o o' (refused no_table 0) r (λ bs e. absurd (got-no (sym e))) (h.unfit w i))
    (λ w i. writes-listed way doc t o o' (written way doc i.head i.inner (length o)) r (written-fits way doc i.head i.inner (length o)) (h.fit w i))

write-answers : (way : Way) (doc t t' o : List ℕ) → Answers (WriteCalled way doc t t' o) write_numbers (bad_string ∷ []) o o (λ a. get_or a 2 0)
write-answers way doc t t' o = record {
  one = λ o₁ o₂ a₁ a₂ r s. let e = one-write-called way doc t o a₁ a₂ o₁ o₂ t' t' r s in (e.1, e.0);
  each = λ o' a r. listed-each write_numbers bad_string o o' a r.result r.words_are (write-listed way doc t o r.result o' r.is)
      (λ n p c. write-refusals way doc t o r.result o' n p c r.is);
}

-- ---- stored lines

lines_left : (d : ℕ) (t o : List ℕ) (r : Out ℕ) (o' : List ℕ) → WriteLinesIs d t o r o' → Left o o' r
lines_left d t o r o' h =
    in-each-case {W = Within d t} {T = IsTable d t} (same_left o o' r)
    (λ w. gives_left o o' (refused over_limit 0) r (λ bs e. absurd (got-no (sym e))) (h.large w))
    (λ w i. gives_left o o' (refused no_table 0) r (λ bs e. absurd (got-no (sym e))) (h.unfit w i))
    (λ w i. gives_left o o' (storing t (length o)) r (λ bs e. (fitting-got (table_lines t) (length o) bs e).1) (h.fit w i))

write-lines-answers : (d : ℕ) (t o : List ℕ) → Answers (WriteLinesCalled d t o) write_lines_numbers [] o o (λ a. get_or a 2 0)
write-lines-answers d t o = record {
  one = λ o₁ o₂ a₁ a₂ r s. let e = one-write-lines-called d t o a₁ a₂ o₁ o₂ r s in (e.1, e.0);
  each = λ o' a r. left-each write_lines_numbers o o' a r.result r.words_are (lines_left d t o r.result o' r.is)
      (λ n p e. (write-lines-refusals d t o r.result o' n p r.is e).0);
}

-- The records that were read are whole, and fit the table.
read-lines-each : (s t t' a : List ℕ) → ReadLinesCalled s t t' a
    → (Accepts a × Changed (9 * get_or a 2 0) t t') ⊎ (Refuses read_lines_numbers [] a × (t' ≡ replicate (length t) 0))
read-lines-each s t t' a r = go (reading_lines s t) refl r.answer_is r.table_is
  where
    go : (x : Out (List ℕ)) → reading_lines s t ≡ x → a ≡ count_words (records_of x) → t' ≡ words_after x t
        → (Accepts a × Changed (9 * get_or a 2 0) t t') ⊎ (Refuses read_lines_numbers [] a × (t' ≡ replicate (length t) 0))
    go (got ws) e w k =
        let x = (lines_are 9 (length t / 9) s ws).0 e in
        rw (w, k) (inl ((_, refl, refl), over-changed (9 * (length ws / 9)) t ws (omega (arith, x.long)) (omega (arith, x.long, x.roomy))))
    go (refused n p) e w k = rw w (inr (refuses read_lines_numbers n p (read-lines-numbers 9 (length t / 9) s n p e), k))

read-lines-answers : (s t : List ℕ) → Answers (ReadLinesCalled s t) read_lines_numbers [] t (replicate (length t) 0) (λ a. 9 * get_or a 2 0)
read-lines-answers s t = record {
  one = λ t₁ t₂ a₁ a₂ p q. (p.table_is ∙ sym q.table_is, p.answer_is ∙ sym q.answer_is);
  each = read-lines-each s t;
}

-- ---- a move

move-left : (e : Edition) (d : ℕ) (s o : List ℕ) (r : Out ℕ) (o' : List ℕ) → MoveIs e d s o r o' → Left o o' r
move-left e d s o r o' h =
    in-each-move e d s
    (λ n p m. gives_left o o' (refused n p) r (λ bs q. absurd (got-no (sym q))) (h.bad n p m))
    (λ ws m u. gives_left o o' (refused no_table 0) r (λ bs q. absurd (got-no (sym q))) (h.unfit ws m u))
    (λ ws m t.
    let lines = tree_lines (other e) (tree_in e d ws t) in
    gives_left o o' (fitting lines (length o)) r (λ bs q. (fitting-got lines (length o) bs q).1) (h.fit ws m t))

move-answers : (e : Edition) (d : ℕ) (s o : List ℕ) → Answers (MoveCalled e d s o) move_numbers [] o o (λ a. get_or a 2 0)
move-answers e d s o = record {
  one = λ o₁ o₂ a₁ a₂ r q. let x = one-move-called e d s o a₁ a₂ o₁ o₂ r q in (x.1, x.0);
  each = λ o' a r. left-each move_numbers o o' a r.result r.words_are (move-left e d s o r.result o' r.is)
      (λ n p q. (move-refusals e d s o r.result o' n p r.is q).0);
}

-- ---- a content

content-fits : (t : List ℕ) (start e : ℕ) (q : Bool) (room : ℕ) (bs : List ℕ) → content t start e q room ≡ got bs → length bs ≤ room
unfolding content
content-fits t start e q room bs h =
    let a = then-got (judged_text t) _ h in
    let b = guard-got (on_character t start && (on_character t e && leb start e)) _ _ _ a.1 in
    let c = bind-got (content_of t q start e) _ b.1 in
    let d = guard-got (leb (length c.0) room) _ _ _ c.2 in
    let z : c.0 ≡ bs = cc d.1 in
    omega (arith, leb-true (length c.0) room d.0, ap length z)

content-answers : (t : List ℕ) (start e quoted : ℕ) (o : List ℕ) → Answers (ContentCalled t start e quoted o) content_numbers [] o o (λ a. get_or a 2 0)
content-answers t start e quoted o =
    let q = not (eqb quoted 0) in
    let x = content t start e q (length o) in
    record {
      one = λ o₁ o₂ a₁ a₂ r s. (r.output_is ∙ sym s.output_is, r.answer_is ∙ sym s.answer_is);
      each = λ o' a r. left-each content_numbers o o' a (length_of x) r.answer_is (rw r.output_is (left-of o x (content-fits t start e q (length o))))
          (λ n p h. content-numbers t start e q (length o) n p (of_length x n p h));
    }

-- ---- a query

finds-listed : (form : Form) (l l' : List ℕ) (x : Answered) (r : Count) → ((ms : List ℕ) → x ≡ matched ms → length ms ≤ length l) → Finds x l r l' → Listed l l' r
finds-listed form l l' x r fits f = rw (f.answer_is, f.list_is) (go x fits)
  where
    go : (x : Answered) → ((ms : List ℕ) → x ≡ matched ms → length ms ≤ length l) → Listed l (list_after x l) (count_of x)
    go (matched ms) fits = over-changed (length ms) l ms refl (fits ms refl)
    go (query.refused n p c) fits = refl

-- Matches within the room.
within-fits : (room : ℕ) (o : Out (List ℕ)) (ms : List ℕ) → within room o ≡ matched ms → length ms ≤ room
within-fits room (got xs) ms e = go (leb (length xs) room) refl e
  where
    go : (b : Bool) → leb (length xs) room ≡ b → pick b (matched xs) (query.refused more_matches 0 (length xs)) ≡ matched ms → length ms ≤ room
    go true h k = let z : xs ≡ ms = cc in omega (arith, leb-true (length xs) room h, ap length z)
    go false h k = absurd (matched-refused (sym k))
within-fits room (refused n p) ms e = absurd (matched-refused (sym e))

query-listed : (form : Form) (doc t q l : List ℕ) (r : Count) (l' : List ℕ) → QueryIs form doc t q l r l' → Listed l l' r
query-listed form doc t q l r l' h =
    in-each-case {W = Within (length doc) t} {T = IsTable (length doc) t} (same-listed l l' r)
    (λ w. finds-listed form l l' (query.refused over_limit 0 0) r (λ ms e. absurd (matched-refused (sym e))) (h.large w))
    (λ w i. finds-listed form l l' (query.refused no_table 0 0) r (λ ms e. absurd (matched-refused (sym e))) (h.unfit w i))
    (λ w i. finds-listed form l l' (within (length l) (asked form doc q i.head i.inner)) r (within-fits (length l) (asked form doc q i.head i.inner)) (h.fit w i))

query-answers : (form : Form) (doc t q l : List ℕ) → Answers (QueryCalled form doc t q l) query_numbers (more_matches ∷ []) l l (λ a. get_or a 2 0)
query-answers form doc t q l = record {
  one = λ l₁ l₂ a₁ a₂ r s. let e = one-query-called form doc t q l a₁ a₂ l₁ l₂ r s in (e.1, e.0);
  each = λ l' a r. listed-each query_numbers more_matches l l' a r.result r.words_are (query-listed form doc t q l r.result l' r.is)
      (λ n p c. query-refusals form doc t q l r.result l' n p c r.is);
}

-- ---- a rescue

-- A line has three words.
line-words : (ls : List Line) → length (line_words ls) ≡ 3 * length ls
unfolding line_words
line-words [] = refl
line-words (l ∷ ls) = omega (arith, line-words ls)

-- By what the definition answers: bytes and lines in the room for them, or nothing.
rescue-each : (form : Form) (doc t t' o o' c c' a : List ℕ) → Bytes doc → RescueCalled form doc t t' o o' c c' a
    → (Accepts a × Changed (get_or a 2 0) o o' × Changed (3 * get_or a 3 0) c c') ⊎ (Refuses rescue_numbers (more_matches ∷ []) a × (o' ≡ o) × (c' ≡ c))
rescue-each form doc t t' o o' c c' a bytes r =
    go (rescuing form doc t o c) (rescue-way form doc bytes (room_of (length t)) (length c / 3) (length o)) r.answer_is r.output_is r.changes_is
  where
    go : (x : Rescue) → Outcome form doc (room_of (length t)) (length c / 3) (length o) x → a ≡ rescue_words (sizes_of x) → o' ≡ bytes_after x o → c' ≡ lines_after x c
        → (Accepts a × Changed (get_or a 2 0) o o' × Changed (3 * get_or a 3 0) c c') ⊎ (Refuses rescue_numbers (more_matches ∷ []) a × (o' ≡ o) × (c' ≡ c))
    go (saved bs ls) w e f g =
        let in-room : length (line_words ls) ≤ length c = omega (arith, line-words ls, w.5) in
        rw (e, f, g) (inl ((_, refl, refl), over-changed (length bs) o bs refl w.4, over-changed (3 * length ls) c (line_words ls) (line-words ls) in-room))
    go (cut.refused n p k) w e f g =
        rw e (inr (record { number = n; place = p; beside = k; is = refl; one_of = w.0; plain = but-beside more_matches n k w.1 }, f, g))

-- The output, and the list of changes, each for itself.
rescue-answers : (form : Form) (doc t t' o c c' : List ℕ) → Bytes doc → Answers (λ o' a. RescueCalled form doc t t' o o' c c' a) rescue_numbers (more_matches ∷ []) o o (λ a. get_or a 2 0)
rescue-answers form doc t t' o c c' bytes = record {
  one = λ o₁ o₂ a₁ a₂ r s. (r.output_is ∙ sym s.output_is, r.answer_is ∙ sym s.answer_is);
  each = λ o' a r. go o' a (rescue-each form doc t t' o o' c c' a bytes r);
}
  where
    go : (o' a : List ℕ) → (Accepts a × Changed (get_or a 2 0) o o' × Changed (3 * get_or a 3 0) c c') ⊎ (Refuses rescue_numbers (more_matches ∷ []) a × (o' ≡ o) × (c' ≡ c))
        → (Accepts a × Changed (get_or a 2 0) o o') ⊎ (Refuses rescue_numbers (more_matches ∷ []) a × (o' ≡ o))
    go o' a (inl x) = inl (x.0, x.1)
    go o' a (inr x) = inr (x.0, x.1)

changes-answers : (form : Form) (doc t t' o o' c : List ℕ) → Bytes doc → Answers (RescueCalled form doc t t' o o' c) rescue_numbers (more_matches ∷ []) c c (λ a. 3 * get_or a 3 0)
changes-answers form doc t t' o o' c bytes = record {
  one = λ c₁ c₂ a₁ a₂ r s. (r.changes_is ∙ sym s.changes_is, r.answer_is ∙ sym s.answer_is);
  each = λ c' a r. go c' a (rescue-each form doc t t' o o' c c' a bytes r);
}
  where
    go : (c' a : List ℕ) → (Accepts a × Changed (get_or a 2 0) o o' × Changed (3 * get_or a 3 0) c c') ⊎ (Refuses rescue_numbers (more_matches ∷ []) a × (o' ≡ o) × (c' ≡ c))
        → (Accepts a × Changed (3 * get_or a 3 0) c c') ⊎ (Refuses rescue_numbers (more_matches ∷ []) a × (c' ≡ c))
    go c' a (inl x) = inl (x.0, x.2)
    go c' a (inr x) = inr (x.0, x.2)

-- ---- a token, a parse, a check of a string

-- Calls that are lent nothing but their answer.
alone-one : (P : List ℕ → Type 0) → ((a₁ a₂ : List ℕ) → P a₁ → P a₂ → a₁ ≡ a₂) → (m₁ m₂ a₁ a₂ : List ℕ) → Alone P m₁ a₁ → Alone P m₂ a₂
    → (m₁ ≡ m₂) × (a₁ ≡ a₂)
alone-one P f m₁ m₂ a₁ a₂ r s = (r.0 ∙ sym s.0, f a₁ a₂ r.1 s.1)

token-each : (t : List ℕ) (start stops : ℕ) (m a : List ℕ) → Alone (TokenCalled t start stops) m a
    → (Accepts a × Changed 0 [] m) ⊎ (Refuses token_numbers [] a × (m ≡ []))
token-each t start stops m a p = go (lexed t start (stops_of stops)) refl p.1.answer_is
  where
    go : (o : Out Lexed) → lexed t start (stops_of stops) ≡ o → a ≡ token_words o → (Accepts a × Changed 0 [] m) ⊎ (Refuses token_numbers [] a × (m ≡ []))
    go (got (found d n)) e w = inl (rw w (_, refl, refl), rw p.0 nothing-changed)
    go (got (ended n)) e w = inl (rw w (_, refl, refl), rw p.0 nothing-changed)
    go (refused n q) e w = inr (rw w (refuses token_numbers n q (token-numbers t start (stops_of stops) n q e)), p.0)

parse-each : (t o o' a : List ℕ) → ParseCalled t o o' a
    → (Accepts a × Changed (get_or a 3 0) o o') ⊎ (Refuses parse_numbers [] a × (o' ≡ replicate (length o) 0))
parse-each t o o' a r = go (parsed t (length o)) refl r.answer_is r.output_is
  where
    go : (x : Out Block) → parsed t (length o) ≡ x → a ≡ parse_words (lengths_of x) → o' ≡ text.output_after x o
        → (Accepts a × Changed (get_or a 3 0) o o') ⊎ (Refuses parse_numbers [] a × (o' ≡ replicate (length o) 0))
    go (got b) e w k =
        let f = text-fills t (length o) b e in
        rw (w, k) (inl ((_, refl, refl), over-changed b.used o (layout (document_of b)) (sym f.0) (omega (arith, f.0, f.1))))
    go (refused n p) e w k = rw w (inr (refuses parse_numbers n p (parse-numbers t (length o) n p e), k))

string-answers : (r : Rule) (n : ℕ) (s : List ℕ) → Answers (Alone (StringCalled r n s)) (n ∷ []) [] [] [] (λ a. 0)
string-answers r n s = record {
  one = alone-one (StringCalled r n s) (λ a₁ a₂ p q. p.words_are ∙ ap (verdict_words n) (p.judged.is ∙ sym q.judged.is) ∙ sym q.words_are);
  each = λ m a p. go m a p.0 p.1.result p.1.words_are;
}
  where
    go : (m a : List ℕ) → m ≡ [] → (v : Verdict) → a ≡ verdict_words n v → (Accepts a × Changed 0 [] m) ⊎ (Refuses (n ∷ []) [] a × (m ≡ []))
    go m a e good w = inl (rw w (_, refl, refl), rw e nothing-changed)
    go m a e (bad k) w = inr (rw w (refuses (n ∷ []) n k (among_self n)), e)

pub demand-one : DemandOne
demand-one = record {
  read = read-answers;
  is_table = λ d t. record { one = alone-one (TableCalled d t) (one-table-called d t); each = table-each d t };
  write = write-answers;
  write_table = λ way doc t t' o o' a r. r.kept;
  rescue = rescue-answers;
  rescue_changes = changes-answers;
  rescue_table = λ form doc t t' o o' c c' a r t'' b s. r.table_is ∙ sym s.table_is;
  write_lines = write-lines-answers;
  read_lines = read-lines-answers;
  move_lines = move-answers;
  query = query-answers;
  token = λ t start stops. record { one = alone-one (TokenCalled t start stops) (λ a₁ a₂ r s. r.answer_is ∙ sym s.answer_is); each = token-each t start stops };
  content = content-answers;
  parse = λ t o. record { one = λ o₁ o₂ a₁ a₂ r s. (r.output_is ∙ sym s.output_is, r.answer_is ∙ sym s.answer_is); each = parse-each t o };
  check_string = string-answers;
}
