-- Demand 2 on the calls, from the theorems on reading, writing and texts.
-- Assumes nothing.
use Prim.Native.Nat.{ℕ, ◌+◌, ◌/◌, ◌≤◌}
use mathlib.Core.Path.{◌≡◌, refl, sym, ap, subst, ◌∙◌}
use mathlib.Core.Bool.{Bool, true, false}
use mathlib.Core.List.{List, [], ◌∷◌, ◌++◌}
use native.Mathlib.Omega.{arith}
use lib.ListN.{length, drop, take, get_or}
use lib.Dec.{eqb}
use Rattle.form.specs.Form.{Form, Way, java, stays}
use Rattle.form.specs.Answer.{Out, got, no, pick, failed, bad_string}
use Rattle.form.specs.Spans.{over}
use Rattle.form.specs.Tree.{Document, Lawful, LawfulIn, entries_count, LawfulBy}
use Rattle.form.specs.Tables.{IsTable}
use Rattle.form.specs.Turned.{Carried, turned, meant}
use Rattle.form.proofs.Turned.{turned-stays}
use Rattle.form.specs.Layout.{LayoutIn, layout, layout_in}
use Rattle.form.specs.Table.{size, head_of, value_of}
use Rattle.form.specs.Reading.{One, counts_of, table_after, room_of}
use Rattle.form.specs.Writing.{written, WriteGives, bad_place, answer_of}
use Rattle.form.specs.Cut as cut
use Rattle.form.specs.Cut.{Kept, Rescue, saved, kept_of, rescued, rescuing, sizes_of, bytes_after, lines_after}
use Rattle.form.proofs.Payloads.{room-le}
use Rattle.snbt_form.specs.Text.{Block, parsed, document_of, lengths_of}
use Rattle.snbt_form.specs.Text as text
use Rattle.snbt_form.specs.Lexing.{among}
use Rattle.calls.specs.Words.{read_words, beside_words, rescue_words, parse_words}
use Rattle.calls.specs.Calls.{ReadCalled, WriteCalled, RescueCalled, ParseCalled}
use Rattle.demands.specs.Reading.{Bytes}
use Rattle.demands.specs.Numbers.{written_numbers, rescue_numbers}
use Rattle.demands.specs.Writing.{table_value}
use Rattle.demands.specs.DemandTwo.{Holds, Reads, RoomFor, ReadAs, Writes, CutRescued, DemandTwo}
use Rattle.demands.specs.Rescue.{cut_document, document_lines}
use Rattle.demands.proofs.Called.{Held, held, held_by}
use Rattle.demands.proofs.Reading as reading
use Rattle.demands.proofs.Reading.{canonical}
use Rattle.demands.proofs.Carried.{carried_source, carried-stays, carried-written, carried-full}
use Rattle.demands.proofs.Conversion.{was, turned-lawful, turned-meant}
use Rattle.demands.proofs.Texts.{lawful-text, text-fills, text-never-zero}
use Rattle.demands.proofs.Queries.{tabled, tabled-value}
use Rattle.demands.proofs.Numbers.{write-numbers}
use Rattle.demands.proofs.Rescue.{Outcome, rescue-way, rescued-lawful, every-cut}

-- ---- reading

-- A read that was accepted leaves a table that holds the document read.
held_reads : (form : Form) (doc t t' a : List ℕ) → Bytes doc → (c n : ℕ) → a ≡ 0 ∷ 0 ∷ c ∷ n ∷ 0 ∷ 0 ∷ 0 ∷ 0 ∷ [] → (x : One) → Held form doc t t' c n x
    → Reads form doc t' a c (value_of form doc x.head x.inner)
held_reads form doc t t' a bytes c n e x y =
    let d = value_of form doc x.head x.inner in
    let room = room_of (length t) in
    let few = room-le (length t) in
    let s = reading.sound form doc bytes room x y.is in
    let i = tabled form doc bytes room x few y.is in
    record {
      records = n;
      answer = e;
      each = omega (arith, y.records, s.records);
      holds = subst (λ (w : List ℕ). Holds form doc w d) (sym y.words) (record { table = i.0; small = i.1; value = tabled-value form doc bytes room x few y.is });
    }

sound : (form : Form) (doc t t' a : List ℕ) → Bytes doc → ReadCalled form doc t t' a → (c n : ℕ) → a ≡ 0 ∷ 0 ∷ c ∷ n ∷ 0 ∷ 0 ∷ 0 ∷ 0 ∷ []
    → (d : Document) × LayoutIn form d (take c doc) × LawfulIn form d × Reads form doc t' a c d
sound form doc t t' a bytes r c n e =
    let accepted = held form doc t t' bytes r c n e in
    let x = accepted.0 in
    let y = accepted.1 in
    let d = value_of form doc x.head x.inner in
    let s = reading.sound form doc bytes (room_of (length t)) x y.is in
    (d, subst (λ (m : ℕ). LayoutIn form d (take m doc)) y.consumed s.laid, s.lawful, held_reads form doc t t' a bytes c n e x y)

-- Room for a document's records.
room_for : (d : Document) (n : ℕ) → RoomFor d n → 1 + entries_count d.root ≤ room_of n
unfolding room_of
room_for d n r = omega (arith, r.room, r.few)

complete : (form : Form) (d : Document) (bs rest : List ℕ) → LayoutIn form d bs → LawfulIn form d → ReadAs form (bs ++ rest) (length bs) d
complete form d bs rest laid lawful bytes small t t' a room r =
    let doc = bs ++ rest in
    let k = reading.complete form d bs rest (room_of (length t)) laid lawful (room_for d (length t) room) small in
    let x = k.x in
    let n = 1 + size x.inner in
    let y : Held form doc t t' (length bs) n x = held_by form doc t t' x k.accepted k.consumed refl (r.table_is ∙ ap (λ o. table_after o t) k.accepted) in
    let words : a ≡ 0 ∷ 0 ∷ length bs ∷ n ∷ 0 ∷ 0 ∷ 0 ∷ 0 ∷ [] =
    r.answer_is ∙ ap (λ o. read_words (counts_of o)) k.accepted ∙ ap (λ (c : ℕ). 0 ∷ 0 ∷ c ∷ n ∷ 0 ∷ 0 ∷ 0 ∷ 0 ∷ []) k.consumed in
    subst (λ (e : Document). Reads form doc t' a (length bs) e) k.tree (held_reads form doc t t' a bytes (length bs) n words x y)

-- An output that begins with a lawful document's layout is read as that document.
output-read : (form : Form) (d : Document) (o : List ℕ) → LawfulIn form d → ReadAs form (over o 0 (layout_in form d)) (length (layout_in form d)) d
unfolding over
output-read form d o lawful = complete form d (layout_in form d) (drop (0 + length (layout_in form d)) o) (canonical form d) lawful

-- ---- writing

zero-not-among : among written_numbers 0 ≡ true → ⊥
unfolding among
zero-not-among e = let z : ◌≡◌ {A = ℕ} 0 1 = cc in omega arith

zero-not-rescued : among rescue_numbers 0 ≡ true → ⊥
unfolding among
zero-not-rescued e = let z : ◌≡◌ {A = ℕ} 0 1 = cc in omega arith

-- The first word of a refused write is the number.
first_word : (way : Way) (doc t : List ℕ) (m n : ℕ) → get_or (beside_words (answer_of way doc t (no m n))) 0 0 ≡ m
first_word way doc t m n = go (eqb m bad_string)
  where
    go : (b : Bool) → get_or (beside_words (pick b (failed m (bad_place way doc (head_of t n)) n) (failed m n 0))) 0 0 ≡ m
    go true = refl
    go false = refl

module _ (way : Way) (doc w : List ℕ) (d : Document) (bytes : Bytes doc) (h : Holds way.from doc w d) (w' o o' b : List ℕ) (k : WriteCalled way doc w w' o o' b) where
  -- The table that the words form.
  abbrev t : IsTable (length doc) w
  t = h.table

  -- The document's bytes in the form that is written.
  abbrev there : List ℕ
  there = layout_in way.to (turned way d)

  -- What the definition writes of the table is what the call answers and leaves.
  gives : WriteGives way doc w (written way doc t.head t.inner (length o)) o k.result o'
  gives = k.is.fit h.small t

  given : {x : Out (List ℕ)} → written way doc t.head t.inner (length o) ≡ x → WriteGives way doc w x o k.result o'
  given e = subst (λ (x : Out (List ℕ)). WriteGives way doc w x o k.result o') e gives

  -- What the table stands for has the same bytes.
  same-there : layout_in way.to (turned way (table_value way.from doc w t)) ≡ there
  same-there = ap (λ (e : Document). layout_in way.to (turned way e)) h.value

  is-written : LawfulBy (Carried way) d → Writes way.to (turned way d) o o' b
  is-written l =
      let c = subst (LawfulBy (Carried way)) (sym h.value) l in
      record {
        enough = λ le.
            let g = given (carried-written way doc t.head t.inner t.compound t.fair c (length o) (omega (arith, ap length same-there, le)) ∙ ap got same-there) in
            (k.words_are ∙ ap beside_words g.answer_is, g.output_is);
        short = λ lt.
            let g = given (carried-full way doc t.head t.inner t.compound t.fair c (length o) (omega (arith, ap length same-there, lt))) in
            (k.words_are ∙ ap beside_words g.answer_is, g.output_is);
      }

  is-read-back : (c : ℕ) → b ≡ 0 ∷ 0 ∷ c ∷ 0 ∷ 0 ∷ 0 ∷ 0 ∷ 0 ∷ [] → LawfulBy (Carried way) d × ReadAs way.to o' c (turned way d)
  is-read-back c e = go (written way doc t.head t.inner (length o)) refl gives
    where
      go : (x : Out (List ℕ)) → written way doc t.head t.inner (length o) ≡ x → WriteGives way doc w x o k.result o'
          → LawfulBy (Carried way) d × ReadAs way.to o' c (turned way d)
      go (got bs) is g =
          let l = was way doc w bytes h.small t (length o) bs is in
          let laid : bs ≡ there = l.is ∙ same-there in
          let words : 0 ∷ 0 ∷ length bs ∷ 0 ∷ 0 ∷ 0 ∷ 0 ∷ 0 ∷ [] ≡ 0 ∷ 0 ∷ c ∷ 0 ∷ 0 ∷ 0 ∷ 0 ∷ 0 ∷ [] = ap beside_words (sym g.answer_is) ∙ sym k.words_are ∙ e in
          let long : length there ≡ c = sym (ap length laid) ∙ cc in
          let out : over o 0 there ≡ o' = ap (over o 0) (sym laid) ∙ sym g.output_is in
          let carried = subst (LawfulBy (Carried way)) h.value l.carried in
          let read = output-read way.to (turned way d) o (turned-lawful way d carried) in
          (carried, subst (λ (m : ℕ). ReadAs way.to o' m (turned way d)) long (subst (λ (x : List ℕ). ReadAs way.to x (length there) (turned way d)) out read))
      go (no n p) is g =
          let words : beside_words (answer_of way doc w (no n p)) ≡ 0 ∷ 0 ∷ c ∷ 0 ∷ 0 ∷ 0 ∷ 0 ∷ 0 ∷ [] = ap beside_words (sym g.answer_is) ∙ sym k.words_are ∙ e in
          let z : n ≡ 0 = sym (first_word way doc w n p) ∙ ap (λ ws. get_or ws 0 0) words in
          let f = write-numbers way doc t.head t.inner (length o) n p is in
          absurd (zero-not-among (rw z at f))

-- Where the form stays, so does the document.
stays-written : (form : Form) (doc w : List ℕ) (d : Document) → Bytes doc → LawfulIn form d → Holds form doc w d → (w' o o' b : List ℕ) → WriteCalled (stays form) doc w w' o o' b
    → Writes form d o o' b
stays-written form doc w d bytes l h w' o o' b k =
    subst (λ (e : Document). Writes form e o o' b) (turned-stays form d) (is-written (stays form) doc w d bytes h w' o o' b k (carried-stays form d l))

stays-back : (form : Form) (doc w w' o o' b : List ℕ) (d : Document) → Bytes doc → Holds form doc w d → WriteCalled (stays form) doc w w' o o' b
    → (c : ℕ) → b ≡ 0 ∷ 0 ∷ c ∷ 0 ∷ 0 ∷ 0 ∷ 0 ∷ 0 ∷ [] → LawfulIn form d × ReadAs form o' c d
stays-back form doc w w' o o' b d bytes h k c e =
    let x = is-read-back (stays form) doc w d bytes h w' o o' b k c e in
    (carried_source (stays form) d x.0, subst (ReadAs form o' c) (turned-stays form d) x.1)

convert_back : (way : Way) (doc w w' o o' b : List ℕ) (d : Document) → Bytes doc → Holds way.from doc w d → WriteCalled way doc w w' o o' b
    → (c : ℕ) → b ≡ 0 ∷ 0 ∷ c ∷ 0 ∷ 0 ∷ 0 ∷ 0 ∷ 0 ∷ [] → LawfulIn way.from d × (meant way.to (turned way d) ≡ meant way.from d) × ReadAs way.to o' c (turned way d)
convert_back way doc w w' o o' b d bytes h k c e =
    let x = is-read-back way doc w d bytes h w' o o' b k c e in
    (carried_source way d x.0, turned-meant way d x.0, x.1)

-- ---- texts

parse_back : (t o o' b : List ℕ) → ParseCalled t o o' b → (e c : ℕ) → b ≡ 0 ∷ 0 ∷ e ∷ c ∷ 0 ∷ 0 ∷ 0 ∷ 0 ∷ []
    → (k : Block) × (parsed t (length o) ≡ got k) × Lawful (document_of k) × ReadAs java o' c (document_of k)
parse_back t o o' b r e c w = go (parsed t (length o)) refl (sym r.answer_is ∙ w) r.output_is
  where
    go : (x : Out Block) → parsed t (length o) ≡ x → parse_words (lengths_of x) ≡ 0 ∷ 0 ∷ e ∷ c ∷ 0 ∷ 0 ∷ 0 ∷ 0 ∷ [] → o' ≡ text.output_after x o
        → (k : Block) × (parsed t (length o) ≡ got k) × Lawful (document_of k) × ReadAs java o' c (document_of k)
    go (got k) is words out =
        let d = document_of k in
        let f = text-fills t (length o) k is in
        let long : length (layout d) ≡ c = sym f.0 ∙ cc in
        let lawful = lawful-text t (length o) k is in
        (k, is, lawful, subst (λ (m : ℕ). ReadAs java o' m d) long (subst (λ (x : List ℕ). ReadAs java x (length (layout d)) d) (sym out) (output-read java d o lawful)))
    go (no n p) is words out =
        let z : n ≡ 0 = cc in
        absurd (text-never-zero t (length o) p (is ∙ ap (λ (m : ℕ). no m p) z))

-- ---- rescues

-- An answer that begins with 0 is of what is kept.
rescue_back : (form : Form) (doc t t' o o' c c' b : List ℕ) → Bytes doc → RescueCalled form doc t t' o o' c c' b
    → (n m : ℕ) → b ≡ 0 ∷ 0 ∷ n ∷ m ∷ 0 ∷ 0 ∷ 0 ∷ 0 ∷ []
    → (k : Kept) × (kept_of form doc (room_of (length t)) ≡ got k) × LawfulIn form (cut.document_of form doc k.forest) × ReadAs form o' n (cut.document_of form doc k.forest)
rescue_back form doc t t' o o' c c' b bytes r n m e =
    go (rescuing form doc t o c) (rescue-way form doc bytes (room_of (length t)) (length c / 3) (length o)) (sym r.answer_is ∙ e) r.output_is
  where
    go : (x : Rescue) → Outcome form doc (room_of (length t)) (length c / 3) (length o) x → rescue_words (sizes_of x) ≡ 0 ∷ 0 ∷ n ∷ m ∷ 0 ∷ 0 ∷ 0 ∷ 0 ∷ [] → o' ≡ bytes_after x o
        → (k : Kept) × (kept_of form doc (room_of (length t)) ≡ got k) × LawfulIn form (cut.document_of form doc k.forest) × ReadAs form o' n (cut.document_of form doc k.forest)
    go (saved bs ls) w words out =
        let k = w.0 in
        let d = cut.document_of form doc k.forest in
        let whole = rescued-lawful form doc bytes (room_of (length t)) k (room-le (length t)) w.1 in
        let lawful : LawfulIn form d = subst (λ f. LawfulIn form (cut.document_of form doc f)) (sym whole.is) whole.lawful in
        let long : length (layout_in form d) ≡ n = sym (ap length w.2) ∙ cc in
        let here : over o 0 (layout_in form d) ≡ o' = ap (over o 0) (sym w.2) ∙ sym out in
        (k, w.1, lawful, subst (λ (i : ℕ). ReadAs form o' i d) long (subst (λ (x : List ℕ). ReadAs form x (length (layout_in form d)) d) here (output-read form d o lawful)))
    go (cut.refused k p i) w words out =
        let z : k ≡ 0 = cc in
        absurd (zero-not-rescued (rw z at w.0))

-- A cut of what was read.
rescue_cut : (form : Form) (doc rest t₁ t₁' a : List ℕ) → Bytes (doc ++ rest) → ReadCalled form (doc ++ rest) t₁ t₁' a → (e n : ℕ) → a ≡ 0 ∷ 0 ∷ e ∷ n ∷ 0 ∷ 0 ∷ 0 ∷ 0 ∷ []
    → (d : Document) × Reads form (doc ++ rest) t₁' a e d × CutRescued form doc e (length t₁) d
rescue_cut form doc rest t₁ t₁' a bytes r e n w =
    let accepted = held form (doc ++ rest) t₁ t₁' bytes r e n w in
    let x = accepted.0 in
    let y = accepted.1 in
    let d = value_of form (doc ++ rest) x.head x.inner in (
      d,
      held_reads form (doc ++ rest) t₁ t₁' a bytes e n w x y,
      record {
        rescues = λ short named t t' o o' c c' b same lines out s.
            let room : room_of (length t) ≡ room_of (length t₁) = ap room_of same in
            let saves : rescuing form doc t o c ≡ saved (layout_in form (cut_document form d (length doc))) (document_lines form d (length doc)) =
            ap (λ (i : ℕ). rescued form doc i (length c / 3) (length o)) room
            ∙ every-cut form doc rest bytes (room_of (length t₁)) x y.is d refl (omega (arith, short, y.consumed)) named (length c / 3) (length o) (omega (arith, lines)) out in (
              s.answer_is ∙ ap (λ z. rescue_words (sizes_of z)) saves,
              s.output_is ∙ ap (λ z. bytes_after z o) saves,
              s.changes_is ∙ ap (λ z. lines_after z c) saves,
            );
      },
    )

pub demand-two : DemandTwo
demand-two = record {
  sound = sound;
  complete = complete;
  written = stays-written;
  write_back = stays-back;
  converted = λ way doc w d bytes l h w' o o' b k. is-written way doc w d bytes h w' o o' b k l;
  convert_back = convert_back;
  parse_back = parse_back;
  rescue_back = rescue_back;
  rescue_cut = rescue_cut;
}
