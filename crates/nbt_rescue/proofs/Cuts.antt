-- Laws of a rescue over plain values: what the writer gives of the records kept, and one law for each way that a rescue ends.
-- Assumes nothing.
use Prim.Native.Nat.{ℕ, ◌+◌, ◌*◌, ◌/◌, ◌≤◌, ◌<◌}
use mathlib.Core.Bool.{Bool, true, false}
use mathlib.Core.List.{List}
use mathlib.Core.Path.{◌≡◌, refl, sym, ap, subst, ◌∙◌}
use native.Mathlib.Omega.{arith}
use lib.ListN.{length, take, drop, replicate, length-replicate}
use lib.Seq.{take-append_seam}
use lib.Dec.{leb}
use borrow.Author.Tests.{leb-true, leb-false}
use Rattle.form.specs.Form.{Form, stays}
use Rattle.form.specs.Answer.{Out, got, no, pick, Count, counted, failed as refusal, output_full}
use Rattle.form.specs.Refusals.{number_of}
use Rattle.form.specs.declared.refusals.Refusal.{Refusal}
use Rattle.form.specs.declared.refusals.Refusal.TheVariants.{DataEnds, RootId, TagId, BadString, NegativeCount, NameTwice, TooDeep, TableFull, OverLimit, NoTable, MixedList, LongString, OutputFull, BadQuery, BadText, QuoteOpen, UnknownEscape, BadNumber, UnexpectedToken, TextEnds, TrailingComma, UnmatchedBrace, DecimalBeyond, MoreMatches, BadLine, NotCut, RootCut}
use Rattle.form.specs.Spans.{over}
use Rattle.form.specs.Layout.{layout_in}
use Rattle.form.specs.Table.{flat, wrote, value_of}
use Rattle.form.specs.Reading.{One, Counts, counts_of, room_of, document_at, reading, string_at, table_after, ReadIs}
use Rattle.form.specs.Writing.{written, WriteGives, WriteIs}
use Rattle.form.specs.Cut.{Kept, Rescue, Sizes, saved, refused, sizes, failed, kept_of, document_of, line_words, rescued, rescuing, sizes_of, bytes_after, lines_after, RescueIs}
use Rattle.form.proofs.Answer.{got-no}
use Rattle.form.proofs.Outcomes.{counted-failed}
use Rattle.form.proofs.Table.{flat-length, wrote-length}
use Rattle.form.proofs.Payloads.{room-le}
use Rattle.form.proofs.Cut.{not-both, kept-is, rescued-accepted, rescued-other, rescued-root, rescued-short, rescued-full, rescued-saved}
use Rattle.demands.specs.Reading.{Bytes}
use Rattle.demands.specs.Rescue.{Whole}
use Rattle.demands.proofs.Rescue.{rescued-lawful, rescued-long, rescued-lined, rescued-written}
use Rattle.nbt_writer.specs.Steps.{WroteIs, Fits, PutIs}
use Rattle.nbt_rescue.specs.Answers.{GatheredIn, LaidIs, Roomy, KeptPut, most_of, TightAsked, CutIs}
use Rattle.std.specs.Prelude.{Option, Some, None}
use Rattle.nbt_gather.specs.declared.Gathered.{Gathered}
use Rattle.nbt_gather.specs.Steps.{KeptIn, GatheredIs}

-- ---- the layout of what is kept

-- The document of the table that the records kept form is theirs.
table-laid : (form : Form) (doc : List ℕ) (room : ℕ) (k : Kept) (w : Whole form doc room k)
    → layout_in form (value_of form doc w.table.head w.table.inner) ≡ layout_in form (document_of form doc k.forest)
table-laid form doc room k w = (λ i. layout_in form (value_of form doc (w.table_head i) (w.table_inner i))) ∙ ap (λ f. layout_in form (document_of form doc f)) (sym w.is)

-- The writer, given the words of the records kept, gives the layout of the document that they stand for, or 13.
pub laid-is : (form : Form) (doc t w w' o o' : List ℕ) (records : ℕ) (answer : Count) → Bytes doc → GatheredIn form doc t records → w ≡ take (9 * records) t
    → WroteIs (stays form) doc w w' o answer o' → LaidIs form doc t o answer o'
laid-is form doc t w w' o o' records answer bytes g e h k is =
    let same : g.k ≡ k = cc (g.is, is) in
    let few = room-le (length t) in
    let whole = rescued-lawful form doc bytes (room_of (length t)) k few is in
    let tree = ap (flat 0 0) whole.is in
    let words = e ∙ g.words_are ∙ ap (λ (k : Kept). flat 0 0 k.forest) same ∙ tree in
    let gives = (subst (λ u. WriteIs (stays form) doc u o answer o') words h.is).fit whole.small whole.table in
    subst (λ v. WriteGives (stays form) doc (flat 0 0 k.forest) v o answer o')
    ((λ i. written (stays form) doc (whole.table_head i) (whole.table_inner i) (length o)) ∙ rescued-written form doc bytes (room_of (length t)) k few is whole (length o))
    (subst (λ u. WriteGives (stays form) doc u (written (stays form) doc whole.table.head whole.table.inner (length o)) o answer o') (sym tree) gives)

-- They form a table that has room, where the output has a byte for each of the document and of the lines.
pub roomy-fits : (form : Form) (doc t w o : List ℕ) (records : ℕ) → Bytes doc → Roomy form doc t records o → w ≡ take (9 * records) t → Fits form doc w o
roomy-fits form doc t w o records bytes g e =
    let k = g.gathered.k in
    let is = g.gathered.is in
    let whole = rescued-lawful form doc bytes (room_of (length t)) k (room-le (length t)) is in
    let words = e ∙ g.gathered.words_are ∙ ap (flat 0 0) whole.is in
    let long = ap length (table-laid form doc (room_of (length t)) k whole) in
    subst (λ u. Fits form doc u o) (sym words)
    (record {
      formed = record { small = whole.small; table = whole.table };
      room = omega (arith, long, rescued-long form doc bytes (room_of (length t)) k is, g.room);
    })

-- What is put of them is the layout of what is kept.
pub put_is : (form : Form) (doc t w o o' : List ℕ) (records r : ℕ) → Bytes doc → GatheredIn form doc t records → w ≡ take (9 * records) t
    → PutIs form doc w o o' r → KeptPut form doc t o o' r
put_is form doc t w o o' records r bytes g e h k is =
    let same : g.k ≡ k = cc (g.is, is) in
    let whole = rescued-lawful form doc bytes (room_of (length t)) k (room-le (length t)) is in
    let words = e ∙ g.words_are ∙ ap (λ (k : Kept). flat 0 0 k.forest) same ∙ ap (flat 0 0) whole.is in
    let puts = subst (λ u. PutIs form doc u o o' r) words h whole.table in
    let laid = table-laid form doc (room_of (length t)) k whole in
    (omega (arith, puts.next, ap length laid), puts.is ∙ ap (over o 0) laid)

-- ---- what is gathered

-- Gathered again, with room for all lines, they are put there.
listed-again : (form : Form) (doc t t' c c' : List ℕ) (k : Kept) → kept_of form doc (room_of (length t)) ≡ got k → (most : ℕ) → length k.lines ≤ most
    → (r : Option Gathered) → GatheredIs form doc t t' c c' most r → c' ≡ over c 0 (line_words k.lines)
listed-again form doc t t' c c' k is most l (Some r) g =
    let same : g.k ≡ k = cc (g.is, is) in
    g.listed (omega (arith, g.lines_are, ap (λ (k : Kept). length k.lines) same, l)) ∙ ap (λ (k : Kept). over c 0 (line_words k.lines)) same
listed-again form doc t t' c c' k is most l None g = absurd (not-both (kept-is form doc (room_of (length t)) is).cut.named g.0.2)

-- The output has room for the document and a byte for each line, where there are lines, and no more than may be put.
most-room : (doc out words most : ℕ) → most ≡ most_of doc out words → (lines : ℕ) → 0 < lines → lines ≤ most → doc + lines ≤ out
most-room doc out words most q lines some l = omega (arith, q, some, l)

-- ---- a document that is cut

-- A way that a rescue ends, but for the table.
cut_by : (form : Form) (doc t o c : List ℕ) (answer : Sizes) (o' c' : List ℕ) (x : Rescue) → rescuing form doc t o c ≡ x → answer ≡ sizes_of x → o' ≡ bytes_after x o
    → c' ≡ lines_after x c → CutIs form doc t o c answer o' c'
cut_by form doc t o c answer o' c' x e a b d = record {
  answer_is = a ∙ ap sizes_of (sym e);
  output_is = b ∙ ap (λ x. bytes_after x o) (sym e);
  changes_is = d ∙ ap (λ x. lines_after x c) (sym e);
}

-- A rescue depends on the table by its length alone.
cut_moved : (form : Form) (doc t u o c d : List ℕ) (answer : Sizes) (o' c' : List ℕ) → length u ≡ length t → d ≡ c → CutIs form doc u o d answer o' c' → CutIs form doc t o c answer o' c'
cut_moved form doc t u o c d answer o' c' s same g =
    let f : rescuing form doc u o d ≡ rescuing form doc t o c = λ i. rescued form doc (room_of (s i)) (length (same i) / 3) (length o) in
    record {
      answer_is = g.answer_is ∙ ap sizes_of f;
      output_is = g.output_is ∙ ap (λ x. bytes_after x o) f;
      changes_is = g.changes_is ∙ (λ i. lines_after (f i) (same i));
    }

-- 32: the root's id or name is cut.
pub cut-root : (form : Form) (doc t o c d : List ℕ) {p m q : ℕ} → reading form doc t ≡ no 1 p → string_at form doc 1 ≡ no m q → d ≡ c → CutIs form doc t o c (failed 32 p 0) o d
cut-root form doc t o c d {p} e s same =
    cut_by form doc t o c (failed 32 p 0) o d (refused 32 p 0) (rescued-root form doc (room_of (length t)) (length c / 3) (length o) e s) refl refl same

-- No refusal but the first is 1.
pub number-other : (r : Refusal) → (r ≡ DataEnds → ⊥) → number_of r ≡ 1 → ⊥
number-other DataEnds d e = d refl
number-other RootId d e = omega (arith, e)
number-other TagId d e = omega (arith, e)
number-other BadString d e = omega (arith, e)
number-other NegativeCount d e = omega (arith, e)
number-other NameTwice d e = omega (arith, e)
number-other TooDeep d e = omega (arith, e)
number-other TableFull d e = omega (arith, e)
number-other OverLimit d e = omega (arith, e)
number-other NoTable d e = omega (arith, e)
number-other MixedList d e = omega (arith, e)
number-other LongString d e = omega (arith, e)
number-other OutputFull d e = omega (arith, e)
number-other BadQuery d e = omega (arith, e)
number-other BadText d e = omega (arith, e)
number-other QuoteOpen d e = omega (arith, e)
number-other UnknownEscape d e = omega (arith, e)
number-other BadNumber d e = omega (arith, e)
number-other UnexpectedToken d e = omega (arith, e)
number-other TextEnds d e = omega (arith, e)
number-other TrailingComma d e = omega (arith, e)
number-other UnmatchedBrace d e = omega (arith, e)
number-other DecimalBeyond d e = omega (arith, e)
number-other MoreMatches d e = omega (arith, e)
number-other BadLine d e = omega (arith, e)
number-other NotCut d e = omega (arith, e)
number-other RootCut d e = omega (arith, e)

-- What is read depends on the table by its length alone.
pub read_again : (form : Form) (doc t u : List ℕ) {p : ℕ} → length u ≡ length t → reading form doc t ≡ no 1 p → reading form doc u ≡ no 1 p
read_again form doc t u s e = ap (λ n. document_at form doc (room_of n)) s ∙ e

-- What the layout leaves, by whether there is room: 13, with nothing changed, or the bytes.
laid-refused : (form : Form) (doc w bs o o' : List ℕ) (b : Bool) (m p r : ℕ) → leb (length bs) (length o) ≡ b → WriteGives (stays form) doc w (pick b (got bs) (no output_full 0)) o (refusal m p r) o'
    → (length o < length bs) × (m ≡ 13) × (p ≡ 0) × (o' ≡ o)
laid-refused form doc w bs o o' true m p r e g = absurd (counted-failed (sym g.answer_is))
laid-refused form doc w bs o o' false m p r e g =
    let f : m ≡ 13 = cc g.answer_is in
    let h : p ≡ 0 = cc g.answer_is in
    (leb-false (length bs) (length o) e, f, h, g.output_is)

laid-saved : (form : Form) (doc w bs o o' : List ℕ) (b : Bool) (n : ℕ) → leb (length bs) (length o) ≡ b → WriteGives (stays form) doc w (pick b (got bs) (no output_full 0)) o (counted n) o'
    → (length bs ≤ length o) × (n ≡ length bs) × (o' ≡ over o 0 bs)
laid-saved form doc w bs o o' true n e g =
    let f : n ≡ length bs = cc g.answer_is in
    (leb-true (length bs) (length o) e, f, g.output_is)
laid-saved form doc w bs o o' false n e g = absurd (counted-failed g.answer_is)

-- ---- where the output is short

-- n lines are kept, and the list has room for them; the layout has been asked for.
module _ (form : Form) (doc t o c : List ℕ) (records n : ℕ) (g : TightAsked form doc t records n c) (o' : List ℕ) (answer : Count) (laid : LaidIs form doc t o answer o') where
  abbrev k : Kept
  k = g.gathered.k

  abbrev is : kept_of form doc (room_of (length t)) ≡ got k
  is = g.gathered.is

  abbrev bytes : List ℕ
  bytes = layout_in form (document_of form doc k.forest)

  gives : (a : Count) → answer ≡ a → WriteGives (stays form) doc (flat 0 0 k.forest) (pick (leb (length bytes) (length o)) (got bytes) (no output_full 0)) o a o'
  gives a f = subst (λ a. WriteGives (stays form) doc (flat 0 0 k.forest) (pick (leb (length bytes) (length o)) (got bytes) (no output_full 0)) o a o') f (laid k is)

  room : length k.lines ≤ length c / 3
  room = omega (arith, g.many, g.room)

  -- 13: the output is too short.
  pub tight-full : (m p r : ℕ) → answer ≡ refusal m p r → CutIs form doc t o c (failed m p 0) o' c
  tight-full m p r a =
      let h = laid-refused form doc _ bytes o o' (leb (length bytes) (length o)) m p r refl (gives (refusal m p r) a) in
      cut_by form doc t o c (failed m p 0) o' c (refused 13 0 0) (rescued-full form doc (room_of (length t)) (length c / 3) (length o) is room h.0)
      (λ i. failed (h.1 i) (h.2 i) 0) h.3 refl

  -- The document, and its lines when they are gathered once more.
  pub tight-saved : (z : ℕ) → answer ≡ counted z → (u u' c' : List ℕ) → length u ≡ length t → (r : Option Gathered) → GatheredIs form doc u u' c c' (length c / 3) r
      → CutIs form doc t o c (sizes z n) o' c'
  tight-saved z a u u' c' s r again =
      let h = laid-saved form doc _ bytes o o' (leb (length bytes) (length o)) z refl (gives (counted z) a) in
      let put = listed-again form doc u u' c c' k (ap (λ n. kept_of form doc (room_of n)) s ∙ is) (length c / 3) room r again in
      cut_by form doc t o c (sizes z n) o' c' (saved bytes k.lines) (rescued-saved form doc (room_of (length t)) (length c / 3) (length o) is room h.0)
      (λ i. sizes (h.1 i) (g.many i)) h.2 put

-- ---- what is kept, with its lines in the list if they are `most` at the most

module _ (form : Form) (doc t t' c d : List ℕ) (most n l : ℕ) (g : KeptIn form doc t t' c d most n l) where
  -- The table is as long as it was.
  same-table : length t' ≡ length t
  same-table = ap length g.table ∙ wrote-length t 0 0 g.k.forest (omega (arith, g.fits, g.records_are))

  -- The records gathered, as the layout wants them.
  gathered-in : GatheredIn form doc t' n
  unfolding wrote over
  gathered-in =
      let f = g.k.forest in
      let words : 9 * n ≡ length (flat 0 0 f) = ap (λ n. 9 * n) g.records_are ∙ sym (flat-length 0 0 f) in
      let first : take (length (flat 0 0 f)) (wrote t 0 0 f) ≡ flat 0 0 f = take-append_seam (flat 0 0 f) (drop (0 + length (flat 0 0 f)) t) in
      record {
        k = g.k;
        is = ap (λ n. kept_of form doc (room_of n)) same-table ∙ g.is;
        words_are = (λ i. take (words i) (g.table i)) ∙ first;
        fits = omega (arith, g.fits, same-table);
      }

  -- What `tight` is asked with.
  pub tight-asked : {p : ℕ} → reading form doc t ≡ no 1 p → l ≤ length d / 3 → TightAsked form doc t' n l d
  unfolding gathered-in
  tight-asked e m = record { cut = (_, read_again form doc t t' same-table e); gathered = gathered-in; many = g.lines_are; room = m }

  module _ (o : List ℕ) (q : most ≡ most_of (length doc) (length o) (length c)) where
    -- 24: the list of changes is too short, so that nothing has been put there.
    pub cut_short : length d ≡ length c → length d / 3 < l → CutIs form doc t o c (failed 24 0 l) o d
    cut_short s m =
        cut_by form doc t o c (failed 24 0 l) o d (refused 24 0 (length g.k.lines))
        (rescued-short form doc (room_of (length t)) (length c / 3) (length o) g.is (omega (arith, g.lines_are, s, m)))
        (ap (failed 24 0) g.lines_are) refl (g.unlisted (omega (arith, q, s, m)))

    -- More lines than `most`: the list is as it was, and the answer that of `tight`.
    pub cut-tight : most < l → (answer : Sizes) (o' c' : List ℕ) → CutIs form doc t' o d answer o' c' → CutIs form doc t o c answer o' c'
    cut-tight m answer o' c' h = cut_moved form doc t t' o c d answer o' c' same-table (g.unlisted m) h

    module _ (m : l ≤ most) where
      -- There is a line, the root's, so that the output has room.
      enough : length doc + length g.k.lines ≤ length o
      enough =
          let first = (rescued-lined form doc (room_of (length t)) g.k g.is).1 in
          let some : 0 < length g.k.lines = omega (arith, ap length first.2) in
          most-room (length doc) (length o) (length c) most q (length g.k.lines) some (omega (arith, g.lines_are, m))

      -- What `put` is asked with.
      pub roomy : Roomy form doc t' n o
      unfolding gathered-in
      roomy = record { gathered = gathered-in; room = enough }

      -- The document, and its lines, which stand in the list already.
      pub cut-put : Bytes doc → (o' : List ℕ) (z : ℕ) → KeptPut form doc t' o o' z → CutIs form doc t o c (sizes z l) o' d
      cut-put bytes o' z h =
          let put = h g.k (ap (λ n. kept_of form doc (room_of n)) same-table ∙ g.is) in
          let bs = layout_in form (document_of form doc g.k.forest) in
          let fits : length bs ≤ length o = omega (arith, rescued-long form doc bytes (room_of (length t)) g.k g.is, enough) in
          let room : length g.k.lines ≤ length c / 3 = omega (arith, q, g.lines_are, m) in
          cut_by form doc t o c (sizes z l) o' d (saved bs g.k.lines) (rescued-saved form doc (room_of (length t)) (length c / 3) (length o) g.is room fits)
          (λ i. sizes (put.0 i) (g.lines_are i)) put.1 (g.listed m)

-- ---- the promise

-- What the answer of a read says of the reading.
counts-got : {x : Counts} (r : Out One) → got x ≡ counts_of r → (y : One) × (r ≡ got y)
counts-got (got y) e = (y, refl)
counts-got (no m p) e = absurd (got-no e)

counts-no : {m p : ℕ} (r : Out One) → no m p ≡ counts_of r → r ≡ no m p
counts-no (got y) e = absurd (got-no (sym e))
counts-no {m} {p} (no n q) e =
    let f : n ≡ m = cc in
    let g : q ≡ p = cc in
    λ i. no (f i) (g i)

-- A read that was refused.
module _ (form : Form) (doc t u : List ℕ) (a : Out Counts) {m p : ℕ} (e : a ≡ no m p) (h : ReadIs form doc t a u) where
  was-refused : reading form doc t ≡ no m p
  was-refused = counts-no (reading form doc t) (sym e ∙ h.answer_is)

  -- It leaves a table of the same length.
  same_length : length u ≡ length t
  same_length = ap length (h.table_is ∙ ap (λ x. table_after x t) was-refused) ∙ length-replicate (length t) 0

  -- With 1, it is so refused again.
  pub read-cut : m ≡ 1 → reading form doc u ≡ no 1 p
  read-cut f = read_again form doc t u same_length (was-refused ∙ ap (λ m. no m p) f)

module _ (form : Form) (doc t o c : List ℕ) where
  -- A refusal by the read alone: nothing but the table is changed.
  refused-by : (u : List ℕ) (m p : ℕ) → u ≡ table_after (reading form doc t) t → rescuing form doc t o c ≡ refused m p 0 → RescueIs form doc t o c (failed m p 0) u o c
  refused-by u m p a e = record {
    answer_is = ap sizes_of (sym e);
    table_is = a;
    output_is = ap (λ x. bytes_after x o) (sym e);
    changes_is = ap (λ x. lines_after x c) (sym e);
  }

  -- 31: the document is accepted.
  pub rescue-accepted : (u : List ℕ) (a : Out Counts) {x : Counts} → a ≡ got x → ReadIs form doc t a u → RescueIs form doc t o c (failed 31 0 0) u o c
  rescue-accepted u a e h =
      let r = counts-got (reading form doc t) (sym e ∙ h.answer_is) in
      refused-by u 31 0 h.table_is (rescued-accepted form doc (room_of (length t)) (length c / 3) (length o) r.1)

  -- The reader's other refusals.
  pub rescue-other : (u : List ℕ) (a : Out Counts) {m p : ℕ} → a ≡ no m p → ReadIs form doc t a u → (m ≡ 1 → ⊥) → RescueIs form doc t o c (failed m p 0) u o c
  rescue-other u a {m} {p} e h d =
      refused-by u m p h.table_is (rescued-other form doc (room_of (length t)) (length c / 3) (length o) (was-refused form doc t u a e h) d)

  -- A document that is cut; the table is all zero in the end.
  pub rescue_cut : (u : List ℕ) (a : Out Counts) {m p : ℕ} → a ≡ no m p → ReadIs form doc t a u → (v t' o' c' : List ℕ) (answer : Sizes) → CutIs form doc u o c answer o' c'
      → length v ≡ length u → t' ≡ replicate (length v) 0 → RescueIs form doc t o c answer t' o' c'
  rescue_cut u a e h v t' o' c' answer g w z =
      let s = same_length form doc t u a e h in
      let moved = cut_moved form doc t u o c c answer o' c' s refl g in
      record {
        answer_is = moved.answer_is;
        table_is = z ∙ ap (λ n. replicate n 0) (w ∙ s) ∙ ap (λ x. table_after x t) (sym (was-refused form doc t u a e h));
        output_is = moved.output_is;
        changes_is = moved.changes_is;
      }
