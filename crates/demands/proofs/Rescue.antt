-- The theorems on rescuing a cut document, as specs/Rescue.antt states them.
-- Assumes nothing.
use Prim.Native.Nat.{ℕ, ◌+◌, ◌-◌, ◌≤◌}
use mathlib.Core.Bool.{Bool, true, false}
use mathlib.Core.List.{List, [], ◌∷◌, ◌++◌}
use mathlib.Core.Path.{◌≡◌, refl, sym, ap, subst, ◌∙◌}
use native.Mathlib.Omega.{arith}
use lib.Dec.{leb, eqb}
use borrow.Author.Tests.{leb-true, leb-false, eqb-true, eqb-false, ne_eqb}
use lib.ListN.{length}
use Rattle.form.specs.Form.{Form, stays}
use Rattle.form.specs.Answer.{Out, got, no, guard, ◌>>◌, pick, output_full, document_limit, record_limit, depth_limit}
use Rattle.form.specs.Spans.{part}
use Rattle.form.specs.Tree.{compound, ended, entry, Document, LawfulIn, depth, TextIn, entries_count, ValidBy}
use Rattle.form.specs.Layout.{layout_in}
use Rattle.form.specs.Table.{Head, Forest, none, node, size, value_by, tags_of, entries_of, value_of}
use Rattle.form.specs.Tables.{Fair}
use Rattle.form.specs.Reading.{One, Span, string_at, inside_at, document_at}
use Rattle.form.specs.Writing.{written}
use Rattle.form.specs.Cut.{Kept, Rescue, open_head, begun_at, kept_of, document_of, refused, saved, rescued}
use Rattle.form.proofs.Strings.{well_formed-iff}
use Rattle.form.proofs.Fields.{string-within}
use Rattle.form.proofs.Table.{size-one, flat-length}
use Rattle.form.proofs.Tables.{fair-node, fair-none, fair-inner, name-within}
use Rattle.form.proofs.Cut.{not-both, kept-is, kept_of_lem, begun-compound, rescued-accepted, rescued-other, rescued-root, rescued-short, rescued-full, rescued-saved}
use Rattle.form.proofs.Agrees.{Agrees, agrees-got, agrees-other}
use Rattle.form.proofs.Accepted.{root-parts}
use Rattle.form.proofs.Payloads.{payload-name}
use Rattle.form.proofs.Rooms.{document-agrees, kept_more}
use Rattle.snbt_form.specs.Lexing.{among}
use Rattle.snbt_form.proofs.Gives.{among-all}
use Rattle.demands.specs.Reading.{Bytes, Complete}
use Rattle.demands.specs.Numbers.{read_numbers, rescue_numbers, IsRescueNumbers}
use Rattle.demands.specs.Rescue.{Whole, SameBut, IsRescuedWhen, IsRescuedLawful, IsRescuedRead, IsRescuedLong, IsRescuedWritten, IsRescuedLined, IsRescuedAll}
use Rattle.demands.specs.Rescue.{IsRescuedLines, IsCutRefused, IsEveryCut, cut_document, document_lines, BeginsEntries, IsCutBegins, IsRescuedBegins}
use Rattle.form.proofs.Answers.{of-got}
use Rattle.demands.proofs.Fields.{StringLaw, string-length, string-sound}
use Rattle.demands.proofs.Tags.{read_at}
use Rattle.demands.proofs.Carried.{carried-stays, layout_stays}
use Rattle.demands.proofs.Judged.{value-compound, counted, lawful-root}
use Rattle.demands.proofs.Tabled.{root_is}
use Rattle.demands.proofs.Reading.{canonical, sound, complete}
use Rattle.demands.proofs.Numbers.{read-numbers}
use Rattle.demands.proofs.Front.{bytes-front, string-back}
use Rattle.demands.proofs.Prefix.{document-agrees as prefix-agrees}
use Rattle.demands.proofs.Kept.{GoodTag, open-compound, good-rules}
use Rattle.demands.proofs.Induction.{root-holds}
use Rattle.demands.proofs.Shapes.{Stand, same-but}
use Rattle.demands.proofs.Trees.{entries-begin}
use Rattle.demands.proofs.Lined.{document-lined}
use Rattle.demands.proofs.Long.{document-long}
use Rattle.demands.proofs.Cutting.{DocumentIs, document-is}

wf : (form : Form) → StringLaw form
wf form = well_formed-iff form.strings

-- What is kept, and of which documents.
pub rescued-when : (form : Form) → IsRescuedWhen form
rescued-when form doc room = (λ p s e w. (_, kept_of_lem form doc room w e), λ k e. let i = kept-is form doc room e in (i.p, i.s, i.cut.refused, i.cut.named))

-- A root that is kept is whole.
root-whole : (form : Form) (doc : List ℕ) (room name len : ℕ) (k : Kept) (inner : Forest) → room ≤ record_limit → length doc ≤ 16777216 → name + len ≤ length doc → TextIn form (part doc name len)
    → k.forest ≡ node (open_head 10 name len inner) inner none → GoodTag form doc room depth_limit 10 name len 0 (open_head 10 name len inner) inner → Whole form doc room k
unfolding ValidBy depth value_by
root-whole form doc room name len k inner few small w text e g =
    let h = open_head 10 name len inner in
    let fair : Fair (length doc) false (node h inner none) =
    fair-node (length doc) false h inner none (name-within (length doc) h w) g.sort g.fair (fair-none (length doc) false) in
    record {
      head = h;
      inner = inner;
      is = e;
      table = record { head = h; inner = inner; compound = refl; fair = fair; these = refl };
      table_head = refl;
      table_inner = refl;
      small = record { bytes = small; words = omega (arith, flat-length 0 0 (node h inner none), size-one h inner, g.fits) };
      lawful = record { name = text; valid = g.valid; depth_le = g.deep };
      records = sym (counted (stays form) doc false inner g.fair).entries;
      fits = omega (arith, g.fits);
    }

-- Whatever is kept is whole.
pub rescued-lawful : (form : Form) → IsRescuedLawful form
rescued-lawful form doc bytes room k few e =
    let i = kept-is form doc room e in
    let s = i.s in
    let w = string-within form doc 1 i.cut.named in
    let t = of-got i.cut.named (string-sound form doc (wf form) bytes 1) in
    root-whole form doc room s.start s.size k _ few i.cut.small (omega (arith, w.sum, w.to)) t.text
    (ap (λ (k : Kept). k.forest) (i.is ∙ begun-compound form doc room 511 s.next 0 s.start s.size))
    (open-compound form doc room 511 0 s.start s.size _
    (root-holds form doc (wf form) bytes room _ _ _ (good-rules form doc room) 511 s.start s.size s.next 0 i.p w.to i.cut.payload).1)

-- The root that is kept, as a table has it.
whole-fair : (form : Form) → {doc : List ℕ} {room : ℕ} {k : Kept} (w : Whole form doc room k) → (w.head.kind ≡ 10) × Fair (length doc) false (node w.head w.inner none)
whole-fair form {doc} w = (
  ap (λ (h : Head). h.kind) (sym w.table_head) ∙ w.table.compound,
  subst (λ (i : Forest). Fair (length doc) false (node w.head i none)) w.table_inner
      (subst (λ (h : Head). Fair (length doc) false (node h w.table.inner none)) w.table_head w.table.fair),
)

-- Roots of one document stand for the same, with their names.
roots-same : (form : Form) (doc₁ doc₂ : List ℕ) (h i : Head) (inner inside : Forest) → h.kind ≡ 10 → i.kind ≡ 10 → value_of form doc₁ h inner ≡ value_of form doc₂ i inside
    → Stand form doc₁ doc₂ false (node h inner none) (node i inside none)
unfolding entries_of value_by
roots-same form doc₁ doc₂ h i inner inside a b e =
    λ j. entry (e j).name ((value-compound (stays form) doc₁ h (tags_of form doc₁ inner) (entries_of form doc₁ inner) a
    ∙ ap (λ (d : Document). compound d.root) e ∙ sym (value-compound (stays form) doc₂ i (tags_of form doc₂ inside) (entries_of form doc₂ inside) b)) j) ended

-- What keeps the rules is read back, with the same records.
read_whole : (form : Form) (doc : List ℕ) (room : ℕ) (h : Head) (inner : Forest) → h.kind ≡ 10 → Fair (length doc) false (node h inner none) → LawfulIn form (value_of form doc h inner)
    → size inner ≡ entries_count (value_of form doc h inner).root → 1 + size inner ≤ room
    → (rest : List ℕ) → length (layout_in form (value_of form doc h inner) ++ rest) ≤ document_limit
    → (c : Complete form (layout_in form (value_of form doc h inner) ++ rest) room (value_of form doc h inner) (layout_in form (value_of form doc h inner)))
    × (1 + size c.x.inner ≡ size (node h inner none)) × SameBut (node h inner none) (node c.x.head c.x.inner none)
read_whole form doc room h inner ten fair lawful records fits rest small =
    let d = value_of form doc h inner in
    let bs = layout_in form d ++ rest in
    let c = complete form d (layout_in form d) rest room (canonical form d) lawful (omega (arith, records)) small in
    let x = c.x in
    let f = of-got c.accepted (root_is form bs room) in
    let n = counted (stays form) bs (eqb x.head.kind 9) x.inner (fair-inner (length bs) false x.head x.inner none f.fair) in (
      c,
      omega (arith, n.entries, ap (λ (d : Document). entries_count d.root) c.tree, records, size-one h inner),
      same-but form doc bs false (node h inner none) (node x.head x.inner none) fair f.fair (roots-same form doc bs h x.head inner x.inner ten f.compound (sym c.tree)),
    )

-- So whatever is kept is read back.
pub rescued-read : (form : Form) → IsRescuedRead form
rescued-read form doc bytes room k few e rest =
    let w = rescued-lawful form doc bytes room k few e in
    let g = whole-fair form w in
    subst (λ f. length (layout_in form (document_of form doc f) ++ rest) ≤ document_limit
    → (c : Complete form (layout_in form (document_of form doc f) ++ rest) room (document_of form doc f) (layout_in form (document_of form doc f)))
    × (1 + size c.x.inner ≡ size f) × SameBut f (node c.x.head c.x.inner none))
    (sym w.is) (read_whole form doc room w.head w.inner g.0 g.1 w.lawful w.records w.fits rest)

-- It is not much longer than the cut document.
pub rescued-long : (form : Form) → IsRescuedLong form
rescued-long form doc bytes room k e = document-long form doc (wf form) bytes room k e

-- And written by rule 8's writer, where there is room.
pub rescued-written : (form : Form) → IsRescuedWritten form
unfolding written
rescued-written form doc bytes room k few e w out =
    subst (λ f. written (stays form) doc w.head w.inner out ≡ pick (leb (length (layout_in form (document_of form doc f))) out) (got (layout_in form (document_of form doc f))) (no output_full 0))
    (sym w.is)
    (rw (lawful-root (stays form) doc w.head w.inner (whole-fair form w).0 (whole-fair form w).1 (carried-stays form d w.lawful), layout_stays form d)
    (go (leb (length (layout_in form d)) out)))
  where
    d : Document
    d = value_of form doc w.head w.inner

    go : (b : Bool) → (guard b output_full 0 >> got (layout_in form d)) ≡ pick b (got (layout_in form d)) (no output_full 0)
    go true = refl
    go false = refl

-- The lines are those of the records kept.
pub rescued-lined : (form : Form) → IsRescuedLined form
rescued-lined form doc room k e = document-lined form doc room k e

-- What is kept, and what is open, is what the bytes hold of the tree that is read when more follows, with any room.
document-of : (form : Form) (doc rest : List ℕ) (bytes : Bytes (doc ++ rest)) (room room' : ℕ) (k : Kept) (x : One) → kept_of form doc room ≡ got k → document_at form (doc ++ rest) room' ≡ got x
    → DocumentIs form doc rest (wf form) bytes (room + room') (value_of form (doc ++ rest) x.head x.inner) k
document-of form doc rest bytes room room' k x e f =
    document-is form doc rest (wf form) bytes (room + room') k x (kept_more form doc room (room + room') (omega arith) e)
    (agrees-got (document-agrees form (doc ++ rest) room' (room + room') (omega arith)) f)

pub rescued-all : (form : Form) → IsRescuedAll form
rescued-all form doc rest bytes room room' k x e f = (document-of form doc rest bytes room room' k x e f).tags

pub rescued-lines : (form : Form) → IsRescuedLines form
rescued-lines form doc rest bytes room room' k x e f = (document-of form doc rest bytes room room' k x e f).lines

-- A cut before the root's end is refused since the data ends.
pub cut-refused : (form : Form) → IsCutRefused form
cut-refused form doc rest bytes room x e l = go (document_at form doc room) refl
  where
    short : Bytes doc
    short = bytes-front doc rest bytes

    same : Agrees 1 (document_at form doc room) (document_at form (doc ++ rest) room)
    same = prefix-agrees form doc rest (wf form) short room (sound form (doc ++ rest) bytes room x e).small

    other : (m p : ℕ) → document_at form doc room ≡ no m p → (t : Bool) → eqb m 1 ≡ t → (p : ℕ) × (document_at form doc room ≡ no 1 p)
    other m p a true t = (p, a ∙ ap (λ m. no m p) (eqb-true m 1 t))
    other m p a false t = absurd (not-both e (agrees-other (eqb-false m 1 t) same a))

    go : (o : Out One) → document_at form doc room ≡ o → (p : ℕ) × (document_at form doc room ≡ no 1 p)
    go (got y) a =
        let z : y ≡ x = cc (agrees-got same a, e) in
        absurd (omega (arith, (sound form doc short room y a).within, ap (λ (x : One). x.next) z))
    go (no m p) a = other m p a (eqb m 1) refl

-- The root's name is whole where so many bytes are there.
name-whole : (form : Form) (doc rest : List ℕ) → Bytes (doc ++ rest) → (room : ℕ) (x : One) → document_at form (doc ++ rest) room ≡ got x
    → 3 + length (value_of form (doc ++ rest) x.head x.inner).name ≤ length doc
    → (s : Span) × (string_at form doc 1 ≡ got s)
name-whole form doc rest bytes room x e l = go (root-parts form (doc ++ rest) room e)
  where
    go : (s : Span) × (string_at form (doc ++ rest) 1 ≡ got s) × (read_at form (doc ++ rest) room depth_limit 10 s.start s.size s.next 0 ≡ got x) → (s : Span) × (string_at form doc 1 ≡ got s)
    go (s, a, b) =
        let q = payload-name form (doc ++ rest) room (inside_at form (doc ++ rest) room depth_limit) 10 s.start s.size s.next 0 b in
        let name : part (doc ++ rest) x.head.name x.head.name_length ≡ part (doc ++ rest) s.start s.size = rw (q.0, q.1) refl in
        let t = of-got a (string-sound form (doc ++ rest) (wf form) bytes 1) in
        (s, string-back form doc rest 1 a (omega (arith, t.next, string-length form (part (doc ++ rest) s.start s.size), ap length name)))

-- So every cut behind the root's name is rescued.
pub every-cut : (form : Form) → IsEveryCut form
every-cut form doc rest bytes room x e d q l n lines out few fits =
    let c = cut-refused form doc rest bytes room x e l in
    let s = name-whole form doc rest bytes room x e (subst (λ (d : Document). 3 + length d.name ≤ length doc) q n) in
    let w = kept_of_lem form doc room s.1 c.1 in
    let k = begun_at form doc room depth_limit 10 s.0.start s.0.size s.0.next 0 in
    let t : document_of form doc k.forest ≡ cut_document form d (length doc) = rescued-all form doc rest bytes room room k x w e ∙ ap (λ d. cut_document form d (length doc)) (sym q) in
    let v : k.lines ≡ document_lines form d (length doc) = rescued-lines form doc rest bytes room room k x w e ∙ ap (λ d. document_lines form d (length doc)) (sym q) in
    rescued-saved form doc room lines out w (omega (arith, ap length v)) (omega (arith, ap (λ d. length (layout_in form d)) t)) ∙ (λ i. saved (layout_in form (t i)) (v i))

-- What is kept of a tree begins it.
pub cut-begins : (form : Form) → IsCutBegins form
cut-begins form es m = entries-begin form es m

-- So what is kept of a document begins that tree.
pub rescued-begins : (form : Form) → IsRescuedBegins form
rescued-begins form doc rest bytes room room' k x e f =
    let d = value_of form (doc ++ rest) x.head x.inner in
    subst (λ (c : Document). (c.name ≡ d.name) × BeginsEntries c.root d.root)
    (sym (rescued-all form doc rest bytes room room' k x e f)) (refl, cut-begins form d.root (length doc - (3 + length d.name)))

-- ---- the answer

-- What a rescue answers: what is kept, laid out in the room for it; or a refusal with one of its numbers, and a count in 24 alone.
abbrev pub Outcome : Form → List ℕ → ℕ → ℕ → ℕ → Rescue → Type 0
Outcome form doc room lines out (saved bs ls) =
    (k : Kept) × (kept_of form doc room ≡ got k) × (bs ≡ layout_in form (document_of form doc k.forest)) × (ls ≡ k.lines) × (length bs ≤ out) × (length ls ≤ lines)
Outcome form doc room lines out (refused n p c) = (among rescue_numbers n ≡ true) × ((n ≡ 24 → ⊥) → c ≡ 0)

-- A read's number but 1 is a rescue's.
read_number : (n : ℕ) → among read_numbers n ≡ true → (n ≡ 1 → ⊥) → among rescue_numbers n ≡ true
unfolding among
read_number n h d = among-all (2 ∷ 3 ∷ 4 ∷ 5 ∷ 6 ∷ 7 ∷ 8 ∷ 9 ∷ []) rescue_numbers n refl (rw (ne_eqb n 1 d) at h)

module _ (form : Form) (doc : List ℕ) (bytes : Bytes doc) (room lines out : ℕ) where
  -- One that is known is the one.
  way : {r : Rescue} → rescued form doc room lines out ≡ r → Outcome form doc room lines out r → Outcome form doc room lines out (rescued form doc room lines out)
  way e w = subst (Outcome form doc room lines out) (sym e) w

  kept-way : (k : Kept) → kept_of form doc room ≡ got k → (a b : Bool) → leb (length k.lines) lines ≡ a → leb (length (layout_in form (document_of form doc k.forest))) out ≡ b
      → Outcome form doc room lines out (rescued form doc room lines out)
  unfolding among
  kept-way k f false b u v = way (rescued-short form doc room lines out f (leb-false _ lines u)) (refl, λ n. absurd (n refl))
  kept-way k f true false u v = way (rescued-full form doc room lines out f (leb-true _ lines u) (leb-false _ out v)) (refl, λ n. refl)
  kept-way k f true true u v =
      way (rescued-saved form doc room lines out f (leb-true _ lines u) (leb-true _ out v)) (k, f, refl, refl, leb-true _ out v, leb-true _ lines u)

  named-way : (q : ℕ) → document_at form doc room ≡ no 1 q → (o : Out Span) → string_at form doc 1 ≡ o → Outcome form doc room lines out (rescued form doc room lines out)
  unfolding among
  named-way q a (no m r) b = way (rescued-root form doc room lines out a b) (refl, λ n. refl)
  named-way q a (got s) b = kept-way _ (kept_of_lem form doc room b a) (leb _ lines) (leb _ out) refl refl

  cut-way : (m q : ℕ) → document_at form doc room ≡ no m q → (t : Bool) → eqb m 1 ≡ t → Outcome form doc room lines out (rescued form doc room lines out)
  cut-way m q a true t = named-way q (a ∙ ap (λ m. no m q) (eqb-true m 1 t)) (string_at form doc 1) refl
  cut-way m q a false t =
      let d = eqb-false m 1 t in
      way (rescued-other form doc room lines out a d) (read_number m (read-numbers form doc bytes room m q a) d, λ n. refl)

  -- So it is of every document.
  pub rescue-way : Outcome form doc room lines out (rescued form doc room lines out)
  unfolding among
  rescue-way = go (document_at form doc room) refl
    where
      go : (o : Out One) → document_at form doc room ≡ o → Outcome form doc room lines out (rescued form doc room lines out)
      go (got x) a = way (rescued-accepted form doc room lines out a) (refl, λ n. refl)
      go (no m q) a = cut-way m q a (eqb m 1) refl

pub rescue-numbers : (form : Form) → IsRescueNumbers form
rescue-numbers form doc bytes room lines out n p c e = subst (Outcome form doc room lines out) e (rescue-way form doc bytes room lines out)
