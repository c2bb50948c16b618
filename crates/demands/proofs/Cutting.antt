-- What is kept of a document is what its bytes hold of the tree that is read when more follows: rule by rule of the
-- induction over cut reads.
-- Assumes nothing.
use Prim.Native.Nat.{ℕ, zero, suc, ◌+◌, ◌-◌, ◌≤◌, ◌<◌}
use mathlib.Core.Bool.{Bool, true, false, ◌||◌}
use mathlib.Core.List.{List, ◌∷◌, ◌++◌}
use mathlib.Core.Path.{◌≡◌, refl, sym, ap, subst, ◌∙◌}
use native.Mathlib.Omega.{arith}
use lib.Dec.{leb, eqb}
use borrow.Author.Tests.{leb-true, leb-false, lt-ltb, le-leb, lt-leb}
use lib.ListN.{length, length-append}
use Rattle.form.specs.Form.{Form}
use Rattle.form.specs.Answer.{got, no, depth_limit}
use Rattle.form.specs.Spans.{part}
use Rattle.form.specs.Tree.{Tag, Tags, Entries, list, compound, more, entry, kind_of, many, tag_count, Document}
use Rattle.form.specs.Layout.{payload_in}
use Rattle.form.specs.Table.{Forest, none, node, size, width, ◌⊕◌, holds, value_by, tags_of, entries_of, value_of}
use Rattle.form.specs.Reading.{One, Run, Inside, Span, ListHead, Entry, end, named, held_one, string_at, entry_at, list_head_at, elements, entries, inside_at, document_at}
use Rattle.form.specs.Cut.{Kept, nothing, whole, open_head, opened, kept_entries, begun_at, kept_of, document_of}
use Rattle.form.proofs.Answer.{got-no}
use Rattle.form.proofs.Picks.{differ}
use Rattle.form.proofs.Fields.{string-within}
use Rattle.form.proofs.Payloads.{payload-name}
use Rattle.form.proofs.Values.{many_is}
use Rattle.form.proofs.Accepted.{elements-parts, elements-width, Entries as EntriesParts, EntriesBy, entries-parts, payload-parts, list-parts, compound-parts, root-parts}
use Rattle.form.proofs.Cut.{not-both, begun-compound, RootCut, KeptIs, kept-is}
use Rattle.demands.specs.Reading.{Bytes}
use Rattle.demands.specs.Rescue.{counts, cut_tag, cut_tags, cut_entries, cut_document, many_entries, tag_lines, element_lines, entry_lines, document_lines}
use Rattle.demands.proofs.Tests.{and_both, and-left-false, and-right-false}
use Rattle.form.proofs.Answers.{of-got, accepted}
use Rattle.demands.proofs.Tags.{tag_of, read_at}
use Rattle.demands.proofs.Fields.{StringLaw, string-length, string-sound}
use Rattle.demands.proofs.Heads.{entry-sound}
use Rattle.demands.proofs.Sound.{TagSound, tag-sound}
use Rattle.demands.proofs.Induction.{HeadOf, TagWhole, TagCut, Rules, root-holds}
use Rattle.demands.proofs.Complete.{TagRead, tag_read}
use Rattle.demands.proofs.Near.{payload-near}
use Rattle.demands.proofs.Front.{part-front, sits_on, sits-back, bytes-front, string-on, entry-on, entry-back, head-front}
use Rattle.demands.proofs.Trees.{payload-some, counts_whole, no-tags, no-entries, tags-none, tags-some, entries_none, entries-some, tag-whole}
use Rattle.demands.proofs.Trees.{lines-past, lines-here, lines_none, no_lines, entry-lines-past, entry-lines-here, entry-lines-none}

module _ (form : Form) (doc rest : List ℕ) (wf : StringLaw form) (bytes : Bytes (doc ++ rest)) (room : ℕ) where
  abbrev all : List ℕ
  all = doc ++ rest

  short : Bytes doc
  short = bytes-front doc rest bytes

  -- a tag that is whole in the first is read alike in both
  record Same (at : ℕ) (x y : One) : Type 0 where
    tag : tag_of form doc x ≡ tag_of form all y
    next : x.next ≡ y.next
    sizes : size x.inner ≡ size y.inner
    long : at + length (payload_in form (tag_of form all y)) ≡ x.next
    within : x.next ≤ length doc
    counted : tag_count (tag_of form all y) ≡ 1 + size x.inner

  same_tag : (d kind name len at n : ℕ) (x y : One) → 0 < kind → kind ≤ 12 → at ≤ length doc
      → read_at form doc room d kind name len at n ≡ got x → read_at form all room d kind name len at n ≡ got y → Same at x y
  same_tag d kind name len at n x y lo hi l e f =
      let s = of-got e (tag-sound form doc wf short room d name len at n kind lo hi l) in
      let t = tag_of form doc x in
      let r = accepted (read_at form all room d (kind_of t) name len at n)
      (tag_read form all wf room t s.bs d at n name len s.is.lays s.is.valid s.is.deep (sits_on doc rest s.sits) (omega (arith, s.fits, s.is.counts))) in
      let z = r.0 in
      let q : read_at form all room d kind name len at n ≡ got z = subst (λ k. read_at form all room d k name len at n ≡ got z) s.is.kind_is r.1 in
      let same : z ≡ y = cc (q, f) in
      let w : TagRead form all t name len (at + length s.bs) y = subst (TagRead form all t name len (at + length s.bs)) same r.2 in
      record {
        tag = sym w.is;
        next = s.next ∙ sym w.ends;
        sizes = omega (arith, w.counts, s.is.counts);
        long = omega (arith, (payload-near form t s.bs s.is.lays).long, s.next, ap (λ t. length (payload_in form t)) w.is);
        within = omega (arith, s.next, s.sits.to);
        counted = ap tag_count w.is ∙ s.is.counts;
      }

  -- a tag that is cut in the first goes beyond it
  beyond : (d kind name len at n p : ℕ) (y : One) → 0 < kind → kind ≤ 12 → at ≤ length doc
      → read_at form doc room d kind name len at n ≡ no 1 p → read_at form all room d kind name len at n ≡ got y
      → (length doc < at + length (payload_in form (tag_of form all y))) × (kind_of (tag_of form all y) ≡ kind)
  beyond d kind name len at n p y lo hi l e f = (go (leb (at + length (payload_in form t)) (length doc)) refl, s.is.kind_is)
    where
      t : Tag
      t = tag_of form all y

      s : TagSound form all room d kind name len at n y
      s = of-got f (tag-sound form all wf bytes room d name len at n kind lo hi (omega (arith, length-append doc rest)))

      go : (b : Bool) → leb (at + length (payload_in form t)) (length doc) ≡ b → length doc < at + length (payload_in form t)
      go false b = leb-false (at + length (payload_in form t)) (length doc) b
      go true b =
          let w = leb-true (at + length (payload_in form t)) (length doc) b in
          let r = accepted (read_at form doc room d (kind_of t) name len at n)
          (tag_read form doc wf room t s.bs d at n name len s.is.lays s.is.valid s.is.deep
          (sits-back doc rest (omega (arith, (payload-near form t s.bs s.is.lays).long)) s.sits) (omega (arith, s.fits, s.is.counts))) in
          absurd (not-both (subst (λ k. read_at form doc room d k name len at n ≡ got r.0) s.is.kind_is r.1) e)

  -- what is kept of a tag that is cut, with the name and number given, against the tag that is read when more follows
  data BegunIs (kind name len m n : ℕ) (t : Tag) (k : Kept) : Type 0 where
    lost : counts form t m ≡ false → k ≡ nothing → BegunIs kind name len m n t k
    held : counts form t m ≡ true → (inner : Forest) → k.forest ≡ node (open_head kind name len inner) inner none
        → value_by form doc (open_head kind name len inner) (tags_of form doc inner) (entries_of form doc inner) ≡ cut_tag form t m → k.lines ≡ tag_lines form t m n → BegunIs kind name len m n t k

  -- what is kept of elements, and of entries, the first of which has the number n
  record TagsAre (m n : ℕ) (ts : Tags) (k : Kept) : Type 0 where
    tags : tags_of form doc k.forest ≡ cut_tags form ts m
    lines : k.lines ≡ element_lines form ts m n

  record EntriesAre (m n : ℕ) (es : Entries) (k : Kept) : Type 0 where
    tags : entries_of form doc k.forest ≡ cut_entries form es m
    lines : k.lines ≡ entry_lines form es m n

  -- ---- one more

  begun-tags : (k m n : ℕ) (b : Kept) (t : Tag) (ts : Tags) → 0 < m → m < length (payload_in form t) → BegunIs k 0 0 m n t b → TagsAre m n (more t ts) b
  unfolding tags_of
  begun-tags k m n b t ts p l (lost c e) = record {
    tags = ap (λ (k : Kept). tags_of form doc k.forest) e ∙ sym (tags-none form t ts m (and-right-false (lt-ltb 0 m p) c));
    lines = ap (λ (k : Kept). k.lines) e ∙ sym (lines_none form t ts m n l (and-right-false (lt-ltb 0 m p) c));
  }
  begun-tags k m n b t ts p l (held c inner e v w) = record {
    tags = ap (tags_of form doc) e ∙ (λ i. more (v i) (sym (no-tags form ts (m - length (payload_in form t)) (omega arith)) i)) ∙ sym (tags-some form t ts m (and_both (lt-ltb 0 m p) c));
    lines = w ∙ sym (lines-here form t ts m n l (and_both (lt-ltb 0 m p) c));
  }

  more-tags : (m n : ℕ) (x : One) (later : Kept) (t : Tag) (ts : Tags) → tag_of form doc x ≡ t → length (payload_in form t) ≤ m → TagsAre (m - length (payload_in form t)) (n + tag_count t) ts later
      → TagsAre m n (more t ts) (whole x later)
  unfolding tags_of
  more-tags m n x later t ts e l f =
      let s = payload-some form t in
      record {
        tags = (λ i. more ((e ∙ sym (tag-whole form t m l)) i) (f.tags i)) ∙ sym (tags-some form t ts m (and_both (lt-ltb 0 m (omega arith)) (counts_whole form t m l)));
        lines = f.lines ∙ sym (lines-past form t ts m n l);
      }

  begun-entries : (kind name len m number : ℕ) (b : Kept) (n : List ℕ) (t : Tag) (es : Entries) → part doc name len ≡ n → 3 + length n ≤ m → m - (3 + length n) < length (payload_in form t)
      → BegunIs kind name len (m - (3 + length n)) number t b → EntriesAre m number (entry n t es) b
  unfolding entries_of
  begun-entries kind name len m number b n t es w p l (lost c e) = record {
    tags = ap (λ (k : Kept). entries_of form doc k.forest) e ∙ sym (entries_none form n t es m (and-right-false (le-leb (3 + length n) m p) c));
    lines = ap (λ (k : Kept). k.lines) e ∙ sym (entry-lines-none form n t es m number (omega arith) (and-right-false (le-leb (3 + length n) m p) c));
  }
  begun-entries kind name len m number b n t es w p l (held c inner e v g) = record {
    tags = ap (entries_of form doc) e
        ∙ (λ i. entry (w i) (v i) (sym (no-entries form es (m - (3 + length n) - length (payload_in form t)) (omega arith)) i))
        ∙ sym (entries-some form n t es m (and_both (le-leb (3 + length n) m p) c));
    lines = g ∙ sym (entry-lines-here form n t es m number (omega arith) (and_both (le-leb (3 + length n) m p) c));
  }

  more-entries : (m number : ℕ) (x : One) (later : Kept) (n : List ℕ) (t : Tag) (es : Entries) → part doc x.head.name x.head.name_length ≡ n → tag_of form doc x ≡ t
      → 3 + length n + length (payload_in form t) ≤ m → EntriesAre (m - (3 + length n) - length (payload_in form t)) (number + tag_count t) es later
      → EntriesAre m number (entry n t es) (whole x later)
  unfolding entries_of
  more-entries m number x later n t es w e l f = record {
    tags = (λ i. entry (w i) ((e ∙ sym (tag-whole form t (m - (3 + length n)) (omega arith))) i) (f.tags i))
        ∙ sym (entries-some form n t es m (and_both (le-leb (3 + length n) m (omega arith)) (counts_whole form t (m - (3 + length n)) (omega arith))));
    lines = f.lines ∙ sym (entry-lines-past form n t es m number l);
  }

  -- a compound has as many entries as its record has children
  many-entries : (f : Forest) → many_entries (entries_of form doc f) ≡ width f
  unfolding many_entries entries_of width
  many-entries none = refl
  many-entries (node h inner later) = omega (arith, many-entries later)

  -- ---- elements

  -- what is to be shown: of elements, of entries, and of one tag
  abbrev Tagged : ℕ → ℕ → ℕ → ℕ → ℕ → Kept → Type 0
  Tagged d k c at n b = (r : Run) → elements form all (read_at form all room d) c k at n ≡ got r → TagsAre (length doc - at) n (tags_of form all r.forest) b

  abbrev Entered : ℕ → ℕ → ℕ → Forest → Kept → Type 0
  Entered d at n earlier b = (fuel : ℕ) (before : Forest) (r : Run) → entries form all (read_at form all room d) fuel before at n ≡ got r
      → EntriesAre (length doc - at) n (entries_of form all r.forest) b

  abbrev Begun : ℕ → ℕ → ℕ → ℕ → ℕ → ℕ → Kept → Type 0
  Begun d kind name len at n b = (y : One) → read_at form all room d kind name len at n ≡ got y → BegunIs kind name len (length doc - at) n (tag_of form all y) b

  no-element-is : (d k c at n : ℕ) → length doc ≤ at → Tagged d k (suc c) at n nothing
  unfolding tags_of
  no-element-is d k c at n l r f =
      let ts = tags_of form all r.forest in
      record { tags = sym (no-tags form ts (length doc - at) (omega arith)); lines = sym (no_lines form ts (length doc - at) n (omega arith)) }

  begun-element-is : (d k c at n : ℕ) (b : Kept) → TagCut form doc room d k 0 0 at n → at < length doc → Begun d k 0 0 at n b → Tagged d k (suc c) at n b
  unfolding tags_of
  begun-element-is d k c at n b w l g r f =
      let parts = elements-parts form all (read_at form all room d) c k at n f in
      let y = parts.x in
      let z = beyond d k 0 0 at n w.p y w.pos w.le w.from w.read parts.first in
      subst (λ (r : Run). TagsAre (length doc - at) n (tags_of form all r.forest) b) parts.is
      (begun-tags k (length doc - at) n b (tag_of form all y) (tags_of form all parts.rest.forest) (omega arith) (omega (arith, z.0)) (g y parts.first))

  whole-element-is : (d k c at n : ℕ) (x : One) (later : Kept) → TagWhole form doc room d k 0 0 at n x
      → Tagged d k c x.next (n + 1 + size x.inner) later → Tagged d k (suc c) at n (whole x later)
  unfolding tags_of
  whole-element-is d k c at n x later w g r f =
      let parts = elements-parts form all (read_at form all room d) c k at n f in
      let y = parts.x in
      let ts = tags_of form all parts.rest.forest in
      let m = length doc - at in
      let s = same_tag d k 0 0 at n x y w.pos w.le w.from w.read parts.first in
      let next : elements form all (read_at form all room d) c k x.next (n + 1 + size x.inner) ≡ got parts.rest =
      (λ i. elements form all (read_at form all room d) c k (s.next i) (n + 1 + s.sizes i)) ∙ parts.later in
      let o : length doc - x.next ≡ m - length (payload_in form (tag_of form all y)) = omega (arith, s.long, s.within) in
      let u : n + 1 + size x.inner ≡ n + tag_count (tag_of form all y) = omega (arith, s.counted) in
      let i = g parts.rest next in
      subst (λ (r : Run). TagsAre m n (tags_of form all r.forest) (whole x later)) parts.is
      (more-tags m n x later (tag_of form all y) ts s.tag (omega (arith, s.long, s.within))
      (record { tags = i.tags ∙ ap (cut_tags form ts) o; lines = i.lines ∙ (λ j. element_lines form ts (o j) (u j)) }))

  -- ---- entries

  module _ (d at n fuel : ℕ) (before : Forest) (r : Run) (f : entries form all (read_at form all room d) (suc fuel) before at n ≡ got r) where
    entered : (e : Entry) × (entry_at form all at ≡ got e) × EntriesBy form all (read_at form all room d) fuel before at n r e
    entered = entries-parts form all (read_at form all room d) fuel before at n f

    -- where the head is known
    entered_by : (kind : ℕ) (s : Span) → entry_at form all at ≡ got (named kind s) → EntriesParts form all (read_at form all room d) fuel before at n kind s r
    entered_by kind s a = let same : entered.0 ≡ named kind s = cc (entered.1, a) in subst (EntriesBy form all (read_at form all room d) fuel before at n r) same entered.2

    -- how long the head is
    long_of : (kind : ℕ) (s : Span) → entry_at form all at ≡ got (named kind s) → s.next ≡ at + (3 + length (part all s.start s.size))
    long_of kind s a = omega (arith, (of-got a (entry-sound form all wf bytes at)).next, string-length form (part all s.start s.size))

    -- the entries read, with the name as it stands in the head
    back : (kind : ℕ) (s : Span) (w : EntriesParts form all (read_at form all room d) fuel before at n kind s r) (b : Kept)
        → EntriesAre (length doc - at) n (entry (part all s.start s.size) (tag_of form all w.x) (entries_of form all w.rest.forest)) b
        → EntriesAre (length doc - at) n (entries_of form all r.forest) b
    unfolding entries_of
    back kind s w b i =
        let q = payload-name form all room (inside_at form all room d) kind s.start s.size s.next n w.first in
        let name : part all w.x.head.name w.x.head.name_length ≡ part all s.start s.size = rw (q.0, q.1) refl in
        subst (λ (r : Run). EntriesAre (length doc - at) n (entries_of form all r.forest) b) w.is
        (subst (λ name. EntriesAre (length doc - at) n (entry name (tag_of form all w.x) (entries_of form all w.rest.forest)) b) (sym name) i)

    no-entry-by : (p : ℕ) → entry_at form doc at ≡ no 1 p → (e : Entry) → entry_at form all at ≡ got e → EntriesBy form all (read_at form all room d) fuel before at n r e
        → EntriesAre (length doc - at) n (entries_of form all r.forest) nothing
    unfolding entries_of cut_entries entry_lines
    no-entry-by p a end b w = subst (λ (r : Run). EntriesAre (length doc - at) n (entries_of form all r.forest) nothing) w (record { tags = refl; lines = refl })
    no-entry-by p a (named kind s) b w = back kind s w nothing (record {
      tags = sym (entries_none form name (tag_of form all w.x) (entries_of form all w.rest.forest) m (and-left-false _ (past (leb (3 + length name) m) refl)));
      lines = sym (entry-lines-none form name (tag_of form all w.x) (entries_of form all w.rest.forest) m n
          (omega (arith, leb-false (3 + length name) m (past (leb (3 + length name) m) refl))) (and-left-false _ (past (leb (3 + length name) m) refl)));
    })
      where
        m : ℕ
        m = length doc - at

        name : List ℕ
        name = part all s.start s.size

        past : (t : Bool) → leb (3 + length name) m ≡ t → leb (3 + length name) m ≡ false
        past false t = t
        past true t = absurd (not-both (entry-back form doc rest at b (omega (arith, leb-true (3 + length name) m t, long_of kind s b))) a)

    module _ (kind : ℕ) (s : Span) (earlier : Forest) (h : HeadOf form doc room at kind s earlier) where
      abbrev w : EntriesParts form all (read_at form all room d) fuel before at n kind s r
      w = entered_by kind s (entry-on form doc rest at h.read)

      abbrev y : One
      y = w.x

      abbrev name : List ℕ
      name = part all s.start s.size

      abbrev es : Entries
      es = entries_of form all w.rest.forest

      long : s.next ≡ at + (3 + length name)
      long = long_of kind s (entry-on form doc rest at h.read)

      word : part doc s.start s.size ≡ name
      word = sym (part-front doc rest s.start s.size h.in_start)

      begun-by : (b : Kept) → TagCut form doc room d kind s.start s.size s.next n → Begun d kind s.start s.size s.next n b
          → EntriesAre (length doc - at) n (entries_of form all r.forest) b
      begun-by b c g =
          let m = length doc - at in
          let z = beyond d kind s.start s.size s.next n c.p y c.pos c.le c.from c.read w.first in
          let o : length doc - s.next ≡ m - (3 + length name) = omega (arith, long, h.in-next) in
          back kind s w b (begun-entries kind s.start s.size m n b name (tag_of form all y) es word (omega (arith, long, h.in-next)) (omega (arith, long, h.in-next, z.0))
          (subst (λ m. BegunIs kind s.start s.size m n (tag_of form all y) b) o (g y w.first)))

      whole_by : (x : One) (later : Kept) → TagWhole form doc room d kind s.start s.size s.next n x
          → Entered d x.next (n + 1 + size x.inner) (earlier ⊕ node x.head x.inner none) later → EntriesAre (length doc - at) n (entries_of form all r.forest) (whole x later)
      whole_by x later c g =
          let m = length doc - at in
          let t = same_tag d kind s.start s.size s.next n x y c.pos c.le c.from c.read w.first in
          let here : part doc x.head.name x.head.name_length ≡ name = rw (c.is.name-is, c.is.len_is) word in
          let next : entries form all (read_at form all room d) fuel (before ⊕ node y.head y.inner none) x.next (n + 1 + size x.inner) ≡ got w.rest =
          (λ j. entries form all (read_at form all room d) fuel (before ⊕ node y.head y.inner none) (t.next j) (n + 1 + t.sizes j)) ∙ w.later in
          let o : length doc - x.next ≡ m - (3 + length name) - length (payload_in form (tag_of form all y)) = omega (arith, long, t.long, t.within) in
          let u : n + 1 + size x.inner ≡ n + tag_count (tag_of form all y) = omega (arith, t.counted) in
          let j = g fuel (before ⊕ node y.head y.inner none) w.rest next in
          back kind s w (whole x later) (more-entries m n x later name (tag_of form all y) es here t.tag (omega (arith, long, t.long, t.within))
          (record { tags = j.tags ∙ ap (cut_entries form es) o; lines = j.lines ∙ (λ h. entry_lines form es (o h) (u h)) }))

  -- no bound, no entries
  no_fuel : (d at n : ℕ) (before : Forest) {r : Run} {A : Type 0} → entries form all (read_at form all room d) zero before at n ≡ got r → A
  unfolding entries
  no_fuel d at n before f = absurd (got-no (sym f))

  no-entry-is : (d at n p : ℕ) (earlier : Forest) → entry_at form doc at ≡ no 1 p → Entered d at n earlier nothing
  no-entry-is d at n p earlier a zero before r f = no_fuel d at n before f
  no-entry-is d at n p earlier a (suc fuel) before r f = let e = entered d at n fuel before r f in no-entry-by d at n fuel before r f p a e.0 e.1 e.2

  begun-entry-is : (d kind at n : ℕ) (s : Span) (earlier : Forest) (b : Kept) → HeadOf form doc room at kind s earlier → TagCut form doc room d kind s.start s.size s.next n
      → Begun d kind s.start s.size s.next n b → Entered d at n earlier b
  begun-entry-is d kind at n s earlier b h c g zero before r f = no_fuel d at n before f
  begun-entry-is d kind at n s earlier b h c g (suc fuel) before r f = begun-by d at n fuel before r f kind s earlier h b c g

  whole-entry-is : (d kind at n : ℕ) (s : Span) (earlier : Forest) (x : One) (later : Kept) → HeadOf form doc room at kind s earlier → TagWhole form doc room d kind s.start s.size s.next n x
      → Entered d x.next (n + 1 + size x.inner) (earlier ⊕ node x.head x.inner none) later → Entered d at n earlier (whole x later)
  whole-entry-is d kind at n s earlier x later h c g zero before r f = no_fuel d at n before f
  whole-entry-is d kind at n s earlier x later h c g (suc fuel) before r f = whole_by d at n fuel before r f kind s earlier h x later c g

  -- ---- one tag

  no-leaf-is : (d kind name len at n : ℕ) → TagCut form doc room d kind name len at n → holds kind ≡ false → Begun d kind name len at n nothing
  unfolding counts
  no-leaf-is d kind name len at n w h y f =
      let z = beyond d kind name len at n w.p y w.pos w.le w.from w.read f in
      let k = or-false (eqb kind 9) (eqb kind 10) h in
      lost (rw (z.1, k.0, k.1) (lt-leb (length (payload_in form (tag_of form all y))) (length doc - at) (omega (arith, z.0)))) refl
    where
      or-false : (a b : Bool) → (a || b) ≡ false → (a ≡ false) × (b ≡ false)
      or-false true b e = differ e
      or-false false b e = (refl, e)

  open-compound-is : (d name len at n : ℕ) (k : Kept) → Entered d at (n + 1) none k → Begun (suc d) 10 name len at n (opened 10 name len n 0 k)
  unfolding value_by counts kind_of cut_tag tag_lines
  open-compound-is d name len at n k g y f =
      let a = payload-parts form all room (inside_at form all room (suc d)) 10 name len at n refl f in
      let b = compound-parts form all room d at (n + 1) a.1 in
      let es = entries_of form all b.0.forest in
      let t : compound es ≡ tag_of form all y = ap (λ (z : Inside). compound (entries_of form all z.forest)) b.2 ∙ ap (tag_of form all) a.2 in
      let i = g (suc (length all)) none b.0 b.1 in
      let w : width k.forest ≡ many_entries (cut_entries form es (length doc - at)) = sym (many-entries k.forest) ∙ ap many_entries i.tags in
      subst (λ t. BegunIs 10 name len (length doc - at) n t (opened 10 name len n 0 k)) t
      (held refl k.forest refl (ap compound i.tags) (λ j. record { container = n; promised = 0; kept = w j } ∷ i.lines j))

  -- a list that is read
  list_read : (d name len at n : ℕ) (y : One) → read_at form all room (suc d) 9 name len at n ≡ got y
      → (h : ListHead) × (r : Run) × (list_head_at form all at ≡ got h) × (elements form all (read_at form all room d) h.count h.kind (at + 5) (n + 1) ≡ got r)
      × (list (tags_of form all r.forest) ≡ tag_of form all y)
  unfolding value_by
  list_read d name len at n y f =
      let a = payload-parts form all room (inside_at form all room (suc d)) 9 name len at n refl f in
      let b = list-parts form all room d at (n + 1) a.1 in
      (b.0, b.1, b.2, b.3, ap (λ (z : Inside). list (tags_of form all z.forest)) b.4 ∙ ap (tag_of form all) a.2)

  no-list-is : (d name len at n p : ℕ) → list_head_at form doc at ≡ no 1 p → Begun (suc d) 9 name len at n nothing
  unfolding counts kind_of
  no-list-is d name len at n p g y f =
      let b = list_read d name len at n y f in
      subst (λ t. BegunIs 9 name len (length doc - at) n t nothing) b.4 (lost (past b.2 (leb 5 (length doc - at)) refl) refl)
    where
      past : {h : ListHead} → list_head_at form all at ≡ got h → (c : Bool) → leb 5 (length doc - at) ≡ c → leb 5 (length doc - at) ≡ false
      past e false c = c
      past e true c = absurd (not-both (sym (head-front form doc rest at (omega (arith, leb-true 5 (length doc - at) c))) ∙ e) g)

  open-list-is : (d name len at n : ℕ) (h : ListHead) (k : Kept) → list_head_at form doc at ≡ got h → at + 5 ≤ length doc → Tagged d h.kind h.count (at + 5) (n + 1) k
      → Begun (suc d) 9 name len at n (opened 9 name len n h.count k)
  unfolding value_by counts kind_of cut_tag tag_lines
  open-list-is d name len at n h k e l g y f =
      let m = length doc - at in
      let b = list_read d name len at n y f in
      let r = b.1 in
      let ts = tags_of form all r.forest in
      let same : b.0 ≡ h = cc (b.2, head-front form doc rest at l, e) in
      let next : elements form all (read_at form all room d) h.count h.kind (at + 5) (n + 1) ≡ got r =
      subst (λ (h : ListHead). elements form all (read_at form all room d) h.count h.kind (at + 5) (n + 1) ≡ got r) same b.3 in
      let i = g r next in
      let o : length doc - (at + 5) ≡ m - 5 = omega arith in
      let t : tags_of form doc k.forest ≡ cut_tags form ts (m - 5) = i.tags ∙ ap (cut_tags form ts) o in
      let few : h.count ≡ many ts = sym (many_is form all r.forest ∙ elements-width form all (read_at form all room d) h.count h.kind (at + 5) (n + 1) next) in
      let w : width k.forest ≡ many (cut_tags form ts (m - 5)) = sym (many_is form doc k.forest) ∙ ap many t in
      subst (λ t. BegunIs 9 name len m n t (opened 9 name len n h.count k)) b.4
      (held (le-leb 5 m (omega arith)) k.forest refl (ap list t) (λ j. record { container = n; promised = few j; kept = w j } ∷ (i.lines ∙ ap (λ q. element_lines form ts q (n + 1)) o) j))

  cut-rules : Rules form doc room Tagged Entered Begun
  cut-rules = record {
    no-element = λ d k c at n w l r. no-element-is d k c at n l;
    begun-element = λ d k c at n b w l r g. begun-element-is d k c at n b w l g;
    whole-element = λ d k c at n x later w g. whole-element-is d k c at n x later w g;
    no-entry = λ d at n p earlier l e r. no-entry-is d at n p earlier e;
    begun-entry = λ d kind at n s earlier b h w r g. begun-entry-is d kind at n s earlier b h w g;
    whole-entry = λ d kind at n s earlier x later h w g. whole-entry-is d kind at n s earlier x later h w g;
    no-leaf = λ d kind name len at n w h. no-leaf-is d kind name len at n w h;
    no-list = λ d name len at n p w e. no-list-is d name len at n p e;
    open-list = λ d name len at n h k w e i l r g. open-list-is d name len at n h k e l g;
    open-compound = λ d name len at n k w r g. open-compound-is d name len at n k g;
  }

  -- ---- the document

  -- what is kept in the root
  abbrev in_root : ℕ → Kept
  in_root at = kept_entries form doc (read_at form doc room 511) (begun_at form doc room 511) (suc (length doc)) at 1

  root-entries : (name len at p : ℕ) (x : One) → at ≤ length doc → read_at form doc room depth_limit 10 name len at 0 ≡ no 1 p → read_at form all room depth_limit 10 name len at 0 ≡ got x
      → EntriesAre (length doc - at) 1 (entries_of form all x.inner) (in_root at)
  root-entries name len at p x l e f = go (payload-parts form all room (inside_at form all room depth_limit) 10 name len at 0 refl f)
    where
      last : (y : Inside) → held_one 10 name len y ≡ x → (r : Run) × (entries form all (read_at form all room 511) (suc (length all)) none at 1 ≡ got r) ×
          (record { forest = r.forest; count = width r.forest; kind = 0; next = r.next } ≡ y)
          → EntriesAre (length doc - at) 1 (entries_of form all x.inner) (in_root at)
      last y a (r, b, c) =
          subst (λ (x : One). EntriesAre (length doc - at) 1 (entries_of form all x.inner) (in_root at)) a
          (subst (λ (y : Inside). EntriesAre (length doc - at) 1 (entries_of form all y.forest) (in_root at)) c
          ((root-holds form doc wf short room Tagged Entered Begun cut-rules 511 name len at 0 p l e).1 (suc (length all)) none r b))

      go : (y : Inside) × (inside_at form all room depth_limit 10 at 1 ≡ got y) × (held_one 10 name len y ≡ x) → EntriesAre (length doc - at) 1 (entries_of form all x.inner) (in_root at)
      go (y, a, b) = last y b (compound-parts form all room 511 at 1 a)

  -- what is kept of a document, against the one that is read when more follows
  pub record DocumentIs (d : Document) (k : Kept) : Type 0 where
    pub tags : document_of form doc k.forest ≡ cut_document form d (length doc)
    pub lines : k.lines ≡ document_lines form d (length doc)

  document-by : (name len at : ℕ) (k : Kept) (d : Document) → k ≡ begun_at form doc room depth_limit 10 name len at 0 → part doc name len ≡ d.name → at ≡ 3 + length d.name
      → EntriesAre (length doc - at) 1 d.root (in_root at) → DocumentIs d k
  unfolding tag_lines
  document-by name len at k d e n a i =
      let q = e ∙ begun-compound form doc room 511 at 0 name len in
      let o : length doc - at ≡ length doc - (3 + length d.name) = omega arith in
      let t : entries_of form doc (in_root at).forest ≡ cut_entries form d.root (length doc - (3 + length d.name)) = i.tags ∙ ap (cut_entries form d.root) o in
      let w : width (in_root at).forest ≡ many_entries (cut_entries form d.root (length doc - (3 + length d.name))) = sym (many-entries (in_root at).forest) ∙ ap many_entries t in
      record {
        tags = ap (λ (k : Kept). document_of form doc k.forest) q ∙ (λ j. record { name = n j; root = t j });
        lines = ap (λ (k : Kept). k.lines) q ∙ (λ j. record { container = 0; promised = 0; kept = w j } ∷ (i.lines ∙ ap (λ m. entry_lines form d.root m 1) o) j);
      }

  pub document-is : (k : Kept) (x : One) → kept_of form doc room ≡ got k → document_at form all room ≡ got x → DocumentIs (value_of form all x.head x.inner) k
  document-is k x e f = go (kept-is form doc room e) (root-parts form all room f)
    where
      last : (s : Span) (p : ℕ) → RootCut form doc room s p → k ≡ begun_at form doc room depth_limit 10 s.start s.size s.next 0
          → read_at form all room depth_limit 10 s.start s.size s.next 0 ≡ got x → DocumentIs (value_of form all x.head x.inner) k
      last s p c i g =
          let w = string-within form doc 1 c.named in
          let t = of-got c.named (string-sound form doc wf short 1) in
          let q = payload-name form all room (inside_at form all room depth_limit) 10 s.start s.size s.next 0 g in
          let name : part doc s.start s.size ≡ part all x.head.name x.head.name_length =
          sym (part-front doc rest s.start s.size (omega (arith, w.sum, w.to))) ∙ rw (q.0, q.1) refl in
          document-by s.start s.size s.next k (value_of form all x.head x.inner) i name
          (omega (arith, t.next, string-length form (part doc s.start s.size), ap length name))
          (root-entries s.start s.size s.next p x w.to c.payload g)

      go : KeptIs form doc room k → (s : Span) × (string_at form all 1 ≡ got s) × (read_at form all room depth_limit 10 s.start s.size s.next 0 ≡ got x)
          → DocumentIs (value_of form all x.head x.inner) k
      go i (s, a, b) =
          let same : s ≡ i.s = cc (a, string-on form doc rest 1 i.cut.named) in
          last i.s i.p i.cut i.is (subst (λ (s : Span). read_at form all room depth_limit 10 s.start s.size s.next 0 ≡ got x) same b)
