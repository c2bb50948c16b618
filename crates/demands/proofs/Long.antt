-- What is rescued is no longer than the cut document and one byte for each line: rule by rule of the induction over cut reads.
-- Assumes nothing.
use Prim.Native.Nat.{ℕ, suc, ◌+◌, ◌-◌, ◌≤◌}
use mathlib.Core.List.{List}
use mathlib.Core.Path.{◌≡◌, refl, sym, ap, subst, ◌∙◌}
use native.Mathlib.Omega.{arith}
use lib.ListN.{length, length-append}
use Rattle.form.specs.Form.{Form}
use Rattle.form.specs.Answer.{got}
use Rattle.form.specs.Spans.{part}
use Rattle.form.specs.Layout.{string_bytes_in, payload_in, element_bytes_in, entry_bytes_in, layout_in}
use Rattle.form.specs.Table.{Forest, none, node, value_by, tags_of, entries_of}
use Rattle.form.specs.Reading.{One, Span}
use Rattle.form.specs.Cut.{Kept, nothing, whole, open_head, opened, kept_entries, begun_at, kept_of, document_of}
use Rattle.form.proofs.Fields.{string-within}
use Rattle.form.proofs.Cut.{begun-compound, kept-is}
use Rattle.demands.specs.Reading.{Bytes}
use Rattle.form.proofs.Answers.{of-got}
use Rattle.demands.proofs.Tags.{tag_of, read_at}
use Rattle.demands.proofs.Fields.{StringLaw, string-length, string-sound}
use Rattle.demands.proofs.Near.{payload-near}
use Rattle.demands.proofs.Induction.{HeadOf, TagWhole, Rules, root-holds}
use Rattle.demands.proofs.Trees.{list_length, entry_length}

module _ (form : Form) (doc : List ℕ) (wf : StringLaw form) (bytes : Bytes doc) (room : ℕ) where
  -- how long what is kept is, from a place on: elements; entries with their end byte; a tag that is begun
  record LongTags (at : ℕ) (k : Kept) : Type 0 where
    long : length (element_bytes_in form (tags_of form doc k.forest)) ≤ length doc - at + length k.lines

  record LongEntries (at : ℕ) (k : Kept) : Type 0 where
    long : length (entry_bytes_in form (entries_of form doc k.forest)) ≤ length doc - at + 1 + length k.lines

  data LongBegun (kind name len at : ℕ) (k : Kept) : Type 0 where
    lost : k ≡ nothing → LongBegun kind name len at k
    held : (inner : Forest) → k.forest ≡ node (open_head kind name len inner) inner none
        → length (payload_in form (value_by form doc (open_head kind name len inner) (tags_of form doc inner) (entries_of form doc inner))) ≤ length doc - at + length k.lines
        → LongBegun kind name len at k

  no-tags : (at : ℕ) → LongTags at nothing
  unfolding tags_of element_bytes_in
  no-tags at = record { long = omega arith }

  no-entries : (at : ℕ) → LongEntries at nothing
  unfolding entries_of entry_bytes_in
  no-entries at = record { long = omega arith }

  more-tags : (at : ℕ) (x : One) (k : Kept) → x.next ≡ at + length (payload_in form (tag_of form doc x)) → x.next ≤ length doc → LongTags x.next k → LongTags at (whole x k)
  unfolding tags_of element_bytes_in
  more-tags at x k e l f = record { long = omega (arith, f.long, length-append (payload_in form (tag_of form doc x)) (element_bytes_in form (tags_of form doc k.forest))) }

  begun-tags : (k at : ℕ) (b : Kept) → LongBegun k 0 0 at b → LongTags at b
  unfolding tags_of element_bytes_in
  begun-tags k at b (lost e) = subst (LongTags at) (sym e) (no-tags at)
  begun-tags k at b (held inner e l) =
      let t = value_by form doc (open_head k 0 0 inner) (tags_of form doc inner) (entries_of form doc inner) in
      record { long = omega (arith, ap (λ f. length (element_bytes_in form (tags_of form doc f))) e, length-append (payload_in form t) (element_bytes_in form (tags_of form doc none))) }

  -- an entry's head, and what comes behind it
  more-entries : (at next : ℕ) (x : One) (k : Kept) (n : List ℕ) → part doc x.head.name x.head.name_length ≡ n → next ≡ at + 3 + length n → next ≤ length doc
      → x.next ≡ next + length (payload_in form (tag_of form doc x)) → x.next ≤ length doc → LongEntries x.next k → LongEntries at (whole x k)
  unfolding entries_of
  more-entries at next x k n w h g e l f =
      record { long = omega (arith, f.long, ap length w, entry_length form (part doc x.head.name x.head.name_length) (tag_of form doc x) (entries_of form doc k.forest)) }

  begun-entries : (kind name len at next : ℕ) (b : Kept) → next ≡ at + 3 + length (part doc name len) → next ≤ length doc → LongBegun kind name len next b → LongEntries at b
  unfolding entries_of entry_bytes_in
  begun-entries kind name len at next b h g (lost e) = subst (LongEntries at) (sym e) (no-entries at)
  begun-entries kind name len at next b h g (held inner e l) =
      let t = value_by form doc (open_head kind name len inner) (tags_of form doc inner) (entries_of form doc inner) in
      record { long = omega (arith, ap (λ f. length (entry_bytes_in form (entries_of form doc f))) e, entry_length form (part doc name len) t (entries_of form doc none)) }

  list-long : (name len at n c : ℕ) (k : Kept) → at + 5 ≤ length doc → LongTags (at + 5) k → LongBegun 9 name len at (opened 9 name len n c k)
  unfolding value_by
  list-long name len at n c k l t = held k.forest refl (omega (arith, t.long, list_length form (tags_of form doc k.forest)))

  compound-long : (name len at n : ℕ) (k : Kept) → LongEntries at k → LongBegun 10 name len at (opened 10 name len n 0 k)
  unfolding value_by payload_in
  compound-long name len at n k t = held k.forest refl (omega (arith, t.long))

  whole_long : {d kind name len at n : ℕ} {x : One} → TagWhole form doc room d kind name len at n x → x.next ≡ at + length (payload_in form (tag_of form doc x))
  whole_long {d} {kind} {name} {len} {at} {n} {x} w = omega (arith, w.is.next, (payload-near form (tag_of form doc x) w.is.bs w.is.is.lays).long)

  head-long : {at kind : ℕ} {s : Span} {earlier : Forest} → HeadOf form doc room at kind s earlier → s.next ≡ at + 3 + length (part doc s.start s.size)
  head-long {at} {kind} {s} h = omega (arith, h.is.next, string-length form (part doc s.start s.size))

  long-rules : Rules form doc room (λ d k c at n b. LongTags at b) (λ d at n earlier b. LongEntries at b) (λ d kind name len at n b. LongBegun kind name len at b)
  long-rules = record {
    no-element = λ d k c at n w l r. no-tags at;
    begun-element = λ d k c at n b w l r g. begun-tags k at b g;
    whole-element = λ d k c at n x later w g. more-tags at x later (whole_long w) w.within g;
    no-entry = λ d at n p earlier l e r. no-entries at;
    begun-entry = λ d kind at n s earlier b h w r g. begun-entries kind s.start s.size at s.next b (head-long h) h.in-next g;
    whole-entry = λ d kind at n s earlier x later h w g. more-entries at s.next x later (part doc s.start s.size)
        (rw (w.is.name-is, w.is.len_is) refl) (head-long h) h.in-next (whole_long w) w.within g;
    no-leaf = λ d kind name len at n w h. lost refl;
    no-list = λ d name len at n p w e. lost refl;
    open-list = λ d name len at n h k w e i l r g. list-long name len at n h.count k l g;
    open-compound = λ d name len at n k w r g. compound-long name len at n k g;
  }

  pub document-long : (k : Kept) → kept_of form doc room ≡ got k → length (layout_in form (document_of form doc k.forest)) ≤ length doc + length k.lines
  unfolding layout_in
  document-long k e =
      let i = kept-is form doc room e in
      let s = i.s in
      let w = string-within form doc 1 i.cut.named in
      let t = of-got i.cut.named (string-sound form doc wf bytes 1) in
      let q = i.is ∙ begun-compound form doc room 511 s.next 0 s.start s.size in
      let g = (root-holds form doc wf bytes room _ _ _ long-rules 511 s.start s.size s.next 0 i.p w.to i.cut.payload).1 in
      let name = part doc s.start s.size in
      omega (
        arith,
        g.long,
        w.to,
        t.next,
        string-length form name,
        ap (λ (k : Kept). length (layout_in form (document_of form doc k.forest))) q,
        ap (λ (k : Kept). length k.lines) q,
        length-append (string_bytes_in form name) (entry_bytes_in form
            (entries_of form doc (kept_entries form doc (read_at form doc room 511) (begun_at form doc room 511) (suc (length doc)) s.next 1).forest)),
      )
