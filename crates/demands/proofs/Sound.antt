-- What is read is laid out, keeps the rules and has room, and a refusal has one of the numbers of a read: by recursion on the depth left.
-- Assumes nothing.
use Prim.Native.Nat.{ℕ, zero, suc, ◌+◌, ◌≤◌, ◌<◌}
use mathlib.Core.List.{List, [], ◌∷◌, ◌++◌}
use mathlib.Core.Bool.{true, false, not}
use mathlib.Core.Path.{◌≡◌, refl, sym, ap, subst, ◌∙◌}
use native.Mathlib.Omega.{arith}
use lib.Dec.{ltb}
use borrow.Author.Tests.{ltb-true, not-true}
use lib.ListN.{length, length-append}
use Rattle.form.specs.Form.{Form}
use Rattle.form.specs.Answer.{Out, got, guard, ◌>>◌, ◌>>=◌}
use Rattle.form.specs.Spans.{part}
use Rattle.form.specs.Numbers.{bytes_in}
use Rattle.form.specs.Tree.{Tag, Tags, nil, more, kind_of, many, tag_count, tags_count, entries_count, depth, tags_depth, entries_depth, has_entry, OneKind, Alike, ValidIn, ValidTagsIn, ValidEntriesIn, ValidBy}
use Rattle.form.specs.Layout.{string_bytes_in, ListId, PayloadIn, ElementsIn, EntryBytesIn}
use Rattle.form.specs.Table.{Forest, none, node, size, ◌⊕◌, holds, value_by, tags_of, entries_of}
use Rattle.form.specs.Reading.{One, Run, Inside, Span, ListHead, Entry, end, named, held_one, before, has_name, entry_at, list_head_at}
use Rattle.form.specs.Reading.{leaf_at, leaf_one, elements, entries, list_at, compound_at, container_at, payload_by, inside_at}
use Rattle.snbt_form.specs.Lexing.{among}
use Rattle.demands.specs.Reading.{Bytes}
use Rattle.demands.proofs.Sits.{Sits, sits-join, sits-nil}
use Rattle.form.proofs.Orders.{bytes-length}
use Rattle.form.proofs.Answers.{Answers, bind-answers, guard-answers, got-answers, no-answers}
use Rattle.demands.proofs.Answers.{Numbered, other}
use Rattle.form.proofs.EachKind.{by_kind}
use Rattle.demands.proofs.Tags.{tag_of, read_at}
use Rattle.demands.proofs.Fields.{StringLaw}
use Rattle.demands.proofs.Heads.{HeadIs, head-sound, NamedIs, EntryIs, entry-sound}
use Rattle.demands.proofs.Leaves.{leaf-sound}
use Rattle.demands.proofs.Names.{Apart, apart-back}

-- ---- lists

-- tags that are all of one kind are alike
pub alike : (k : ℕ) (ts : Tags) → OneKind k ts → Alike ts
unfolding OneKind
alike k nil o = tt
alike k (more t ts) o = rw o.0 o.1

-- and a list of them carries that kind; an empty one any
list-id : (k id : ℕ) (ts : Tags) → OneKind k ts → id ≤ 12 → (0 < many ts → k ≡ id) → ListId ts id
unfolding OneKind many
list-id k id nil o l e = l
list-id k id (more t ts) o l e = sym (o.0 ∙ e (omega arith))

-- ---- what was read

-- a tag of a kind, its layout, the depth that it keeps to, and how many records it holds
pub record Tagged (form : Form) (d kind : ℕ) (bs : List ℕ) (t : Tag) (inner : ℕ) : Type 0 where
  pub kind_is : kind_of t ≡ kind
  pub lays : PayloadIn form t bs
  pub valid : ValidIn form t
  pub deep : depth t ≤ d
  pub counts : tag_count t ≡ 1 + inner

module _ (form : Form) (doc : List ℕ) (room : ℕ) where
  -- a tag, at a place
  pub record TagSound (d kind name len at n : ℕ) (x : One) : Type 0 where
    pub bs : List ℕ
    pub sits : Sits doc at bs
    pub next : x.next ≡ at + length bs
    pub is : Tagged form d kind bs (tag_of form doc x) (size x.inner)
    pub fits : n + 1 + size x.inner ≤ room
    pub kind_is : x.head.kind ≡ kind
    pub name-is : x.head.name ≡ name
    pub len_is : x.head.name_length ≡ len

  -- what is in a container, whatever its name
  pub record HeldSound (d kind at n : ℕ) (y : Inside) : Type 0 where
    pub bs : List ℕ
    pub sits : Sits doc at bs
    pub next : y.next ≡ at + length bs
    pub is : (name len : ℕ) → Tagged form d kind bs (tag_of form doc (held_one kind name len y)) (size y.forest)
    pub fits : n + size y.forest ≤ room

  -- the elements of a list
  pub record TagsSound (d k c at n : ℕ) (r : Run) : Type 0 where
    pub bs : List ℕ
    pub sits : Sits doc at bs
    pub next : r.next ≡ at + length bs
    pub lays : ElementsIn form (tags_of form doc r.forest) bs
    pub valid : ValidTagsIn form (tags_of form doc r.forest)
    pub one-kind : OneKind k (tags_of form doc r.forest)
    pub many_is : many (tags_of form doc r.forest) ≡ c
    pub deep : tags_depth (tags_of form doc r.forest) ≤ d
    pub counts : tags_count (tags_of form doc r.forest) ≡ size r.forest
    pub fits : n + size r.forest ≤ room

  -- the entries of a compound, after earlier ones
  pub record EntriesSound (d at n : ℕ) (earlier : Forest) (r : Run) : Type 0 where
    pub bs : List ℕ
    pub sits : Sits doc at bs
    pub next : r.next ≡ at + length bs
    pub lays : EntryBytesIn form (entries_of form doc r.forest) bs
    pub valid : ValidEntriesIn form (entries_of form doc r.forest)
    pub apart : Apart doc earlier (entries_of form doc r.forest)
    pub deep : entries_depth (entries_of form doc r.forest) ≤ d
    pub counts : entries_count (entries_of form doc r.forest) ≡ size r.forest
    pub fits : n + size r.forest ≤ room

module _ (form : Form) (doc : List ℕ) (wf : StringLaw form) (bytes : Bytes doc) (room : ℕ) where
  -- what reading one tag gives, where d containers may still stand within each other
  abbrev pub Sounds : ℕ → Type 0
  Sounds d = (name len at n kind : ℕ) → 0 < kind → kind ≤ 12 → at ≤ length doc → Answers (Numbered form doc) (TagSound form doc room d kind name len at n) (read_at form doc room d kind name len at n)

  module _ (d : ℕ) (P : Sounds d) where
    more-tags : (k c at n : ℕ) (x : One) (r : Run) → TagSound form doc room d k 0 0 at n x → TagsSound form doc room d k c x.next (n + 1 + size x.inner) r
        → TagsSound form doc room d k (suc c) at n (before x r)
    unfolding ElementsIn ValidBy OneKind depth tag_count many tags_of size
    more-tags k c at n x r t w = record {
      bs = t.bs ++ w.bs;
      sits = sits-join t.bs w.bs t.sits (subst (λ q. Sits doc q w.bs) t.next w.sits);
      next = omega (arith, w.next, t.next, length-append t.bs w.bs);
      lays = (t.bs, w.bs, t.is.lays, w.lays, refl);
      valid = (t.is.valid, w.valid);
      one-kind = (t.is.kind_is, w.one-kind);
      many_is = omega (arith, w.many_is);
      deep = omega (arith, t.is.deep, w.deep);
      counts = omega (arith, t.is.counts, w.counts);
      fits = omega (arith, w.fits);
    }

    tags-sound : (c k at n : ℕ) → (0 < c → (0 < k) × (k ≤ 12)) → at ≤ length doc → n ≤ room
        → Answers (Numbered form doc) (TagsSound form doc room d k c at n) (elements form doc (read_at form doc room d) c k at n)
    unfolding elements ElementsIn ValidBy OneKind depth tag_count many tags_of size
    tags-sound zero k at n h l r = got-answers (record {
      bs = [];
      sits = sits-nil l;
      next = omega arith;
      lays = refl;
      valid = tt;
      one-kind = tt;
      many_is = refl;
      deep = omega arith;
      counts = refl;
      fits = omega arith;
    })
    tags-sound (suc c) k at n h l r =
        let q = h (omega arith) in
        bind-answers (read_at form doc room d k 0 0 at n) _ (P 0 0 at n k q.0 q.1 l)
        (λ x t. bind-answers (elements form doc (read_at form doc room d) c k x.next (n + 1 + size x.inner)) _
        (tags-sound c k x.next (n + 1 + size x.inner) (λ y. q) (omega (arith, t.next, t.sits.to)) t.fits)
        (λ r w. got-answers (more-tags k c at n x r t w)))

    more-entries : (kind : ℕ) (s : Span) (at n : ℕ) (earlier : Forest) (x : One) (r : Run) → NamedIs form doc at kind s → has_name doc (part doc s.start s.size) earlier ≡ false
        → TagSound form doc room d kind s.start s.size s.next n x → EntriesSound form doc room d x.next (n + 1 + size x.inner) (earlier ⊕ node x.head x.inner none) r
        → EntriesSound form doc room d at n earlier (before x r)
    unfolding EntryBytesIn ValidBy depth tag_count entries_of size
    more-entries kind s at n earlier x r i new t w =
        let name = part doc s.start s.size in
        let hd = kind ∷ string_bytes_in form name in
        let word : part doc x.head.name x.head.name_length ≡ name = rw (t.name-is, t.len_is) refl in
        let b = apart-back doc earlier x.head x.inner name word (tag_of form doc x) (entries_of form doc r.forest) new w.apart in
        let whole : hd ++ (t.bs ++ w.bs) ≡ kind_of (tag_of form doc x) ∷ string_bytes_in form (part doc x.head.name x.head.name_length) ++ (t.bs ++ w.bs) =
        (λ j. sym t.is.kind_is j ∷ string_bytes_in form (sym word j) ++ (t.bs ++ w.bs)) in
        record {
          bs = hd ++ (t.bs ++ w.bs);
          sits = sits-join hd (t.bs ++ w.bs) i.sits
              (subst (λ q. Sits doc q (t.bs ++ w.bs)) i.next (sits-join t.bs w.bs t.sits (subst (λ q. Sits doc q w.bs) t.next w.sits)));
          next = omega (arith, w.next, t.next, i.next, length-append (string_bytes_in form name) (t.bs ++ w.bs), length-append t.bs w.bs);
          lays = (t.bs, w.bs, t.is.lays, w.lays, whole);
          valid = rw word (i.text, b.1, t.is.valid, w.valid);
          apart = rw word b.0;
          deep = omega (arith, t.is.deep, w.deep);
          counts = omega (arith, t.is.counts, w.counts);
          fits = omega (arith, w.fits);
        }

    -- what reading entries gives, with so much fuel
    abbrev EntriesBy : ℕ → Type 0
    EntriesBy fuel = (at n : ℕ) (earlier : Forest) → at ≤ length doc → length doc < fuel + at → n ≤ room
        → Answers (Numbered form doc) (EntriesSound form doc room d at n earlier) (entries form doc (read_at form doc room d) fuel earlier at n)

    entries-sound : (fuel : ℕ) → EntriesBy fuel
    unfolding entries EntryBytesIn ValidBy depth tag_count entries_of size has_entry among
    entries-sound zero at n earlier l f r = absurd (omega arith)
    entries-sound (suc fuel) at n earlier l f r = bind-answers (entry_at form doc at) _ (entry-sound form doc wf bytes at) (go (entries-sound fuel))
      where
        rest : Entry → Out Run
        rest e = elim e [
          | end ↦ got (record { forest = none; next = at + 1 })
          | named kind s ↦ guard (not (has_name doc (part doc s.start s.size) earlier)) 6 at >> (read_at form doc room d kind s.start s.size s.next n
              >>= (λ x. entries form doc (read_at form doc room d) fuel (earlier ⊕ node x.head x.inner none) x.next (n + 1 + size x.inner) >>= (λ r. got (before x r))))
        ]

        go : EntriesBy fuel → (e : Entry) → EntryIs form doc at e → Answers (Numbered form doc) (EntriesSound form doc room d at n earlier) (rest e)
        go ih end i = got-answers (record {
          bs = 0 ∷ [];
          sits = i;
          next = omega arith;
          lays = refl;
          valid = tt;
          apart = λ x e. refl;
          deep = omega arith;
          counts = refl;
          fits = omega arith;
        })
        go ih (named kind s) i =
            guard-answers (not (has_name doc (part doc s.start s.size) earlier)) _ _ _ (λ e. other form refl refl)
            (λ e. bind-answers (read_at form doc room d kind s.start s.size s.next n) _ (P s.start s.size s.next n kind i.pos i.le (omega (arith, i.next, i.sits.to)))
            (λ x t. bind-answers (entries form doc (read_at form doc room d) fuel (earlier ⊕ node x.head x.inner none) x.next (n + 1 + size x.inner)) _
            (ih x.next (n + 1 + size x.inner) (earlier ⊕ node x.head x.inner none) (omega (arith, t.next, t.sits.to)) (omega (arith, t.next, i.next)) t.fits)
            (λ r w. got-answers (more-entries kind s at n earlier x r i (not-true _ e) t w))))

    list-sound : (at n : ℕ) → at ≤ length doc → n ≤ room → Answers (Numbered form doc) (HeldSound form doc room (suc d) 9 at n) (inside_at form doc room (suc d) 9 at n)
    unfolding inside_at container_at list_at value_by PayloadIn ValidBy depth tag_count kind_of
    list-sound at n l r =
        bind-answers (list_head_at form doc at) _ (head-sound form doc bytes at)
        (λ h i. bind-answers (elements form doc (read_at form doc room d) h.count h.kind (at + 5) n) _
        (tags-sound h.count h.kind (at + 5) n (λ p. (omega (arith, i.some_is p), omega (arith, i.some_is p, i.id-le))) (omega (arith, i.sits.to, bytes-length form.order 4 h.count)) r)
        (λ r w. got-answers (held h i r w)))
      where
        held : (h : ListHead) → HeadIs form doc at h → (r : Run) → TagsSound form doc room d h.kind h.count (at + 5) n r
            → HeldSound form doc room (suc d) 9 at n (record { forest = r.forest; count = h.count; kind = h.kind; next = r.next })
        held h i r w =
            let hd = i.id ∷ bytes_in form.order 4 h.count in
            let five : at + length hd ≡ at + 5 = omega (arith, bytes-length form.order 4 h.count) in
            let id-is = list-id h.kind i.id (tags_of form doc r.forest) w.one-kind i.id-le (λ p. (i.some_is (omega (arith, w.many_is, p))).0) in
            record {
              bs = hd ++ w.bs;
              sits = sits-join hd w.bs i.sits (rw five w.sits);
              next = omega (arith, w.next, length-append (bytes_in form.order 4 h.count) w.bs, bytes-length form.order 4 h.count);
              is = λ name len. record {
                kind_is = refl;
                lays = (i.id, w.bs, id-is, w.lays, ap (λ c. i.id ∷ bytes_in form.order 4 c ++ w.bs) (sym w.many_is));
                valid = (alike h.kind (tags_of form doc r.forest) w.one-kind, omega (arith, w.many_is, i.small), w.valid);
                deep = omega (arith, w.deep);
                counts = omega (arith, w.counts);
              };
              fits = w.fits;
            }

    compound-sound : (at n : ℕ) → at ≤ length doc → n ≤ room → Answers (Numbered form doc) (HeldSound form doc room (suc d) 10 at n) (inside_at form doc room (suc d) 10 at n)
    unfolding inside_at container_at compound_at value_by PayloadIn ValidBy depth tag_count kind_of
    compound-sound at n l r =
        bind-answers (entries form doc (read_at form doc room d) (suc (length doc)) none at n) _ (entries-sound (suc (length doc)) at n none l (omega arith) r)
        (λ r w. got-answers (record {
          bs = w.bs;
          sits = w.sits;
          next = w.next;
          is = λ name len. record { kind_is = refl; lays = w.lays; valid = w.valid; deep = omega (arith, w.deep); counts = omega (arith, w.counts) };
          fits = w.fits;
        }))

  -- ---- one tag

  leaf-tag : (d name len at n kind : ℕ) → 0 < kind → kind ≤ 12 → holds kind ≡ false
      → Answers (Numbered form doc) (TagSound form doc room d kind name len at n) (read_at form doc room d kind name len at n)
  unfolding payload_by leaf_one tags_of size among
  leaf-tag d name len at n kind p q h =
      guard-answers (ltb n room) _ _ _ (λ e. other form refl refl)
      (λ e. rw h (bind-answers (leaf_at form doc kind at) _ (leaf-sound form doc bytes wf at kind p q h)
      (λ s w. let f = w.is name len in got-answers (record {
        bs = w.bs;
        sits = w.sits;
        next = w.next;
        is = record { kind_is = f.kind_is; lays = f.lays; valid = f.valid; deep = omega (arith, f.flat); counts = f.alone };
        fits = omega (arith, ltb-true n room e);
        kind_is = refl;
        name-is = refl;
        len_is = refl;
      }))))

  held-tag : (d name len at n kind : ℕ) → holds kind ≡ true → (n < room → Answers (Numbered form doc) (HeldSound form doc room d kind at (n + 1)) (inside_at form doc room d kind at (n + 1)))
      → Answers (Numbered form doc) (TagSound form doc room d kind name len at n) (read_at form doc room d kind name len at n)
  unfolding payload_by among
  held-tag d name len at n kind h i =
      guard-answers (ltb n room) _ _ _ (λ e. other form refl refl)
      (λ e. rw h (bind-answers (inside_at form doc room d kind at (n + 1)) _ (i (ltb-true n room e))
      (λ y w. got-answers (record { bs = w.bs; sits = w.sits; next = w.next; is = w.is name len; fits = w.fits; kind_is = refl; name-is = refl; len_is = refl }))))

  -- what reading the inside of a container of a kind gives
  abbrev Holds : ℕ → ℕ → Type 0
  Holds d kind = (at n : ℕ) → at ≤ length doc → n ≤ room → Answers (Numbered form doc) (HeldSound form doc room d kind at n) (inside_at form doc room d kind at n)

  any-tag : (d : ℕ) → Holds d 9 → Holds d 10 → Sounds d
  any-tag d lists compounds name len at n kind p q l =
      by_kind (λ k. Answers (Numbered form doc) (TagSound form doc room d k name len at n) (read_at form doc room d k name len at n))
      (leaf 1 (omega arith) refl) (leaf 2 (omega arith) refl) (leaf 3 (omega arith) refl) (leaf 4 (omega arith) refl) (leaf 5 (omega arith) refl) (leaf 6 (omega arith) refl)
      (leaf 7 (omega arith) refl) (leaf 8 (omega arith) refl)
      (held-tag d name len at n 9 refl (λ f. lists at (n + 1) l (omega arith))) (held-tag d name len at n 10 refl (λ f. compounds at (n + 1) l (omega arith)))
      (leaf 11 (omega arith) refl) (leaf 12 (omega arith) refl)
      kind p q
    where
      leaf : (k : ℕ) → (0 < k) × (k ≤ 12) → holds k ≡ false → Answers (Numbered form doc) (TagSound form doc room d k name len at n) (read_at form doc room d k name len at n)
      leaf k r h = leaf-tag d name len at n k r.0 r.1 h

  pub tag-sound : (d : ℕ) → Sounds d
  unfolding inside_at among
  tag-sound zero = any-tag zero (λ at n l r. no-answers at (other form refl refl)) (λ at n l r. no-answers at (other form refl refl))
  tag-sound (suc d) = any-tag (suc d) (list-sound d (tag-sound d)) (compound-sound d (tag-sound d))
