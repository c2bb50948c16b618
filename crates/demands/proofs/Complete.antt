-- What is laid out is read: by recursion on the tree, as its layout is.
-- Assumes nothing.
use Prim.Native.Nat.{ℕ, zero, suc, ◌+◌, ◌≤◌, ◌<◌}
use mathlib.Core.List.{List, [], ◌∷◌, ◌++◌}
use mathlib.Core.Bool.{true, false}
use mathlib.Core.Path.{◌≡◌, refl, sym, ap, subst, ◌∙◌}
use native.Mathlib.Omega.{arith}
use lib.Dec.{ltb}
use borrow.Author.Tests.{ltb-false}
use lib.ListN.{length, length-append}
use Rattle.form.specs.Form.{Form}
use Rattle.form.specs.Spans.{part}
use Rattle.form.specs.Numbers.{bytes_in}
use Rattle.form.specs.Tree.{Tag, Tags, Entries, byte, short, int, long, float, double, byte_array, string, list, compound, int_array, long_array, nil, more, ended, entry, ValidBy}
use Rattle.form.specs.Tree.{kind_of, many, tag_count, tags_count, entries_count, depth, tags_depth, entries_depth, OneKind, Alike, ValidIn, ValidTagsIn, ValidEntriesIn}
use Rattle.form.specs.Layout.{string_bytes_in, list_id, PayloadIn, ElementsIn, EntryBytesIn}
use Rattle.form.specs.Table.{Forest, none, node, size, ◌⊕◌, holds, value_by, tags_of, entries_of}
use Rattle.form.specs.Reading.{One, Run, Inside, held_one, has_name, leaf_at, leaf_one, elements, entries, list_at, compound_at, container_at, payload_by, inside_at}
use Rattle.form.proofs.Orders.{bytes-length}
use Rattle.form.proofs.Fields.{entry-last}
use Rattle.demands.proofs.Sits.{Sits, sits-first, sits-rest, sits-head}
use Rattle.form.proofs.Answers.{Answers, Accepted, bind-answers, guard-answers, got-answers}
use Rattle.demands.proofs.Tags.{tag_of, read_at, kind-range}
use Rattle.demands.proofs.Fields.{StringLaw, string-content}
use Rattle.demands.proofs.Heads.{list-head-read, entry_read}
use Rattle.demands.proofs.Leaves.{leaf-read}
use Rattle.demands.proofs.Names.{Apart, apart_none, apart-new, apart_more}

-- the elements of a list are of the kind that its head says
one-kind : (ts : Tags) → Alike ts → OneKind (list_id ts) ts
unfolding OneKind
one-kind nil a = tt
one-kind (more t ts) a = (refl, a)

module _ (form : Form) (doc : List ℕ) where
  -- what was read stands for t, ends at `next`, and has the name that was given
  pub record TagRead (t : Tag) (name len next : ℕ) (x : One) : Type 0 where
    pub is : tag_of form doc x ≡ t
    pub ends : x.next ≡ next
    pub counts : 1 + size x.inner ≡ tag_count t
    pub kind_is : x.head.kind ≡ kind_of t
    pub name-is : x.head.name ≡ name
    pub len_is : x.head.name_length ≡ len

  -- the same of the elements of a list
  pub record TagsRead (ts : Tags) (next : ℕ) (f : Forest) (p : ℕ) : Type 0 where
    pub is : tags_of form doc f ≡ ts
    pub ends : p ≡ next
    pub counts : size f ≡ tags_count ts

  -- and of the entries of a compound
  pub record EntriesRead (es : Entries) (next : ℕ) (f : Forest) (p : ℕ) : Type 0 where
    pub is : entries_of form doc f ≡ es
    pub ends : p ≡ next
    pub counts : size f ≡ entries_count es

  module _ (wf : StringLaw form) (room : ℕ) where
    -- every layout of t is read, at any place, depth and number that it fits
    abbrev ReadsTag : Tag → Type 0
    ReadsTag t = (bs : List ℕ) (d at n name len : ℕ) → PayloadIn form t bs → ValidIn form t → depth t ≤ d → Sits doc at bs → n + tag_count t ≤ room
        → Answers Accepted (TagRead t name len (at + length bs)) (read_at form doc room d (kind_of t) name len at n)

    -- the same of the elements of a list
    abbrev ReadsTags : Tags → Type 0
    ReadsTags ts = (bs : List ℕ) (d k at n : ℕ) → ElementsIn form ts bs → ValidTagsIn form ts → OneKind k ts → tags_depth ts ≤ d → Sits doc at bs → n + tags_count ts ≤ room
        → Answers Accepted (λ (r : Run). TagsRead ts (at + length bs) r.forest r.next) (elements form doc (read_at form doc room d) (many ts) k at n)

    -- and of the entries of a compound, which have no name of an earlier one
    abbrev ReadsEntries : Entries → Type 0
    ReadsEntries es = (bs : List ℕ) (d at n fuel : ℕ) (earlier : Forest) → EntryBytesIn form es bs → ValidEntriesIn form es → entries_depth es ≤ d → Sits doc at bs → n + entries_count es ≤ room
        → length doc < fuel + at → Apart doc earlier es
        → Answers Accepted (λ (r : Run). EntriesRead es (at + length bs) r.forest r.next) (entries form doc (read_at form doc room d) fuel earlier at n)

    -- a tag that holds no tags
    leaf-tag : (t : Tag) → holds (kind_of t) ≡ false → tag_count t ≡ 1 → ReadsTag t
    unfolding payload_by leaf_one size tags_of
    leaf-tag t h c bs d at n name len p v deep s fits =
        guard-answers (ltb n room) _ _ _ (λ e. absurd (omega (arith, ltb-false n room e, c)))
        (λ e. rw h (bind-answers (leaf_at form doc (kind_of t) at) _ (leaf-read form doc at bs s wf t h p v)
        (λ s r. got-answers (record { is = r.1 name len; ends = r.0; counts = sym c; kind_is = refl; name-is = refl; len_is = refl }))))

    -- a container: room, depth, what is in it
    held-tag : (kind : ℕ) (t : Tag) (next : ℕ) (d at n name len : ℕ) → holds kind ≡ true → n < room
        → Answers Accepted (λ (y : Inside). TagRead t name len next (held_one kind name len y)) (inside_at form doc room d kind at (n + 1))
        → Answers Accepted (TagRead t name len next) (read_at form doc room d kind name len at n)
    unfolding payload_by
    held-tag kind t next d at n name len h fits i =
        guard-answers (ltb n room) _ _ _ (λ e. absurd (omega (arith, ltb-false n room e)))
        (λ e. rw h (bind-answers (inside_at form doc room d kind at (n + 1)) _ i (λ y r. got-answers r)))

    list-tag : (ts : Tags) → ReadsTags ts → ReadsTag (list ts)
    unfolding PayloadIn ValidBy depth tag_count kind_of value_by inside_at container_at list_at
    list-tag ts ih bs zero at n name len p v deep s fits = absurd (omega arith)
    list-tag ts ih bs (suc d) at n name len p v deep s fits =
        held-tag 9 (list ts) (at + length bs) (suc d) at n name len refl (omega arith) inside
      where
        id : ℕ
        id = p.0

        body : List ℕ
        body = p.1

        sits : Sits doc at ((id ∷ bytes_in form.order 4 (many ts)) ++ body)
        sits = rw p.4 at s

        first : Sits doc at (id ∷ bytes_in form.order 4 (many ts))
        first = sits-first (id ∷ bytes_in form.order 4 (many ts)) body sits

        five : at + length (id ∷ bytes_in form.order 4 (many ts)) ≡ at + 5
        five = omega (arith, bytes-length form.order 4 (many ts))

        rest : Sits doc (at + 5) body
        rest = rw five at (sits-rest (id ∷ bytes_in form.order 4 (many ts)) body sits)

        whole : at + 5 + length body ≡ at + length bs
        whole = omega (arith, ap length p.4, length-append (bytes_in form.order 4 (many ts)) body, bytes-length form.order 4 (many ts))

        held : (f : Forest) (q : ℕ) → TagsRead ts (at + 5 + length body) f q
            → TagRead (list ts) name len (at + length bs) (held_one 9 name len (record { forest = f; count = many ts; kind = list_id ts; next = q }))
        held f q r = record { is = ap list r.is; ends = r.ends ∙ whole; counts = omega (arith, r.counts); kind_is = refl; name-is = refl; len_is = refl }

        inside : Answers Accepted (λ (y : Inside). TagRead (list ts) name len (at + length bs) (held_one 9 name len y)) (inside_at form doc room (suc d) 9 at (n + 1))
        inside =
            rw (list-head-read form doc at id ts p.2 v.1 first)
            (bind-answers (elements form doc (read_at form doc room d) (many ts) (list_id ts) (at + 5) (n + 1)) _
            (ih body d (list_id ts) (at + 5) (n + 1) p.3 v.2 (one-kind ts v.0) (omega arith) rest (omega arith))
            (λ r q. got-answers (held r.forest r.next q)))

    compound-tag : (es : Entries) → ReadsEntries es → ReadsTag (compound es)
    unfolding PayloadIn ValidBy depth tag_count kind_of value_by inside_at container_at compound_at
    compound-tag es ih bs zero at n name len p v deep s fits = absurd (omega arith)
    compound-tag es ih bs (suc d) at n name len p v deep s fits =
        held-tag 10 (compound es) (at + length bs) (suc d) at n name len refl (omega arith)
        (bind-answers (entries form doc (read_at form doc room d) (suc (length doc)) none at (n + 1)) _
        (ih bs d at (n + 1) (suc (length doc)) none p v (omega arith) s (omega arith) (omega arith) (apart_none doc es))
        (λ r q. got-answers (record { is = ap compound q.is; ends = q.ends; counts = omega (arith, q.counts); kind_is = refl; name-is = refl; len_is = refl })))

    -- a first element, and those after it
    more-tags : (t : Tag) (ts : Tags) → ReadsTag t → ReadsTags ts → ReadsTags (more t ts)
    unfolding ElementsIn ValidBy OneKind depth tag_count many elements tags_of size
    more-tags t ts first later bs d k at n p v o deep s fits =
        let a = p.0 in
        let b = p.1 in
        let e : many (more t ts) ≡ suc (many ts) = omega arith in
        let s' : Sits doc at (a ++ b) = rw p.4 at s in
        let whole : at + length a + length b ≡ at + length bs = omega (arith, ap length p.4, length-append a b) in
        rw (e, ← o.0)
        (bind-answers (read_at form doc room d (kind_of t) 0 0 at n) _ (first a d at n 0 0 p.2 v.0 (omega arith) (sits-first a b s') (omega arith))
        (λ x r. bind-answers (elements form doc (read_at form doc room d) (many ts) (kind_of t) x.next (n + 1 + size x.inner)) _
        (later b d (kind_of t) x.next (n + 1 + size x.inner) p.3 v.1 (rw o.0 o.1) (omega arith) (rw r.ends (sits-rest a b s')) (omega (arith, r.counts)))
        (λ q w. got-answers (record {
          is = λ i. more (r.is i) (w.is i);
          ends = w.ends ∙ rw r.ends whole;
          counts = omega (arith, r.counts, w.counts);
        }))))

    no-tags : ReadsTags nil
    unfolding ElementsIn many elements tags_of size tag_count
    no-tags bs d k at n p v o deep s fits = got-answers (record { is = refl; ends = omega (arith, ap length p); counts = refl })

    no-entries : ReadsEntries ended
    unfolding EntryBytesIn entries entries_of size tag_count
    no-entries bs d at n zero earlier p v deep s fits fuel-is apart = absurd (omega (arith, s.to))
    no-entries bs d at n (suc fuel) earlier p v deep s fits fuel-is apart =
        let h = sits-head 0 [] (rw p at s) in
        rw (entry-last form doc at h.0 h.1) (got-answers (record { is = refl; ends = omega (arith, ap length p); counts = refl }))

    -- a first entry, and those after it
    more-entries : (name : List ℕ) (t : Tag) (es : Entries) → ReadsTag t → ReadsEntries es → ReadsEntries (entry name t es)
    unfolding EntryBytesIn ValidBy depth tag_count entries entries_of size
    more-entries name t es first later bs d at n zero earlier p v deep s fits fuel-is apart = absurd (omega (arith, s.to))
    more-entries name t es first later bs d at n (suc fuel) earlier p v deep s fits fuel-is apart =
        let a = p.0 in
        let b = p.1 in
        let hd = kind_of t ∷ string_bytes_in form name in
        let k = kind-range t in
        let s₀ : Sits doc at (hd ++ (a ++ b)) = rw p.4 at s in
        let s₁ = sits-first hd (a ++ b) s₀ in
        let s₂ = sits-rest hd (a ++ b) s₀ in
        let start = at + length hd in
        let whole : start + length a + length b ≡ at + length bs = omega (arith, ap length p.4, length-append (string_bytes_in form name) (a ++ b), length-append a b) in
        let three : at + 1 + 2 ≡ at + 3 = omega arith in
        let here : part doc (at + 3) (length name) ≡ name =
        subst (λ q. part doc q (length name) ≡ name) three (string-content form doc name (sits-rest (kind_of t ∷ []) (string_bytes_in form name) s₁)).is in
        let new : has_name doc (part doc (at + 3) (length name)) earlier ≡ false = rw here (apart-new doc earlier name t es apart) in
        rw (entry_read form doc wf (kind_of t) name k.0 k.1 v.0 s₁, new)
        (bind-answers (read_at form doc room d (kind_of t) (at + 3) (length name) start n) _ (first a d start n (at + 3) (length name) p.2 v.2 (omega arith) (sits-first a b s₂) (omega arith))
        (λ x r. bind-answers (entries form doc (read_at form doc room d) fuel (earlier ⊕ node x.head x.inner none) x.next (n + 1 + size x.inner)) _
        (later b d x.next (n + 1 + size x.inner) fuel (earlier ⊕ node x.head x.inner none) p.3 v.3 (omega arith) (rw r.ends (sits-rest a b s₂)) (omega (arith, r.counts))
        (omega (arith, r.ends)) (apart_more doc earlier x.head x.inner name (rw (r.name-is, r.len_is) here) t es v.1 apart))
        (λ q w. let word : part doc x.head.name x.head.name_length ≡ name = rw (r.name-is, r.len_is) here in
        got-answers (record {
          is = λ i. entry (word i) (r.is i) (w.is i);
          ends = w.ends ∙ rw r.ends whole;
          counts = omega (arith, r.counts, w.counts);
        }))))

    mutual
      unfolding kind_of tag_count

      pub tag_read : (t : Tag) → ReadsTag t
      tag_read (byte v) = leaf-tag (byte v) refl refl
      tag_read (short v) = leaf-tag (short v) refl refl
      tag_read (int v) = leaf-tag (int v) refl refl
      tag_read (long v) = leaf-tag (long v) refl refl
      tag_read (float b) = leaf-tag (float b) refl refl
      tag_read (double b) = leaf-tag (double b) refl refl
      tag_read (byte_array vs) = leaf-tag (byte_array vs) refl refl
      tag_read (string xs) = leaf-tag (string xs) refl refl
      tag_read (list ts) = list-tag ts (tags-read ts)
      tag_read (compound es) = compound-tag es (entries-read es)
      tag_read (int_array vs) = leaf-tag (int_array vs) refl refl
      tag_read (long_array vs) = leaf-tag (long_array vs) refl refl

      pub tags-read : (ts : Tags) → ReadsTags ts
      tags-read nil = no-tags
      tags-read (more t ts) = more-tags t ts (tag_read t) (tags-read ts)

      pub entries-read : (es : Entries) → ReadsEntries es
      entries-read ended = no-entries
      entries-read (entry name t es) = more-entries name t es (tag_read t) (entries-read es)
