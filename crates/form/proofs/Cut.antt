-- Laws of what is kept of a cut document: how a refusal comes about, and what is kept then, one law for each way.
-- Assumes nothing.
use Prim.Native.Nat.{ℕ, zero, suc, ◌+◌, ◌≤◌, ◌<◌}
use mathlib.Core.Bool.{Bool, true, false, not, ◌||◌}
use mathlib.Core.Logic.{◌⊎◌, inl, inr}
use mathlib.Core.List.{List}
use mathlib.Core.Path.{◌≡◌, refl, sym, ap, ◌∙◌}
use native.Mathlib.Omega.{arith}
use lib.ListN.{length}
use lib.Dec.{ltb, leb, eqb}
use borrow.Author.Tests.{lt-leb, le-leb, ne_eqb, lt-ltb, le-ltb, ltb-true, leb-true, eqb-true, not-true}
use Rattle.form.specs.Form.{Form}
use Rattle.form.specs.Answer.{Out, got, no, ◌>>=◌, ◌>>◌, guard, data_ends, depth_limit, document_limit}
use Rattle.form.specs.Spans.{part}
use Rattle.form.specs.Table.{Forest, none, node, size, width, ◌⊕◌, holds}
use Rattle.form.specs.Reading.{One, Run, Inside, Span, ListHead, Entry, end, named, Reader, held_one, before, has_name, byte_at, string_at}
use Rattle.form.specs.Reading.{entry_at, list_head_at, elements, entries, list_at, compound_at, container_at, payload_by, inside_at, document_at}
use Rattle.form.specs.Cut.{Kept, Opener, nothing, whole, opened, not_cut, root_cut, kept_elements, kept_entries, begun_at, kept_of, document_of, saved, refused, laid_in, rescued}
use Rattle.form.specs.Layout.{layout_in}
use Rattle.form.proofs.Answer.{got-no}
use Rattle.form.proofs.Picks.{differ}
use Rattle.form.proofs.Fields.{byte-got, string-within}

-- ---- chains that refuse

-- A chain that refuses: its first step does, or it is accepted and the rest refuses.
pub bind-no : {A B : Type 0} (o : Out A) (k : A → Out B) {m p : ℕ} → (o >>= k) ≡ no m p → (o ≡ no m p) ⊎ ((a : A) × (o ≡ got a) × (k a ≡ no m p))
bind-no (got a) k e = inr (a, refl, e)
bind-no (no n q) k {m} {p} e = inl (let f : n ≡ m = cc in let g : q ≡ p = cc in λ i. no (f i) (g i))

-- A chain that refuses with another number than its test: the test holds.
pub guard-no : {A : Type 0} (t : Bool) (n q : ℕ) (r : Out A) {m p : ℕ} → (n ≡ m → ⊥) → (guard t n q >> r) ≡ no m p → (t ≡ true) × (r ≡ no m p)
guard-no true n q r d e = (refl, e)
guard-no false n q r {m} {p} d e = absurd (d (let f : n ≡ m = cc in f))

-- A value that is accepted is not refused.
pub not-both : {A : Type 0} {o : Out A} {a : A} {m p : ℕ} → o ≡ got a → o ≡ no m p → ⊥
not-both e f = got-no (sym e ∙ f)

module _ (form : Form) (doc : List ℕ) where
  module _ (read : Reader) (begun : Opener) where
    -- ---- elements

    pub elements-cut : (left kind at n : ℕ) {m p : ℕ} → elements form doc read (suc left) kind at n ≡ no m p
        → (read kind 0 0 at n ≡ no m p) ⊎ ((x : One) × (read kind 0 0 at n ≡ got x) × (elements form doc read left kind x.next (n + 1 + size x.inner) ≡ no m p))
    unfolding elements
    elements-cut left kind at n {m} {p} e = go (bind-no (read kind 0 0 at n) rest e)
      where
        rest : One → Out Run
        rest x = elements form doc read left kind x.next (n + 1 + size x.inner) >>= (λ r. got (before x r))

        later : (x : One) → rest x ≡ no m p → elements form doc read left kind x.next (n + 1 + size x.inner) ≡ no m p
        later x f = last (bind-no (elements form doc read left kind x.next (n + 1 + size x.inner)) (λ r. got (before x r)) f)
          where
            last : (elements form doc read left kind x.next (n + 1 + size x.inner) ≡ no m p)
                ⊎ ((r : Run) × (elements form doc read left kind x.next (n + 1 + size x.inner) ≡ got r) × (got (before x r) ≡ no m p))
                → elements form doc read left kind x.next (n + 1 + size x.inner) ≡ no m p
            last (inl g) = g
            last (inr g) = absurd (got-no g.2)

        go : (read kind 0 0 at n ≡ no m p) ⊎ ((x : One) × (read kind 0 0 at n ≡ got x) × (rest x ≡ no m p))
            → (read kind 0 0 at n ≡ no m p) ⊎ ((x : One) × (read kind 0 0 at n ≡ got x) × (elements form doc read left kind x.next (n + 1 + size x.inner) ≡ no m p))
        go (inl f) = inl f
        go (inr f) = inr (f.0, f.1, later f.0 f.2)

    module _ (left kind at n : ℕ) where
      kept_by : Out One → Bool → Kept
      kept_by o b = elim o [
        | got x ↦ whole x (kept_elements form doc read begun left kind x.next (n + 1 + size x.inner))
        | no m p ↦ elim b [ true ↦ begun kind 0 0 at n | false ↦ nothing ]
      ]

      pub kept-element : {x : One} → read kind 0 0 at n ≡ got x
          → kept_elements form doc read begun (suc left) kind at n ≡ whole x (kept_elements form doc read begun left kind x.next (n + 1 + size x.inner))
      unfolding kept_elements kept_by
      kept-element e = ap (λ o. kept_by o (ltb at (length doc))) e

      module _ {m p : ℕ} (e : read kind 0 0 at n ≡ no m p) where
        pub begun-element : at < length doc → kept_elements form doc read begun (suc left) kind at n ≡ begun kind 0 0 at n
        unfolding kept_elements kept_by
        begun-element l = λ i. kept_by (e i) (lt-ltb at (length doc) l i)

        pub no-element : length doc ≤ at → kept_elements form doc read begun (suc left) kind at n ≡ nothing
        unfolding kept_elements kept_by
        no-element l = λ i. kept_by (e i) (le-ltb at (length doc) l i)

    -- ---- entries

    -- Where a compound's entries are cut (1): in an entry's head, in its payload, or later.
    pub data EntriesCut (fuel : ℕ) (earlier : Forest) (at n p : ℕ) : Type 0 where
      in_head : entry_at form doc at ≡ no 1 p → EntriesCut fuel earlier at n p
      in-payload : (kind : ℕ) (s : Span) → entry_at form doc at ≡ got (named kind s) → has_name doc (part doc s.start s.size) earlier ≡ false
          → read kind s.start s.size s.next n ≡ no 1 p → EntriesCut fuel earlier at n p
      later-on : (kind : ℕ) (s : Span) (x : One) → entry_at form doc at ≡ got (named kind s) → has_name doc (part doc s.start s.size) earlier ≡ false
          → read kind s.start s.size s.next n ≡ got x
          → entries form doc read fuel (earlier ⊕ node x.head x.inner none) x.next (n + 1 + size x.inner) ≡ no 1 p → EntriesCut fuel earlier at n p

    pub entries-cut : (fuel : ℕ) (earlier : Forest) (at n : ℕ) {p : ℕ} → entries form doc read (suc fuel) earlier at n ≡ no 1 p → EntriesCut fuel earlier at n p
    unfolding entries
    entries-cut fuel earlier at n {p} e = head (bind-no (entry_at form doc at) rest e)
      where
        next : One → Out Run
        next x = entries form doc read fuel (earlier ⊕ node x.head x.inner none) x.next (n + 1 + size x.inner)

        rest : Entry → Out Run
        rest f = elim f [
          | end ↦ got (record { forest = none; next = at + 1 })
          | named kind s ↦ guard (not (has_name doc (part doc s.start s.size) earlier)) 6 at >> (read kind s.start s.size s.next n
              >>= (λ x. next x >>= (λ r. got (before x r))))
        ]

        last : (kind : ℕ) (s : Span) → entry_at form doc at ≡ got (named kind s) → has_name doc (part doc s.start s.size) earlier ≡ false
            → (x : One) → read kind s.start s.size s.next n ≡ got x → (next x ≡ no 1 p) ⊎ ((r : Run) × (next x ≡ got r) × (got (before x r) ≡ no 1 p)) → EntriesCut fuel earlier at n p
        last kind s a new x b (inl g) = later-on kind s x a new b g
        last kind s a new x b (inr g) = absurd (got-no g.2)

        payload : (kind : ℕ) (s : Span) → entry_at form doc at ≡ got (named kind s) → has_name doc (part doc s.start s.size) earlier ≡ false
            → (read kind s.start s.size s.next n ≡ no 1 p)
            ⊎ ((x : One) × (read kind s.start s.size s.next n ≡ got x) × ((next x >>= (λ r. got (before x r))) ≡ no 1 p)) → EntriesCut fuel earlier at n p
        payload kind s a new (inl g) = in-payload kind s a new g
        payload kind s a new (inr g) = last kind s a new g.0 g.1 (bind-no (next g.0) (λ r. got (before g.0 r)) g.2)

        entry : (f : Entry) → entry_at form doc at ≡ got f → rest f ≡ no 1 p → EntriesCut fuel earlier at n p
        entry end a f = absurd (got-no f)
        entry (named kind s) a f =
            let g = guard-no (not (has_name doc (part doc s.start s.size) earlier)) 6 at _ (λ z. omega arith) f in
            payload kind s a (not-true _ g.0) (bind-no (read kind s.start s.size s.next n) (λ x. next x >>= (λ r. got (before x r))) g.1)

        head : (entry_at form doc at ≡ no 1 p) ⊎ ((f : Entry) × (entry_at form doc at ≡ got f) × (rest f ≡ no 1 p)) → EntriesCut fuel earlier at n p
        head (inl f) = in_head f
        head (inr f) = entry f.0 f.1 f.2

    module _ (fuel at n : ℕ) where
      entry-by : ℕ → Span → Out One → Kept
      entry-by kind s o = elim o [
        | got x ↦ whole x (kept_entries form doc read begun fuel x.next (n + 1 + size x.inner))
        | no m p ↦ begun kind s.start s.size s.next n
      ]

      head-by : Out Entry → Kept
      head-by o = elim o [
        | no m p ↦ nothing
        | got e ↦ elim e [ end ↦ nothing | named kind s ↦ entry-by kind s (read kind s.start s.size s.next n) ]
      ]

      pub no-entry : {m p : ℕ} → entry_at form doc at ≡ no m p → kept_entries form doc read begun (suc fuel) at n ≡ nothing
      unfolding kept_entries head-by entry-by
      no-entry e = ap head-by e

      module _ {kind : ℕ} {s : Span} (e : entry_at form doc at ≡ got (named kind s)) where
        pub kept_entry : {x : One} → read kind s.start s.size s.next n ≡ got x
            → kept_entries form doc read begun (suc fuel) at n ≡ whole x (kept_entries form doc read begun fuel x.next (n + 1 + size x.inner))
        unfolding kept_entries head-by entry-by
        kept_entry f = ap head-by e ∙ ap (entry-by kind s) f

        pub begun-entry : {m p : ℕ} → read kind s.start s.size s.next n ≡ no m p
            → kept_entries form doc read begun (suc fuel) at n ≡ begun kind s.start s.size s.next n
        unfolding kept_entries head-by entry-by
        begun-entry f = ap head-by e ∙ ap (entry-by kind s) f

  module _ (room : ℕ) where
    -- ---- containers

    -- A payload that is cut (1) had room for its record.
    pub payload_cut : (inside : ℕ → ℕ → ℕ → Out Inside) (kind name len at n : ℕ) {p : ℕ} → holds kind ≡ true → payload_by form doc room inside kind name len at n ≡ no 1 p
        → (n < room) × (inside kind at (n + 1) ≡ no 1 p)
    unfolding payload_by
    payload_cut inside kind name len at n {p} h e =
        let g = guard-no (ltb n room) 8 at _ (λ z. omega arith) e in
        (ltb-true n room g.0, go (bind-no (inside kind at (n + 1)) (λ x. got (held_one kind name len x)) (rw h at g.1)))
      where
        go : (inside kind at (n + 1) ≡ no 1 p) ⊎ ((x : Inside) × (inside kind at (n + 1) ≡ got x) × (got (held_one kind name len x) ≡ no 1 p)) → inside kind at (n + 1) ≡ no 1 p
        go (inl f) = f
        go (inr f) = absurd (got-no f.2)

    module _ (depth at n : ℕ) where
      abbrev read : Reader
      read = payload_by form doc room (inside_at form doc room depth)

      -- A list is cut in its head or in its elements.
      pub list-cut : {p : ℕ} → inside_at form doc room (suc depth) 9 at n ≡ no 1 p
          → (list_head_at form doc at ≡ no 1 p) ⊎ ((h : ListHead) × (list_head_at form doc at ≡ got h) × (elements form doc read h.count h.kind (at + 5) n ≡ no 1 p))
      unfolding inside_at container_at list_at
      list-cut {p} e = go (bind-no (list_head_at form doc at) rest e)
        where
          inside : ListHead → Run → Inside
          inside h r = record { forest = r.forest; count = h.count; kind = h.kind; next = r.next }

          rest : ListHead → Out Inside
          rest h = elements form doc read h.count h.kind (at + 5) n >>= (λ r. got (inside h r))

          last : (h : ListHead) → (elements form doc read h.count h.kind (at + 5) n ≡ no 1 p)
              ⊎ ((r : Run) × (elements form doc read h.count h.kind (at + 5) n ≡ got r) × (got (inside h r) ≡ no 1 p))
              → elements form doc read h.count h.kind (at + 5) n ≡ no 1 p
          last h (inl f) = f
          last h (inr f) = absurd (got-no f.2)

          go : (list_head_at form doc at ≡ no 1 p) ⊎ ((h : ListHead) × (list_head_at form doc at ≡ got h) × (rest h ≡ no 1 p))
              → (list_head_at form doc at ≡ no 1 p) ⊎ ((h : ListHead) × (list_head_at form doc at ≡ got h) × (elements form doc read h.count h.kind (at + 5) n ≡ no 1 p))
          go (inl f) = inl f
          go (inr f) = inr (f.0, f.1, last f.0 (bind-no (elements form doc read f.0.count f.0.kind (at + 5) n) (λ r. got (inside f.0 r)) f.2))

      -- A compound is cut in its entries.
      pub compound-cut : {p : ℕ} → inside_at form doc room (suc depth) 10 at n ≡ no 1 p → entries form doc read (suc (length doc)) none at n ≡ no 1 p
      unfolding inside_at container_at compound_at
      compound-cut {p} e = go (bind-no (entries form doc read (suc (length doc)) none at n) (λ r. got (inside r)) e)
        where
          inside : Run → Inside
          inside r = record { forest = r.forest; count = width r.forest; kind = 0; next = r.next }

          go : (entries form doc read (suc (length doc)) none at n ≡ no 1 p) ⊎ ((r : Run) × (entries form doc read (suc (length doc)) none at n ≡ got r) × (got (inside r) ≡ no 1 p))
              → entries form doc read (suc (length doc)) none at n ≡ no 1 p
          go (inl f) = f
          go (inr f) = absurd (got-no f.2)

      -- What is kept of a container.
      list-by : Out ListHead → ℕ → ℕ → ℕ → Kept
      list-by o name len m = elim o [
        | got h ↦ opened 9 name len m h.count (kept_elements form doc read (begun_at form doc room depth) h.count h.kind (at + 5) (m + 1))
        | no m p ↦ nothing
      ]

      module _ (name len : ℕ) where
        pub begun-list : {h : ListHead} → list_head_at form doc at ≡ got h
            → begun_at form doc room (suc depth) 9 name len at n ≡ opened 9 name len n h.count (kept_elements form doc read (begun_at form doc room depth) h.count h.kind (at + 5) (n + 1))
        unfolding begun_at list-by
        begun-list e = ap (λ o. list-by o name len n) e

        pub no-list : {m p : ℕ} → list_head_at form doc at ≡ no m p → begun_at form doc room (suc depth) 9 name len at n ≡ nothing
        unfolding begun_at list-by
        no-list e = ap (λ o. list-by o name len n) e

        pub begun-compound : begun_at form doc room (suc depth) 10 name len at n ≡ opened 10 name len n 0 (kept_entries form doc read (begun_at form doc room depth) (suc (length doc)) at (n + 1))
        unfolding begun_at
        begun-compound = refl

    -- What holds no records is kept whole or not at all.
    pub begun-leaf : (depth kind name len at n : ℕ) → holds kind ≡ false → begun_at form doc room depth kind name len at n ≡ nothing
    unfolding begun_at
    begun-leaf zero kind name len at n h = refl
    begun-leaf (suc depth) kind name len at n h = go (eqb kind 9) (eqb kind 10) h
      where
        go : (a b : Bool) → (a || b) ≡ false → elim a [
          | true ↦ elim (list_head_at form doc at) [
            | got h ↦ opened 9 name len n h.count
                (kept_elements form doc (payload_by form doc room (inside_at form doc room depth)) (begun_at form doc room depth) h.count h.kind (at + 5) (n + 1))
            | no m p ↦ nothing
          ]
          | false ↦ elim b [
            | true ↦ opened 10 name len n 0 (kept_entries form doc (payload_by form doc room (inside_at form doc room depth)) (begun_at form doc room depth) (suc (length doc)) at (n + 1))
            | false ↦ nothing
          ]
        ] ≡ nothing
        go true b e = differ e
        go false true e = differ e
        go false false e = refl

    -- ---- the document

    -- A document that is cut behind its root's name: its root's payload is.
    pub record RootCut (s : Span) (p : ℕ) : Type 0 where
      pub refused : document_at form doc room ≡ no 1 p
      pub small : length doc ≤ document_limit
      pub first : byte_at doc 0 ≡ got 10
      pub named : string_at form doc 1 ≡ got s
      pub payload : payload_by form doc room (inside_at form doc room depth_limit) 10 s.start s.size s.next 0 ≡ no 1 p

    pub root-cut : {s : Span} {p : ℕ} → string_at form doc 1 ≡ got s → document_at form doc room ≡ no 1 p → RootCut s p
    unfolding document_at
    root-cut {s} {p} w e = go (bind-no (byte_at doc 0) first limit.1)
      where
        next : Span → Out One
        next t = payload_by form doc room (inside_at form doc room depth_limit) 10 t.start t.size t.next 0

        first : ℕ → Out One
        first k = guard (eqb k 10) 2 0 >> (string_at form doc 1 >>= next)

        limit : (leb (length doc) document_limit ≡ true) × ((byte_at doc 0 >>= first) ≡ no 1 p)
        limit = guard-no (leb (length doc) document_limit) 9 0 (byte_at doc 0 >>= first) (λ z. omega arith) e

        last : (k : ℕ) → byte_at doc 0 ≡ got k → (k ≡ 10) → (string_at form doc 1 ≡ no 1 p) ⊎ ((t : Span) × (string_at form doc 1 ≡ got t) × (next t ≡ no 1 p)) → RootCut s p
        last k b f (inl g) = absurd (not-both w g)
        last k b f (inr g) =
            let same : g.0 ≡ s = cc (g.1, w) in
            record { refused = e; small = leb-true (length doc) document_limit limit.0; first = b ∙ ap got f; named = w; payload = ap next (sym same) ∙ g.2 }

        go : (byte_at doc 0 ≡ no 1 p) ⊎ ((k : ℕ) × (byte_at doc 0 ≡ got k) × (first k ≡ no 1 p)) → RootCut s p
        go (inl f) =
            let i = string-within form doc 1 w in
            absurd (not-both (byte-got doc 0 (omega arith)) f)
        go (inr f) =
            let g = guard-no (eqb f.0 10) 2 0 (string_at form doc 1 >>= next) (λ z. omega arith) f.2 in
            last f.0 f.1 (eqb-true f.0 10 g.0) (bind-no (string_at form doc 1) next g.1)

    -- ---- what is kept of it

    kept-name : Out Span → ℕ → Out Kept
    kept-name o p = elim o [
      | got s ↦ got (begun_at form doc room depth_limit 10 s.start s.size s.next 0)
      | no m' p' ↦ no root_cut p
    ]

    kept-by-read : Out One → Out Kept
    kept-by-read o = elim o [
      | got x ↦ no not_cut 0
      | no m p ↦ elim (eqb m data_ends) [ true ↦ kept-name (string_at form doc 1) p | false ↦ no m p ]
    ]

    -- It is cut, behind its root's name.
    pub record KeptIs (k : Kept) : Type 0 where
      pub s : Span
      pub p : ℕ
      pub cut : RootCut s p
      pub is : k ≡ begun_at form doc room depth_limit 10 s.start s.size s.next 0

    pub kept-is : {k : Kept} → kept_of form doc room ≡ got k → KeptIs k
    unfolding kept_of kept-by-read kept-name
    kept-is {k} e = go (document_at form doc room) refl e
      where
        named : (p : ℕ) → document_at form doc room ≡ no 1 p → (o : Out Span) → string_at form doc 1 ≡ o → kept-name o p ≡ got k → KeptIs k
        named p a (got s) b f = record { s = s; p = p; cut = root-cut b a; is = cc }
        named p a (no m q) b f = absurd (got-no (sym f))

        cut : (m p : ℕ) → document_at form doc room ≡ no m p → (t : Bool) → eqb m data_ends ≡ t → elim t [ true ↦ kept-name (string_at form doc 1) p | false ↦ no m p ] ≡ got k → KeptIs k
        cut m p a true b f = named p (a ∙ ap (λ i. no i p) (eqb-true m data_ends b)) (string_at form doc 1) refl f
        cut m p a false b f = absurd (got-no (sym f))

        go : (o : Out One) → document_at form doc room ≡ o → kept-by-read o ≡ got k → KeptIs k
        go (got x) a f = absurd (got-no (sym f))
        go (no m p) a f = cut m p a (eqb m data_ends) refl f

    -- And every document that is cut there is kept so.
    pub kept_of_lem : {s : Span} {p : ℕ} → string_at form doc 1 ≡ got s → document_at form doc room ≡ no 1 p
        → kept_of form doc room ≡ got (begun_at form doc room depth_limit 10 s.start s.size s.next 0)
    unfolding kept_of kept-by-read kept-name
    kept_of_lem {s} {p} w e = ap kept-by-read e ∙ ap (λ o. kept-name o p) w

-- ---- the answer, one law for each way

module _ (form : Form) (doc : List ℕ) (room lines out : ℕ) where
  -- An accepted document is 31.
  pub rescued-accepted : {x : One} → document_at form doc room ≡ got x → rescued form doc room lines out ≡ refused 31 0 0
  unfolding rescued kept_of kept-by-read kept-name
  rescued-accepted e = ap (λ o. laid_in form doc lines out (kept-by-read form doc room o)) e

  -- The reader's other refusals come as they are.
  pub rescued-other : {m p : ℕ} → document_at form doc room ≡ no m p → (m ≡ 1 → ⊥) → rescued form doc room lines out ≡ refused m p 0
  unfolding rescued kept_of kept-by-read kept-name
  rescued-other {m} {p} e d =
      ap (λ o. laid_in form doc lines out (kept-by-read form doc room o)) e
      ∙ ap (λ b. laid_in form doc lines out (elim b [ true ↦ kept-name form doc room (string_at form doc 1) p | false ↦ no m p ])) (ne_eqb m 1 d)

  -- 32 where the cut falls in the root's id or name.
  pub rescued-root : {p m' p' : ℕ} → document_at form doc room ≡ no 1 p → string_at form doc 1 ≡ no m' p' → rescued form doc room lines out ≡ refused 32 p 0
  unfolding rescued kept_of kept-by-read kept-name
  rescued-root {p} e f = ap (λ o. laid_in form doc lines out (kept-by-read form doc room o)) e ∙ ap (λ o. laid_in form doc lines out (kept-name form doc room o p)) f

  module _ {k : Kept} (e : kept_of form doc room ≡ got k) where
    -- 24 with the number of lines, then 13, then the document and its lines.
    pub rescued-short : lines < length k.lines → rescued form doc room lines out ≡ refused 24 0 (length k.lines)
    unfolding rescued
    rescued-short l = ap (laid_in form doc lines out) e ∙ rw (lt-leb (length k.lines) lines l) refl

    module _ (l : length k.lines ≤ lines) where
      pub rescued-full : out < length (layout_in form (document_of form doc k.forest)) → rescued form doc room lines out ≡ refused 13 0 0
      unfolding rescued
      rescued-full f = ap (laid_in form doc lines out) e ∙ rw (le-leb (length k.lines) lines l, lt-leb (length (layout_in form (document_of form doc k.forest))) out f) refl

      pub rescued-saved : length (layout_in form (document_of form doc k.forest)) ≤ out → rescued form doc room lines out ≡ saved (layout_in form (document_of form doc k.forest)) k.lines
      unfolding rescued
      rescued-saved f = ap (laid_in form doc lines out) e ∙ rw (le-leb (length k.lines) lines l, le-leb (length (layout_in form (document_of form doc k.forest))) out f) refl
