-- Laws of reads that are accepted: what they say of their parts.
-- Assumes nothing.
use Prim.Native.Nat.{ℕ, zero, suc, ◌+◌}
use mathlib.Core.Bool.{true, not}
use mathlib.Core.List.{List}
use mathlib.Core.Path.{◌≡◌, sym, ap, ◌∙◌}
use native.Mathlib.Omega.{arith}
use lib.ListN.{length}
use lib.Dec.{ltb, leb, eqb}
use Rattle.form.specs.Form.{Form}
use Rattle.form.specs.Answer.{Out, got, ◌>>=◌, ◌>>◌, guard, depth_limit, document_limit}
use Rattle.form.specs.Spans.{part}
use Rattle.form.specs.Table.{Forest, none, node, size, width, ◌⊕◌, holds}
use Rattle.form.specs.Reading.{One, Run, Inside, Span, ListHead, Entry, end, named, Reader, held_one, before, has_name, byte_at, string_at}
use Rattle.form.specs.Reading.{entry_at, list_head_at, elements, entries, list_at, compound_at, container_at, payload_by, inside_at, document_at}
use Rattle.form.proofs.Answer.{bind-got, guard-got}

module _ (form : Form) (doc : List ℕ) where
  module _ (read : Reader) where
    -- A first element, and those after it.
    pub record Elements (left kind at n : ℕ) (r : Run) : Type 0 where
      pub x : One
      pub rest : Run
      pub first : read kind 0 0 at n ≡ got x
      pub later : elements form doc read left kind x.next (n + 1 + size x.inner) ≡ got rest
      pub is : before x rest ≡ r

    pub elements-parts : (left kind at n : ℕ) {r : Run} → elements form doc read (suc left) kind at n ≡ got r → Elements left kind at n r
    unfolding elements
    elements-parts left kind at n {r} e =
        let a = bind-got (read kind 0 0 at n) rest e in
        let x = a.0 in
        let b = bind-got (elements form doc read left kind x.next (n + 1 + size x.inner)) (λ r. got (before x r)) a.2 in
        record { x = x; rest = b.0; first = a.1; later = b.1; is = cc b.2 }
      where
        rest : One → Out Run
        rest x = elements form doc read left kind x.next (n + 1 + size x.inner) >>= (λ r. got (before x r))

    -- As many elements are read as the count says.
    pub elements-width : (left kind at n : ℕ) {r : Run} → elements form doc read left kind at n ≡ got r → width r.forest ≡ left
    unfolding elements width
    elements-width zero kind at n {r} e =
        let z : record { forest = none; next = at } ≡ r = cc in
        ap (λ (r : Run). width r.forest) (sym z)
    elements-width (suc left) kind at n {r} e =
        let p = elements-parts left kind at n e in
        ap (λ (r : Run). width r.forest) (sym p.is) ∙ omega (arith, elements-width left kind p.x.next (n + 1 + size p.x.inner) p.later)

    -- The end, or a first entry and those after it.
    pub record Entries (fuel : ℕ) (earlier : Forest) (at n kind : ℕ) (s : Span) (r : Run) : Type 0 where
      pub x : One
      pub rest : Run
      pub first : read kind s.start s.size s.next n ≡ got x
      pub later : entries form doc read fuel (earlier ⊕ node x.head x.inner none) x.next (n + 1 + size x.inner) ≡ got rest
      pub is : before x rest ≡ r

    abbrev pub EntriesBy : ℕ → Forest → ℕ → ℕ → Run → Entry → Type 0
    EntriesBy fuel earlier at n r end = record { forest = none; next = at + 1 } ≡ r
    EntriesBy fuel earlier at n r (named kind s) = Entries fuel earlier at n kind s r

    pub entries-parts : (fuel : ℕ) (earlier : Forest) (at n : ℕ) {r : Run} → entries form doc read (suc fuel) earlier at n ≡ got r
        → (e : Entry) × (entry_at form doc at ≡ got e) × EntriesBy fuel earlier at n r e
    unfolding entries
    entries-parts fuel earlier at n {r} e = let a = bind-got (entry_at form doc at) rest e in (a.0, a.1, go a.0 a.2)
      where
        next : One → Out Run
        next x = entries form doc read fuel (earlier ⊕ node x.head x.inner none) x.next (n + 1 + size x.inner)

        rest : Entry → Out Run
        rest f = elim f [
          | end ↦ got (record { forest = none; next = at + 1 })
          | named kind s ↦ guard (not (has_name doc (part doc s.start s.size) earlier)) 6 at >> (read kind s.start s.size s.next n
              >>= (λ x. next x >>= (λ r. got (before x r))))
        ]

        go : (f : Entry) → rest f ≡ got r → EntriesBy fuel earlier at n r f
        go end f = cc
        go (named kind s) f =
            let g = guard-got (not (has_name doc (part doc s.start s.size) earlier)) 6 at _ f in
            let a = bind-got (read kind s.start s.size s.next n) (λ x. next x >>= (λ r. got (before x r))) g.1 in
            let b = bind-got (next a.0) (λ r. got (before a.0 r)) a.2 in
            record { x = a.0; rest = b.0; first = a.1; later = b.1; is = cc b.2 }

  module _ (room : ℕ) where
    -- A container: what is in it.
    pub payload-parts : (inside : ℕ → ℕ → ℕ → Out Inside) (kind name len at n : ℕ) {x : One} → holds kind ≡ true → payload_by form doc room inside kind name len at n ≡ got x
        → (y : Inside) × (inside kind at (n + 1) ≡ got y) × (held_one kind name len y ≡ x)
    unfolding payload_by
    payload-parts inside kind name len at n {x} h e =
        let g = guard-got (ltb n room) 8 at _ e in
        let b = bind-got (inside kind at (n + 1)) (λ y. got (held_one kind name len y)) (rw h at g.1) in
        (b.0, b.1, cc b.2)

    module _ (depth at n : ℕ) where
      abbrev read : Reader
      read = payload_by form doc room (inside_at form doc room depth)

      pub list-parts : {y : Inside} → inside_at form doc room (suc depth) 9 at n ≡ got y
          → (h : ListHead) × (r : Run) × (list_head_at form doc at ≡ got h) × (elements form doc read h.count h.kind (at + 5) n ≡ got r)
          × (record { forest = r.forest; count = h.count; kind = h.kind; next = r.next } ≡ y)
      unfolding inside_at container_at list_at
      list-parts {y} e =
          let a = bind-got (list_head_at form doc at) rest e in
          let h = a.0 in
          let b = bind-got (elements form doc read h.count h.kind (at + 5) n) (λ r. got (inside h r)) a.2 in
          (h, b.0, a.1, b.1, cc b.2)
        where
          inside : ListHead → Run → Inside
          inside h r = record { forest = r.forest; count = h.count; kind = h.kind; next = r.next }

          rest : ListHead → Out Inside
          rest h = elements form doc read h.count h.kind (at + 5) n >>= (λ r. got (inside h r))

      pub compound-parts : {y : Inside} → inside_at form doc room (suc depth) 10 at n ≡ got y
          → (r : Run) × (entries form doc read (suc (length doc)) none at n ≡ got r) × (record { forest = r.forest; count = width r.forest; kind = 0; next = r.next } ≡ y)
      unfolding inside_at container_at compound_at
      compound-parts {y} e =
          let b = bind-got (entries form doc read (suc (length doc)) none at n) (λ r. got (inside r)) e in
          (b.0, b.1, cc b.2)
        where
          inside : Run → Inside
          inside r = record { forest = r.forest; count = width r.forest; kind = 0; next = r.next }

    -- The root.
    pub root-parts : {x : One} → document_at form doc room ≡ got x
        → (s : Span) × (string_at form doc 1 ≡ got s) × (payload_by form doc room (inside_at form doc room depth_limit) 10 s.start s.size s.next 0 ≡ got x)
    unfolding document_at
    root-parts {x} e =
        let l = guard-got (leb (length doc) document_limit) 9 0 _ e in
        let a = bind-got (byte_at doc 0) first l.1 in
        let g = guard-got (eqb a.0 10) 2 0 (string_at form doc 1 >>= next) a.2 in
        bind-got (string_at form doc 1) next g.1
      where
        next : Span → Out One
        next t = payload_by form doc room (inside_at form doc room depth_limit) 10 t.start t.size t.next 0

        first : ℕ → Out One
        first k = guard (eqb k 10) 2 0 >> (string_at form doc 1 >>= next)
