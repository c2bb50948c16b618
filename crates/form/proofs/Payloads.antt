-- Laws of payloads and of what is in a container: one for each way that reading goes.
-- Assumes nothing.
use Prim.Native.Nat.{ℕ, zero, suc, ◌+◌, ◌-◌, ◌*◌, ◌/◌, ◌≤◌, ◌<◌}
use mathlib.Core.Bool.{Bool, true, false}
use mathlib.Core.List.{List}
use mathlib.Core.Path.{◌≡◌, refl}
use native.Mathlib.Omega.{arith}
use native.Mathlib.Numerals.{sub-one}
use borrow.Author.Tests.{lt-ltb, le-ltb, le-leb, lt-leb, ne_eqb}
use lib.ListN.{length, get_or}
use Rattle.form.specs.Form.{Form}
use Rattle.form.proofs.Fields.{byte-got, byte-no}
use Rattle.form.proofs.Answer.{bind-got, guard-got}
use lib.Dec.{ltb}
use Rattle.form.specs.Answer.{Out, got, no, ◌>>=◌, ◌>>◌}
use Rattle.form.specs.Table.{none, width, holds}
use Rattle.form.specs.Reading.{Span, One, Inside, Run, Reader, ListHead, one, held_one, leaf_at, leaf_one, list_head_at, elements, entries}
use Rattle.form.specs.Reading.{list_at, compound_at, container_at, payload_by, inside_at, string_at, document_at, room_of}

module _ (form : Form) (doc : List ℕ) where
  pub leaf-one-no : (kind name len at : ℕ) {m p : ℕ} → leaf_at form doc kind at ≡ no m p → leaf_one form doc kind name len at ≡ no m p
  unfolding leaf_one
  leaf-one-no kind name len at e = rw e refl

  pub leaf-one-got : (kind name len at : ℕ) {s : Span} → leaf_at form doc kind at ≡ got s
      → leaf_one form doc kind name len at
      ≡ got (one (record { kind = kind; name = name; name_length = len; start = s.start; size = s.size; count = s.count; list_kind = 0 }) none s.next)
  unfolding leaf_one
  leaf-one-got kind name len at e = rw e refl

  module _ (room : ℕ) (inside : ℕ → ℕ → ℕ → Out Inside) (kind name len at n : ℕ) where
    pub payload-full : room ≤ n → payload_by form doc room inside kind name len at n ≡ no 8 at
    unfolding payload_by
    payload-full h = rw (le-ltb n room h) refl

    pub payload-leaf : n < room → holds kind ≡ false → payload_by form doc room inside kind name len at n ≡ leaf_one form doc kind name len at
    unfolding payload_by
    payload-leaf h e = rw (lt-ltb n room h, ◌>>◌, e) refl

    pub payload-no : {m p : ℕ} → n < room → holds kind ≡ true → inside kind at (n + 1) ≡ no m p → payload_by form doc room inside kind name len at n ≡ no m p
    unfolding payload_by
    payload-no h e f = rw (lt-ltb n room h, ◌>>◌, e, f) refl

    pub payload-got : {x : Inside} → n < room → holds kind ≡ true → inside kind at (n + 1) ≡ got x → payload_by form doc room inside kind name len at n ≡ got (held_one kind name len x)
    unfolding payload_by
    payload-got h e f = rw (lt-ltb n room h, ◌>>◌, e, f) refl

  -- a record that was read has the name that was given
  pub payload-name : (room : ℕ) (inside : ℕ → ℕ → ℕ → Out Inside) (kind name len at n : ℕ) {x : One} → payload_by form doc room inside kind name len at n ≡ got x
      → (x.head.name ≡ name) × (x.head.name_length ≡ len)
  unfolding payload_by leaf_one
  payload-name room inside kind name len at n {x} e =
      go (holds kind) (guard-got (ltb n room) 8 at (rest (holds kind)) e).1
    where
      leaf : Span → One
      leaf s = one (record { kind = kind; name = name; name_length = len; start = s.start; size = s.size; count = s.count; list_kind = 0 }) none s.next

      rest : Bool → Out One
      rest t = elim t [ true ↦ inside kind at (n + 1) >>= (λ y. got (held_one kind name len y)) | false ↦ leaf_at form doc kind at >>= (λ s. got (leaf s)) ]

      go : (t : Bool) → rest t ≡ got x → (x.head.name ≡ name) × (x.head.name_length ≡ len)
      go true f =
          let b = bind-got (inside kind at (n + 1)) (λ y. got (held_one kind name len y)) f in
          let i : held_one kind name len b.0 ≡ x = cc b.2 in
          rw (← i) (refl, refl)
      go false f =
          let b = bind-got (leaf_at form doc kind at) (λ s. got (leaf s)) f in
          let i : leaf b.0 ≡ x = cc b.2 in
          rw (← i) (refl, refl)

  module _ (room kind at n : ℕ) where
    pub inside-deep : (depth : ℕ) → depth ≡ 0 → inside_at form doc room depth kind at n ≡ no 7 at
    unfolding inside_at
    inside-deep zero h = refl
    inside-deep (suc depth) h = absurd (omega arith)

    pub inside-list : (depth : ℕ) → (depth ≡ 0 → ⊥) → kind ≡ 9
        → inside_at form doc room depth kind at n ≡ list_at form doc (payload_by form doc room (inside_at form doc room (depth - 1))) at n
    unfolding inside_at container_at
    inside-list zero h e = absurd (h refl)
    inside-list (suc depth) h e = rw (sub-one (suc depth), e) refl

    pub inside-compound : (depth : ℕ) → (depth ≡ 0 → ⊥) → (kind ≡ 9 → ⊥)
        → inside_at form doc room depth kind at n ≡ compound_at form doc (payload_by form doc room (inside_at form doc room (depth - 1))) at n
    unfolding inside_at container_at
    inside-compound zero h e = absurd (h refl)
    inside-compound (suc depth) h e = rw (sub-one (suc depth), container_at, ne_eqb kind 9 e) refl

  module _ (read : Reader) (at n : ℕ) where
    pub compound-no : {m p : ℕ} → entries form doc read (suc (length doc)) none at n ≡ no m p → compound_at form doc read at n ≡ no m p
    unfolding compound_at
    compound-no e = rw e refl

    pub compound-got : {r : Run} → entries form doc read (suc (length doc)) none at n ≡ got r
        → compound_at form doc read at n ≡ got (record { forest = r.forest; count = width r.forest; kind = 0; next = r.next })
    unfolding compound_at
    compound-got e = rw e refl

    pub list-head-no : {m p : ℕ} → list_head_at form doc at ≡ no m p → list_at form doc read at n ≡ no m p
    unfolding list_at
    list-head-no e = rw e refl

    module _ {h : ListHead} (e : list_head_at form doc at ≡ got h) where
      pub list-no : {m p : ℕ} → elements form doc read h.count h.kind (at + 5) n ≡ no m p → list_at form doc read at n ≡ no m p
      unfolding list_at
      list-no f = rw (e, f) refl

      pub list-got : {r : Run} → elements form doc read h.count h.kind (at + 5) n ≡ got r
          → list_at form doc read at n ≡ got (record { forest = r.forest; count = h.count; kind = h.kind; next = r.next })
      unfolding list_at
      list-got f = rw (e, f) refl

  -- ---- the document

  module _ (room : ℕ) where
    pub document-long : 16777216 < length doc → document_at form doc room ≡ no 9 0
    unfolding document_at
    document-long h = rw (lt-leb (length doc) 16777216 h) refl

    module _ (l : length doc ≤ 16777216) where
      pub document-none : length doc ≡ 0 → document_at form doc room ≡ no 1 0
      unfolding document_at
      document-none h = rw (le-leb (length doc) 16777216 l, byte-no doc 0 (omega arith)) refl

      pub document-kind : 0 < length doc → (get_or doc 0 0 ≡ 10 → ⊥) → document_at form doc room ≡ no 2 0
      unfolding document_at
      document-kind h e = rw (le-leb (length doc) 16777216 l, byte-got doc 0 h, ne_eqb (get_or doc 0 0) 10 e) refl

      module _ (h : 0 < length doc) (e : get_or doc 0 0 ≡ 10) where
        pub document-no : {m p : ℕ} → string_at form doc 1 ≡ no m p → document_at form doc room ≡ no m p
        unfolding document_at
        document-no f = rw (le-leb (length doc) 16777216 l, byte-got doc 0 h, e, f) refl

        pub document-got : {s : Span} → string_at form doc 1 ≡ got s
            → document_at form doc room ≡ payload_by form doc room (inside_at form doc room 512) 10 s.start s.size s.next 0
        unfolding document_at
        document-got f = rw (le-leb (length doc) 16777216 l, byte-got doc 0 h, e, f) refl

pub room-le : (n : ℕ) → room_of n ≤ 1048576
unfolding room_of
room-le n = omega arith

pub room_fits : (n : ℕ) → 9 * room_of n ≤ n
unfolding room_of
room_fits n = omega arith

pub room_small : (n : ℕ) → n / 9 < 1048576 → n / 9 ≡ room_of n
unfolding room_of
room_small n h = omega arith

pub room-large : (n : ℕ) → 1048576 ≤ n / 9 → 1048576 ≡ room_of n
unfolding room_of
room-large n h = omega arith
