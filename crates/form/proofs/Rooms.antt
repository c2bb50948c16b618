-- More room changes nothing of a read that had enough: what is accepted, what is refused for another reason, and what is kept of it.
-- Assumes nothing.
use Prim.Native.Nat.{ℕ, zero, suc, ◌+◌, ◌≤◌}
use mathlib.Core.Bool.{Bool, true, false, not}
use mathlib.Core.Logic.{◌⊎◌, inl, inr}
use mathlib.Core.List.{List}
use mathlib.Core.Path.{◌≡◌, refl, sym, ap, ◌∙◌}
use native.Mathlib.Omega.{arith}
use lib.ListN.{length}
use lib.Dec.{ltb, leb, eqb}
use borrow.Author.Tests.{lt-ltb, ltb-true, ltb-false}
use Rattle.form.specs.Form.{Form}
use Rattle.form.specs.Answer.{Out, got, no, ◌>>=◌, ◌>>◌, guard, table_full, depth_limit, document_limit}
use Rattle.form.specs.Spans.{part}
use Rattle.form.specs.Table.{Forest, none, node, size, ◌⊕◌, holds}
use Rattle.form.specs.Reading.{One, Run, Inside, ListHead, Entry, end, named, Reader, before, held_one, has_name, byte_at, string_at, entry_at}
use Rattle.form.specs.Reading.{list_head_at, leaf_one, elements, entries, list_at, compound_at, container_at, payload_by, inside_at, document_at}
use Rattle.form.specs.Cut.{Kept, whole, opened, kept_elements, kept_entries, begun_at, kept_of}
use Rattle.form.proofs.Answer.{got-no}
use Rattle.form.proofs.Agrees.{Agrees, agrees-self, bind-agrees, guard-agrees, agrees-got, agrees-other}
use Rattle.form.proofs.Leaves.{held-kind}
use Rattle.form.proofs.Cut.{EntriesCut, in_head, in-payload, later-on, elements-cut, entries-cut, kept-element, begun-element, no-element, no-entry, kept_entry}
use Rattle.form.proofs.Cut.{begun-entry, payload_cut, list-cut, compound-cut, begun-list, no-list, begun-compound, begun-leaf, kept-is, kept_of_lem}

abbrev pub Alike : Reader → Reader → Type 0
Alike r₁ r₂ = (kind name len at n : ℕ) → Agrees table_full (r₁ kind name len at n) (r₂ kind name len at n)

module _ (form : Form) (doc : List ℕ) where
  module _ (r₁ r₂ : Reader) (h : Alike r₁ r₂) where
    elements-agree : (c k at n : ℕ) → Agrees table_full (elements form doc r₁ c k at n) (elements form doc r₂ c k at n)
    unfolding elements
    elements-agree zero k at n = agrees-self _
    elements-agree (suc c) k at n =
        bind-agrees (r₁ k 0 0 at n) (r₂ k 0 0 at n) _ _ (h k 0 0 at n)
        (λ x e. bind-agrees (elements form doc r₁ c k x.next (n + 1 + size x.inner))
        (elements form doc r₂ c k x.next (n + 1 + size x.inner)) _ _ (elements-agree c k x.next (n + 1 + size x.inner)) (λ r e. agrees-self _))

    entries-agree : (fuel : ℕ) (earlier : Forest) (at n : ℕ) → Agrees table_full (entries form doc r₁ fuel earlier at n) (entries form doc r₂ fuel earlier at n)
    unfolding entries
    entries-agree zero earlier at n = agrees-self _
    entries-agree (suc fuel) earlier at n = bind-agrees (entry_at form doc at) (entry_at form doc at) _ _ (agrees-self _) (λ e f. go (entries-agree fuel) e)
      where
        rest : Reader → Entry → Out Run
        rest r e = elim e [
          | end ↦ got (record { forest = none; next = at + 1 })
          | named kind s ↦ guard (not (has_name doc (part doc s.start s.size) earlier)) 6 at >> (r kind s.start s.size s.next n
              >>= (λ x. entries form doc r fuel (earlier ⊕ node x.head x.inner none) x.next (n + 1 + size x.inner) >>= (λ r. got (before x r))))
        ]

        go : ((earlier : Forest) (at n : ℕ) → Agrees table_full (entries form doc r₁ fuel earlier at n) (entries form doc r₂ fuel earlier at n)) → (e : Entry) → Agrees table_full (rest r₁ e) (rest r₂ e)
        go ih end = agrees-self _
        go ih (named kind s) =
            guard-agrees (not (has_name doc (part doc s.start s.size) earlier)) 6 at _ _
            (λ t. bind-agrees (r₁ kind s.start s.size s.next n) (r₂ kind s.start s.size s.next n) _ _ (h kind s.start s.size s.next n)
            (λ x e. bind-agrees (entries form doc r₁ fuel (earlier ⊕ node x.head x.inner none) x.next (n + 1 + size x.inner))
            (entries form doc r₂ fuel (earlier ⊕ node x.head x.inner none) x.next (n + 1 + size x.inner)) _ _
            (ih (earlier ⊕ node x.head x.inner none) x.next (n + 1 + size x.inner)) (λ r e. agrees-self _)))

    container-agrees : (kind at n : ℕ) → Agrees table_full (container_at form doc r₁ kind at n) (container_at form doc r₂ kind at n)
    unfolding container_at list_at compound_at
    container-agrees kind at n = go (eqb kind 9)
      where
        go : (t : Bool) → Agrees table_full {A = Inside} (elim t [ true ↦ list_at form doc r₁ at n | false ↦ compound_at form doc r₁ at n ])
            (elim t [ true ↦ list_at form doc r₂ at n | false ↦ compound_at form doc r₂ at n ])
        go true = bind-agrees (list_head_at form doc at) (list_head_at form doc at) _ _ (agrees-self _)
            (λ h e. bind-agrees (elements form doc r₁ h.count h.kind (at + 5) n)
            (elements form doc r₂ h.count h.kind (at + 5) n) _ _ (elements-agree h.count h.kind (at + 5) n) (λ r e. agrees-self _))
        go false = bind-agrees (entries form doc r₁ (suc (length doc)) none at n) (entries form doc r₂ (suc (length doc)) none at n) _ _
            (entries-agree (suc (length doc)) none at n) (λ r e. agrees-self _)

  module _ (room₁ room₂ : ℕ) (le : room₁ ≤ room₂) where
    abbrev first : ℕ → Reader
    first d = payload_by form doc room₁ (inside_at form doc room₁ d)

    abbrev second : ℕ → Reader
    second d = payload_by form doc room₂ (inside_at form doc room₂ d)

    full-agrees : {A : Type 0} (n at : ℕ) (r₁ r₂ : Out A) → Agrees table_full r₁ r₂ → Agrees table_full (guard (ltb n room₁) 8 at >> r₁) (guard (ltb n room₂) 8 at >> r₂)
    full-agrees n at r₁ r₂ h = go (ltb n room₁) refl
      where
        go : (t : Bool) → ltb n room₁ ≡ t → Agrees table_full (guard t 8 at >> r₁) (guard (ltb n room₂) 8 at >> r₂)
        go true e = rw (lt-ltb n room₂ (omega (arith, ltb-true n room₁ e))) h
        go false e = record { it = λ f. absurd (f at refl) }

    payload-agrees : (d : ℕ) → ((kind at n : ℕ) → Agrees table_full (inside_at form doc room₁ d kind at n) (inside_at form doc room₂ d kind at n)) → Alike (first d) (second d)
    unfolding payload_by
    payload-agrees d h kind name len at n = full-agrees n at _ _ (go (holds kind))
      where
        go : (t : Bool) → Agrees table_full {A = One} (elim t [ true ↦ inside_at form doc room₁ d kind at (n + 1) >>= (λ x. got (held_one kind name len x)) | false ↦ leaf_one form doc kind name len at ])
            (elim t [ true ↦ inside_at form doc room₂ d kind at (n + 1) >>= (λ x. got (held_one kind name len x)) | false ↦ leaf_one form doc kind name len at ])
        go true = bind-agrees (inside_at form doc room₁ d kind at (n + 1)) (inside_at form doc room₂ d kind at (n + 1)) _ _ (h kind at (n + 1)) (λ x e. agrees-self _)
        go false = agrees-self _

    inside-agrees : (d kind at n : ℕ) → Agrees table_full (inside_at form doc room₁ d kind at n) (inside_at form doc room₂ d kind at n)
    unfolding inside_at
    inside-agrees zero kind at n = agrees-self _
    inside-agrees (suc d) kind at n = container-agrees (first d) (second d) (payload-agrees d (inside-agrees d)) kind at n

    pub tag-agrees : (d : ℕ) → Alike (first d) (second d)
    tag-agrees d = payload-agrees d (inside-agrees d)

    pub document-agrees : Agrees table_full (document_at form doc room₁) (document_at form doc room₂)
    unfolding document_at
    document-agrees =
        guard-agrees (leb (length doc) document_limit) 9 0 _ _
        (λ t. bind-agrees (byte_at doc 0) (byte_at doc 0) _ _ (agrees-self _)
        (λ k e. guard-agrees (eqb k 10) 2 0 _ _
        (λ u. bind-agrees (string_at form doc 1) (string_at form doc 1) _ _ (agrees-self _) (λ s f. tag-agrees depth_limit 10 s.start s.size s.next 0))))

    -- ---- what is kept

    -- Whatever is cut is kept alike.
    abbrev Begun : ℕ → Type 0
    Begun d = (kind name len at n p : ℕ) → first d kind name len at n ≡ no 1 p → begun_at form doc room₂ d kind name len at n ≡ begun_at form doc room₁ d kind name len at n

    module _ (d : ℕ) (B : Begun d) where
      elements-kept : (c k at n p : ℕ) → elements form doc (first d) c k at n ≡ no 1 p
          → kept_elements form doc (second d) (begun_at form doc room₂ d) c k at n ≡ kept_elements form doc (first d) (begun_at form doc room₁ d) c k at n
      unfolding elements
      elements-kept zero k at n p e = absurd (got-no e)
      elements-kept (suc c) k at n p e = go (elements-kept c) (elements-cut form doc (first d) (begun_at form doc room₁ d) c k at n e)
        where
          begun : first d k 0 0 at n ≡ no 1 p → (t : Bool) → ltb at (length doc) ≡ t
              → kept_elements form doc (second d) (begun_at form doc room₂ d) (suc c) k at n ≡ kept_elements form doc (first d) (begun_at form doc room₁ d) (suc c) k at n
          begun f true t =
              begun-element form doc (second d) (begun_at form doc room₂ d) c k at n (agrees-other (λ z. omega arith) (tag-agrees d k 0 0 at n) f) (ltb-true at (length doc) t) ∙ B k 0 0 at n p f
              ∙ sym (begun-element form doc (first d) (begun_at form doc room₁ d) c k at n f (ltb-true at (length doc) t))
          begun f false t =
              no-element form doc (second d) (begun_at form doc room₂ d) c k at n (agrees-other (λ z. omega arith) (tag-agrees d k 0 0 at n) f) (ltb-false at (length doc) t)
              ∙ sym (no-element form doc (first d) (begun_at form doc room₁ d) c k at n f (ltb-false at (length doc) t))

          go : ((k at n p : ℕ) → elements form doc (first d) c k at n ≡ no 1 p
              → kept_elements form doc (second d) (begun_at form doc room₂ d) c k at n ≡ kept_elements form doc (first d) (begun_at form doc room₁ d) c k at n)
              → (first d k 0 0 at n ≡ no 1 p) ⊎ ((x : One) × (first d k 0 0 at n ≡ got x) × (elements form doc (first d) c k x.next (n + 1 + size x.inner) ≡ no 1 p))
              → kept_elements form doc (second d) (begun_at form doc room₂ d) (suc c) k at n ≡ kept_elements form doc (first d) (begun_at form doc room₁ d) (suc c) k at n
          go ih (inl f) = begun f (ltb at (length doc)) refl
          go ih (inr (x, f, g)) =
              kept-element form doc (second d) (begun_at form doc room₂ d) c k at n (agrees-got (tag-agrees d k 0 0 at n) f)
              ∙ ap (whole x) (ih k x.next (n + 1 + size x.inner) p g) ∙ sym (kept-element form doc (first d) (begun_at form doc room₁ d) c k at n f)

      entries-kept : (fuel : ℕ) (earlier : Forest) (at n p : ℕ) → entries form doc (first d) fuel earlier at n ≡ no 1 p
          → kept_entries form doc (second d) (begun_at form doc room₂ d) fuel at n ≡ kept_entries form doc (first d) (begun_at form doc room₁ d) fuel at n
      unfolding entries kept_entries
      entries-kept zero earlier at n p e = refl
      entries-kept (suc fuel) earlier at n p e = go (entries-kept fuel) (entries-cut form doc (first d) (begun_at form doc room₁ d) fuel earlier at n e)
        where
          go : ((earlier : Forest) (at n p : ℕ) → entries form doc (first d) fuel earlier at n ≡ no 1 p
              → kept_entries form doc (second d) (begun_at form doc room₂ d) fuel at n ≡ kept_entries form doc (first d) (begun_at form doc room₁ d) fuel at n)
              → EntriesCut form doc (first d) (begun_at form doc room₁ d) fuel earlier at n p
              → kept_entries form doc (second d) (begun_at form doc room₂ d) (suc fuel) at n ≡ kept_entries form doc (first d) (begun_at form doc room₁ d) (suc fuel) at n
          go ih (in_head a) = no-entry form doc (second d) (begun_at form doc room₂ d) fuel at n a ∙ sym (no-entry form doc (first d) (begun_at form doc room₁ d) fuel at n a)
          go ih (in-payload kind s a new b) =
              begun-entry form doc (second d) (begun_at form doc room₂ d) fuel at n a
              (agrees-other (λ z. omega arith) (tag-agrees d kind s.start s.size s.next n) b) ∙ B kind s.start s.size s.next n p b
              ∙ sym (begun-entry form doc (first d) (begun_at form doc room₁ d) fuel at n a b)
          go ih (later-on kind s x a new b c) =
              kept_entry form doc (second d) (begun_at form doc room₂ d) fuel at n a (agrees-got (tag-agrees d kind s.start s.size s.next n) b)
              ∙ ap (whole x) (ih (earlier ⊕ node x.head x.inner none) x.next (n + 1 + size x.inner) p c) ∙ sym (kept_entry form doc (first d) (begun_at form doc room₁ d) fuel at n a b)

      list-kept : (name len at n p : ℕ) → first (suc d) 9 name len at n ≡ no 1 p → begun_at form doc room₂ (suc d) 9 name len at n ≡ begun_at form doc room₁ (suc d) 9 name len at n
      list-kept name len at n p e = go (list-cut form doc room₁ d at (n + 1) (payload_cut form doc room₁ (inside_at form doc room₁ (suc d)) 9 name len at n refl e).1)
        where
          go : (list_head_at form doc at ≡ no 1 p) ⊎ ((h : ListHead) × (list_head_at form doc at ≡ got h) × (elements form doc (first d) h.count h.kind (at + 5) (n + 1) ≡ no 1 p))
              → begun_at form doc room₂ (suc d) 9 name len at n ≡ begun_at form doc room₁ (suc d) 9 name len at n
          go (inl f) = no-list form doc room₂ d at n name len f ∙ sym (no-list form doc room₁ d at n name len f)
          go (inr (h, f, g)) =
              begun-list form doc room₂ d at n name len f ∙ ap (opened 9 name len n h.count) (elements-kept h.count h.kind (at + 5) (n + 1) p g)
              ∙ sym (begun-list form doc room₁ d at n name len f)

      compound-kept : (name len at n p : ℕ) → first (suc d) 10 name len at n ≡ no 1 p → begun_at form doc room₂ (suc d) 10 name len at n ≡ begun_at form doc room₁ (suc d) 10 name len at n
      compound-kept name len at n p e =
          begun-compound form doc room₂ d at n name len
          ∙ ap (opened 10 name len n 0) (entries-kept (suc (length doc)) none at (n + 1) p
          (compound-cut form doc room₁ d at (n + 1) (payload_cut form doc room₁ (inside_at form doc room₁ (suc d)) 10 name len at n refl e).1))
          ∙ sym (begun-compound form doc room₁ d at n name len)

    begun_kept : (d : ℕ) → Begun d
    unfolding begun_at
    begun_kept zero kind name len at n p e = refl
    begun_kept (suc d) kind name len at n p e = go (begun_kept d) (holds kind) refl
      where
        kinds : Begun d → (kind ≡ 9) ⊎ (kind ≡ 10) → begun_at form doc room₂ (suc d) kind name len at n ≡ begun_at form doc room₁ (suc d) kind name len at n
        kinds ih (inl k) = rw k (list-kept d ih name len at n p (rw k at e))
        kinds ih (inr k) = rw k (compound-kept d ih name len at n p (rw k at e))

        go : Begun d → (t : Bool) → holds kind ≡ t → begun_at form doc room₂ (suc d) kind name len at n ≡ begun_at form doc room₁ (suc d) kind name len at n
        go ih true h = kinds ih (held-kind kind h)
        go ih false h = begun-leaf form doc room₂ (suc d) kind name len at n h ∙ sym (begun-leaf form doc room₁ (suc d) kind name len at n h)

    -- What is kept with enough room is kept with more.
    pub kept_more : {k : Kept} → kept_of form doc room₁ ≡ got k → kept_of form doc room₂ ≡ got k
    kept_more {k} e =
        let i = kept-is form doc room₁ e in
        let s = i.s in
        kept_of_lem form doc room₂ i.cut.named (agrees-other (λ z. omega arith) document-agrees i.cut.refused)
        ∙ ap got (begun_kept depth_limit 10 s.start s.size s.next 0 i.p i.cut.payload ∙ sym i.is)
