-- What follows a document changes its reading only where that is refused since the data ends (1): by recursion on the depth left.
-- Assumes nothing.
use Prim.Native.Nat.{ℕ, zero, suc, ◌+◌, ◌*◌, ◌≤◌, ◌<◌}
use mathlib.Core.Bool.{Bool, true, false, not, ◌||◌}
use mathlib.Core.List.{List, ◌++◌}
use mathlib.Core.Path.{◌≡◌, refl, sym, ap, ◌∙◌}
use native.Mathlib.Omega.{arith}
use lib.Dec.{ltb, leb, eqb}
use borrow.Author.Tests.{ltb-true, ltb-false, leb-true, leb-false, le-leb}
use lib.ListN.{length, length-append}
use Rattle.form.specs.Form.{Form}
use Rattle.form.specs.Answer.{Out, got, guard, ◌>>=◌, ◌>>◌, document_limit, depth_limit}
use Rattle.form.specs.Spans.{part, same}
use Rattle.form.specs.Decoding.{verdict_in}
use Rattle.form.specs.Table.{Head, Forest, none, node, size, ◌⊕◌, width_of, holds}
use Rattle.form.specs.Reading.{One, Run, Inside, Span, Entry, end, named, before, held_one, has_name, readable, byte_at, number_at, bytes_at, string_at, count_at, array_at}
use Rattle.form.specs.Reading.{leaf_at, leaf_one, list_head_at, entry_at, elements, entries, list_at, compound_at, container_at, payload_by, inside_at, document_at}
use Rattle.form.proofs.Fields.{byte-no, number-no, bytes-got, bytes-no, string-within, entry-within, list-head-within}
use Rattle.form.proofs.Agrees.{Agrees, agrees-self, agrees-is, agrees-no, bind-agrees, guard-agrees}
use Rattle.demands.specs.Reading.{Bytes}
use Rattle.form.proofs.Answers.{of-got}
use Rattle.demands.proofs.Tags.{read_at}
use Rattle.demands.proofs.Fields.{StringLaw}
use Rattle.demands.proofs.Heads.{head-sound, entry-sound}
use Rattle.demands.proofs.Sound.{tag-sound}
use Rattle.demands.proofs.Front.{part-front, byte-front, number-front}

module _ (form : Form) (doc rest : List ℕ) where
  abbrev all : List ℕ
  all = doc ++ rest

  longer : length all ≡ length doc + length rest
  longer = length-append doc rest

  -- ---- fields

  byte-agrees : (at : ℕ) → Agrees 1 (byte_at doc at) (byte_at all at)
  byte-agrees at = go (ltb at (length doc)) refl
    where
      go : (t : Bool) → ltb at (length doc) ≡ t → Agrees 1 (byte_at doc at) (byte_at all at)
      go true t = agrees-is (byte-front doc rest at (ltb-true at (length doc) t))
      go false t = agrees-no (byte_at all at) (byte-no doc at (ltb-false at (length doc) t))

  number-agrees : (n at : ℕ) → Agrees 1 (number_at form doc n at) (number_at form all n at)
  number-agrees n at = go (leb (at + n) (length doc)) refl
    where
      go : (t : Bool) → leb (at + n) (length doc) ≡ t → Agrees 1 (number_at form doc n at) (number_at form all n at)
      go true t = agrees-is (number-front form doc rest n at (leb-true (at + n) (length doc) t))
      go false t = agrees-no (number_at form all n at) (number-no form doc n at (leb-false (at + n) (length doc) t))

  bytes-agrees : (n c at : ℕ) → Agrees 1 (bytes_at doc n c at) (bytes_at all n c at)
  bytes-agrees n c at = go (leb (at + n) (length doc)) refl
    where
      go : (t : Bool) → leb (at + n) (length doc) ≡ t → Agrees 1 (bytes_at doc n c at) (bytes_at all n c at)
      go true t = let l = leb-true (at + n) (length doc) t in agrees-is (bytes-got all n c at (omega (arith, longer)) ∙ sym (bytes-got doc n c at l))
      go false t = agrees-no (bytes_at all n c at) (bytes-no doc n c at (leb-false (at + n) (length doc) t))

  -- a string, of which the content is whole
  string-tail : (at n : ℕ) → Agrees 1 (bytes_at doc n 0 (at + 2) >>= (λ s. readable (verdict_in form.strings (part doc (at + 2) n)) (at + 2) >> got s))
      (bytes_at all n 0 (at + 2) >>= (λ s. readable (verdict_in form.strings (part all (at + 2) n)) (at + 2) >> got s))
  string-tail at n = go (leb (at + 2 + n) (length doc)) refl
    where
      go : (t : Bool) → leb (at + 2 + n) (length doc) ≡ t
          → Agrees 1 (bytes_at doc n 0 (at + 2) >>= (λ s. readable (verdict_in form.strings (part doc (at + 2) n)) (at + 2) >> got s))
          (bytes_at all n 0 (at + 2) >>= (λ s. readable (verdict_in form.strings (part all (at + 2) n)) (at + 2) >> got s))
      go true t =
          rw (part-front doc rest (at + 2) n (leb-true (at + 2 + n) (length doc) t))
          (bind-agrees (bytes_at doc n 0 (at + 2)) (bytes_at all n 0 (at + 2)) _ _ (bytes-agrees n 0 (at + 2)) (λ s e. agrees-self _))
      go false t = agrees-no _ (ap (λ (o : Out Span). o >>= (λ s. readable (verdict_in form.strings (part doc (at + 2) n)) (at + 2) >> got s))
          (bytes-no doc n 0 (at + 2) (leb-false (at + 2 + n) (length doc) t)))

  string-agrees : (at : ℕ) → Agrees 1 (string_at form doc at) (string_at form all at)
  unfolding string_at
  string-agrees at = bind-agrees (number_at form doc 2 at) (number_at form all 2 at) _ _ (number-agrees 2 at) (λ n e. string-tail at n)

  array-agrees : (w at : ℕ) → Agrees 1 (array_at form doc w at) (array_at form all w at)
  unfolding array_at count_at
  array-agrees w at =
      bind-agrees (count_at form doc at) (count_at form all at) _ _
      (bind-agrees (number_at form doc 4 at) (number_at form all 4 at) _ _ (number-agrees 4 at) (λ n e. agrees-self _)) (λ n e. bytes-agrees (n * w) n (at + 4))

  leaf-agrees : (kind at : ℕ) → Agrees 1 (leaf_at form doc kind at) (leaf_at form all kind at)
  unfolding leaf_at
  leaf-agrees kind at = go (ltb kind 7) (eqb kind 8)
    where
      go : (a b : Bool) → Agrees 1 {A = Span} (elim a [ true ↦ bytes_at doc (width_of kind) 0 at | false ↦ elim b [ true ↦ string_at form doc at | false ↦ array_at form doc (width_of kind) at ] ])
          (elim a [ true ↦ bytes_at all (width_of kind) 0 at | false ↦ elim b [ true ↦ string_at form all at | false ↦ array_at form all (width_of kind) at ] ])
      go true b = bytes-agrees (width_of kind) 0 at
      go false true = string-agrees at
      go false false = array-agrees (width_of kind) at

  head-agrees : (at : ℕ) → Agrees 1 (list_head_at form doc at) (list_head_at form all at)
  unfolding list_head_at
  head-agrees at =
      bind-agrees (byte_at doc at) (byte_at all at) _ _ (byte-agrees at)
      (λ k e. bind-agrees (number_at form doc 4 (at + 1)) (number_at form all 4 (at + 1)) _ _ (number-agrees 4 (at + 1)) (λ n f. agrees-self _))

  entry-agrees : (at : ℕ) → Agrees 1 (entry_at form doc at) (entry_at form all at)
  unfolding entry_at
  entry-agrees at = bind-agrees (byte_at doc at) (byte_at all at) _ _ (byte-agrees at) (λ k e. go k (eqb k 0))
    where
      go : (k : ℕ) (t : Bool) → Agrees 1 {A = Entry} (elim t [ true ↦ got end | false ↦ string_at form doc (at + 1) >>= (λ s. guard (leb k 12) 3 at >> got (named k s)) ])
          (elim t [ true ↦ got end | false ↦ string_at form all (at + 1) >>= (λ s. guard (leb k 12) 3 at >> got (named k s)) ])
      go k true = agrees-self _
      go k false = bind-agrees (string_at form doc (at + 1)) (string_at form all (at + 1)) _ _ (string-agrees (at + 1)) (λ s e. agrees-self _)

  -- ---- names

  abbrev NamesIn : Forest → Type 0
  NamesIn none = Unit {0}
  NamesIn (node h inner later) = (h.name + h.name_length ≤ length doc) × NamesIn later

  names_more : (f : Forest) (h : Head) (i : Forest) → NamesIn f → h.name + h.name_length ≤ length doc → NamesIn (f ⊕ node h i none)
  unfolding ◌⊕◌
  names_more none h i a b = (b, tt)
  names_more (node g j later) h i a b = (a.0, names_more later h i a.1 b)

  names-front : (x : List ℕ) (f : Forest) → NamesIn f → has_name all x f ≡ has_name doc x f
  unfolding has_name
  names-front x none a = refl
  names-front x (node h inner later) a = λ i. same (part-front doc rest h.name h.name_length a.0 i) x || names-front x later a.1 i

module _ (form : Form) (doc rest : List ℕ) (wf : StringLaw form) (bytes : Bytes doc) (room : ℕ) where
  abbrev whole : List ℕ
  whole = doc ++ rest

  abbrev Alike : ℕ → Type 0
  Alike d = (kind name len at n : ℕ) → 0 < kind → kind ≤ 12 → at ≤ length doc → Agrees 1 (read_at form doc room d kind name len at n) (read_at form whole room d kind name len at n)

  module _ (d : ℕ) (h : Alike d) where
    elements-agree : (c k at n : ℕ) → (0 < c → (0 < k) × (k ≤ 12)) → at ≤ length doc
        → Agrees 1 (elements form doc (read_at form doc room d) c k at n) (elements form whole (read_at form whole room d) c k at n)
    unfolding elements
    elements-agree zero k at n q l = agrees-self _
    elements-agree (suc c) k at n q l =
        let p = q (omega arith) in
        bind-agrees (read_at form doc room d k 0 0 at n) (read_at form whole room d k 0 0 at n) _ _ (h k 0 0 at n p.0 p.1 l)
        (λ x e. let s = of-got e (tag-sound form doc wf bytes room d 0 0 at n k p.0 p.1 l) in
        bind-agrees (elements form doc (read_at form doc room d) c k x.next (n + 1 + size x.inner)) (elements form whole (read_at form whole room d) c k x.next (n + 1 + size x.inner)) _ _
        (elements-agree c k x.next (n + 1 + size x.inner) (λ z. p) (omega (arith, s.next, s.sits.to))) (λ r f. agrees-self _))

    entries-agree : (fuel fuel' : ℕ) (earlier : Forest) (at n : ℕ) → NamesIn form doc rest earlier → at ≤ length doc → length doc < fuel + at → length whole < fuel' + at
        → Agrees 1 (entries form doc (read_at form doc room d) fuel earlier at n) (entries form whole (read_at form whole room d) fuel' earlier at n)
    unfolding entries
    entries-agree zero fuel' earlier at n i l f g = absurd (omega arith)
    entries-agree (suc fuel) zero earlier at n i l f g = absurd (omega (arith, longer form doc rest))
    entries-agree (suc fuel) (suc fuel') earlier at n i l f g =
        bind-agrees (entry_at form doc at) (entry_at form whole at) _ _ (entry-agrees form doc rest at) (λ e a. go (entries-agree fuel fuel') e a)
      where
        after : (doc : List ℕ) (fuel : ℕ) → Entry → Out Run
        after doc fuel e = elim e [
          | end ↦ got (record { forest = none; next = at + 1 })
          | named kind s ↦ guard (not (has_name doc (part doc s.start s.size) earlier)) 6 at >> (read_at form doc room d kind s.start s.size s.next n
              >>= (λ x. entries form doc (read_at form doc room d) fuel (earlier ⊕ node x.head x.inner none) x.next (n + 1 + size x.inner) >>= (λ r. got (before x r))))
        ]

        go : ((earlier : Forest) (at n : ℕ) → NamesIn form doc rest earlier → at ≤ length doc → length doc < fuel + at → length whole < fuel' + at
            → Agrees 1 (entries form doc (read_at form doc room d) fuel earlier at n) (entries form whole (read_at form whole room d) fuel' earlier at n))
            → (e : Entry) → entry_at form doc at ≡ got e → Agrees 1 (after doc fuel e) (after whole fuel' e)
        go ih end a = agrees-self _
        go ih (named kind s) a =
            let w = entry-within form doc at a in
            let m = of-got a (entry-sound form doc wf bytes at) in
            let in_name : s.start + s.size ≤ length doc = omega (arith, w.1.sum, w.1.to) in
            rw (part-front doc rest s.start s.size in_name, names-front form doc rest (part doc s.start s.size) earlier i)
            (guard-agrees (not (has_name doc (part doc s.start s.size) earlier)) 6 at _ _
            (λ t. bind-agrees (read_at form doc room d kind s.start s.size s.next n)
            (read_at form whole room d kind s.start s.size s.next n) _ _ (h kind s.start s.size s.next n m.pos m.le w.1.to)
            (λ x e. let z = of-got e (tag-sound form doc wf bytes room d s.start s.size s.next n kind m.pos m.le w.1.to) in
            bind-agrees (entries form doc (read_at form doc room d) fuel (earlier ⊕ node x.head x.inner none) x.next (n + 1 + size x.inner))
            (entries form whole (read_at form whole room d) fuel' (earlier ⊕ node x.head x.inner none) x.next (n + 1 + size x.inner)) _ _
            (ih (earlier ⊕ node x.head x.inner none) x.next (n + 1 + size x.inner) (names_more form doc rest earlier x.head x.inner i (omega (arith, z.name-is, z.len_is, in_name)))
            (omega (arith, z.next, z.sits.to)) (omega (arith, z.next, m.next)) (omega (arith, z.next, m.next))) (λ r f. agrees-self _))))

    inside-agree : (kind at n : ℕ) → at ≤ length doc → Agrees 1 (inside_at form doc room (suc d) kind at n) (inside_at form whole room (suc d) kind at n)
    unfolding inside_at container_at list_at compound_at
    inside-agree kind at n l = go (eqb kind 9)
      where
        go : (t : Bool) → Agrees 1 {A = Inside} (elim t [ true ↦ list_at form doc (read_at form doc room d) at n | false ↦ compound_at form doc (read_at form doc room d) at n ])
            (elim t [ true ↦ list_at form whole (read_at form whole room d) at n | false ↦ compound_at form whole (read_at form whole room d) at n ])
        go true =
            bind-agrees (list_head_at form doc at) (list_head_at form whole at) _ _ (head-agrees form doc rest at)
            (λ h e. let i = of-got e (head-sound form doc bytes at) in
            bind-agrees (elements form doc (read_at form doc room d) h.count h.kind (at + 5) n) (elements form whole (read_at form whole room d) h.count h.kind (at + 5) n) _ _
            (elements-agree h.count h.kind (at + 5) n (λ z. (omega (arith, i.some_is z), omega (arith, i.some_is z, i.id-le))) (list-head-within form doc at e).0) (λ r f. agrees-self _))
        go false =
            bind-agrees (entries form doc (read_at form doc room d) (suc (length doc)) none at n) (entries form whole (read_at form whole room d) (suc (length whole)) none at n) _ _
            (entries-agree (suc (length doc)) (suc (length whole)) none at n tt l (omega arith) (omega arith)) (λ r f. agrees-self _)

  payload-agrees : (d : ℕ) → ((kind at n : ℕ) → at ≤ length doc → Agrees 1 (inside_at form doc room d kind at n) (inside_at form whole room d kind at n)) → Alike d
  unfolding payload_by leaf_one
  payload-agrees d h kind name len at n p q l = guard-agrees (ltb n room) 8 at _ _ (λ t. go (holds kind))
    where
      go : (t : Bool) → Agrees 1 {A = One} (elim t [ true ↦ inside_at form doc room d kind at (n + 1) >>= (λ x. got (held_one kind name len x)) | false ↦ leaf_one form doc kind name len at ])
          (elim t [ true ↦ inside_at form whole room d kind at (n + 1) >>= (λ x. got (held_one kind name len x)) | false ↦ leaf_one form whole kind name len at ])
      go true = bind-agrees (inside_at form doc room d kind at (n + 1)) (inside_at form whole room d kind at (n + 1)) _ _ (h kind at (n + 1) l) (λ x e. agrees-self _)
      go false = bind-agrees (leaf_at form doc kind at) (leaf_at form whole kind at) _ _ (leaf-agrees form doc rest kind at) (λ s e. agrees-self _)

  tag-agrees : (d : ℕ) → Alike d
  unfolding inside_at
  tag-agrees zero = payload-agrees zero (λ kind at n l. agrees-self _)
  tag-agrees (suc d) = payload-agrees (suc d) (inside-agree d (tag-agrees d))

  -- A document that is read, or refused for another reason than that its data ends, is read or refused so whatever follows it.
  pub document-agrees : length whole ≤ document_limit → Agrees 1 (document_at form doc room) (document_at form whole room)
  unfolding document_at
  document-agrees l =
      rw (le-leb (length whole) document_limit l, le-leb (length doc) document_limit (omega (arith, longer form doc rest)))
      (bind-agrees (byte_at doc 0) (byte_at whole 0) _ _ (byte-agrees form doc rest 0)
      (λ k e. guard-agrees (eqb k 10) 2 0 _ _
      (λ t. bind-agrees (string_at form doc 1) (string_at form whole 1) _ _ (string-agrees form doc rest 1)
      (λ s f. tag-agrees depth_limit 10 s.start s.size s.next 0 (omega arith) (omega arith) (string-within form doc 1 f).to))))
