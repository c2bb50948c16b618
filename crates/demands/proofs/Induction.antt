-- Induction over a read that is cut: what holds of what is kept, from what holds of its parts. By recursion on the depth left.
-- Assumes nothing.
use Prim.Native.Nat.{ℕ, zero, suc, ◌+◌, ◌≤◌, ◌<◌}
use mathlib.Core.List.{List}
use mathlib.Core.Bool.{Bool, true, false}
use mathlib.Core.Logic.{◌⊎◌, inl, inr}
use mathlib.Core.Path.{◌≡◌, refl, sym, subst}
use native.Mathlib.Omega.{arith}
use lib.Dec.{ltb}
use borrow.Author.Tests.{ltb-true, ltb-false}
use lib.ListN.{length}
use Rattle.form.specs.Form.{Form}
use Rattle.form.specs.Answer.{got, no}
use Rattle.form.specs.Spans.{part}
use Rattle.form.specs.Table.{Forest, none, node, size, ◌⊕◌, holds}
use Rattle.form.specs.Reading.{One, Span, ListHead, named, has_name, entry_at, list_head_at, elements, entries, inside_at}
use Rattle.form.specs.Cut.{Kept, nothing, whole, opened, kept_elements, kept_entries, begun_at}
use Rattle.form.proofs.Answer.{got-no}
use Rattle.form.proofs.Leaves.{held-kind}
use Rattle.form.proofs.Fields.{entry-within, list-head-within}
use Rattle.form.proofs.Cut.{elements-cut, kept-element, begun-element, no-element, EntriesCut, in_head, in-payload, later-on, entries-cut, no-entry}
use Rattle.form.proofs.Cut.{kept_entry, begun-entry, payload_cut, list-cut, compound-cut, begun-list, no-list, begun-compound, begun-leaf}
use Rattle.demands.specs.Reading.{Bytes}
use Rattle.form.proofs.Answers.{of-got}
use Rattle.demands.proofs.Tags.{read_at}
use Rattle.demands.proofs.Fields.{StringLaw}
use Rattle.demands.proofs.Heads.{HeadIs, head-sound, NamedIs, entry-sound}
use Rattle.demands.proofs.Sound.{TagSound, tag-sound}

module _ (form : Form) (doc : List ℕ) (room : ℕ) where
  -- an entry's head that is whole, with a name that is new
  pub record HeadOf (at kind : ℕ) (s : Span) (earlier : Forest) : Type 0 where
    pub read : entry_at form doc at ≡ got (named kind s)
    pub is : NamedIs form doc at kind s
    pub in_start : s.start + s.size ≤ length doc
    pub in-next : s.next ≤ length doc
    pub new : has_name doc (part doc s.start s.size) earlier ≡ false

  -- a tag that is whole
  pub record TagWhole (d kind name len at n : ℕ) (x : One) : Type 0 where
    pub pos : 0 < kind
    pub le : kind ≤ 12
    pub from : at ≤ length doc
    pub read : read_at form doc room d kind name len at n ≡ got x
    pub is : TagSound form doc room d kind name len at n x
    pub within : x.next ≤ length doc

  -- a tag that is cut
  pub record TagCut (d kind name len at n : ℕ) : Type 0 where
    pub pos : 0 < kind
    pub le : kind ≤ 12
    pub from : at ≤ length doc
    pub p : ℕ
    pub read : read_at form doc room d kind name len at n ≡ no 1 p

  -- What is to be shown: T of what is kept of c elements of kind k at a place, the first with the number n; E of what is kept of entries after
  -- earlier ones; B of what is kept of one tag. Each rule is one way that a cut can fall.
  pub record Rules (T : ℕ → ℕ → ℕ → ℕ → ℕ → Kept → Type 0) (E : ℕ → ℕ → ℕ → Forest → Kept → Type 0) (B : ℕ → ℕ → ℕ → ℕ → ℕ → ℕ → Kept → Type 0) : Type 0 where
    pub no-element : (d k c at n : ℕ) → TagCut d k 0 0 at n → length doc ≤ at → n ≤ room → T d k (suc c) at n nothing
    pub begun-element : (d k c at n : ℕ) (b : Kept) → TagCut d k 0 0 at n → at < length doc → n ≤ room → B d k 0 0 at n b → T d k (suc c) at n b
    pub whole-element : (d k c at n : ℕ) (x : One) (later : Kept) → TagWhole d k 0 0 at n x → T d k c x.next (n + 1 + size x.inner) later → T d k (suc c) at n (whole x later)
    pub no-entry : (d at n p : ℕ) (earlier : Forest) → at ≤ length doc → entry_at form doc at ≡ no 1 p → n ≤ room → E d at n earlier nothing
    pub begun-entry : (d kind at n : ℕ) (s : Span) (earlier : Forest) (b : Kept) → HeadOf at kind s earlier → TagCut d kind s.start s.size s.next n → n ≤ room
        → B d kind s.start s.size s.next n b → E d at n earlier b
    pub whole-entry : (d kind at n : ℕ) (s : Span) (earlier : Forest) (x : One) (later : Kept) → HeadOf at kind s earlier → TagWhole d kind s.start s.size s.next n x
        → E d x.next (n + 1 + size x.inner) (earlier ⊕ node x.head x.inner none) later → E d at n earlier (whole x later)
    pub no-leaf : (d kind name len at n : ℕ) → TagCut d kind name len at n → holds kind ≡ false → B d kind name len at n nothing
    pub no-list : (d name len at n p : ℕ) → TagCut (suc d) 9 name len at n → list_head_at form doc at ≡ no 1 p → B (suc d) 9 name len at n nothing
    pub open-list : (d name len at n : ℕ) (h : ListHead) (k : Kept) → TagCut (suc d) 9 name len at n → list_head_at form doc at ≡ got h → HeadIs form doc at h → at + 5 ≤ length doc → n < room
        → T d h.kind h.count (at + 5) (n + 1) k → B (suc d) 9 name len at n (opened 9 name len n h.count k)
    pub open-compound : (d name len at n : ℕ) (k : Kept) → TagCut (suc d) 10 name len at n → n < room → E d at (n + 1) none k → B (suc d) 10 name len at n (opened 10 name len n 0 k)

module _ (form : Form) (doc : List ℕ) (wf : StringLaw form) (bytes : Bytes doc) (room : ℕ)
    (T : ℕ → ℕ → ℕ → ℕ → ℕ → Kept → Type 0) (E : ℕ → ℕ → ℕ → Forest → Kept → Type 0) (B : ℕ → ℕ → ℕ → ℕ → ℕ → ℕ → Kept → Type 0) (R : Rules form doc room T E B) where
  whole_is : (d kind name len at n : ℕ) (x : One) → 0 < kind → kind ≤ 12 → at ≤ length doc → read_at form doc room d kind name len at n ≡ got x → TagWhole form doc room d kind name len at n x
  whole_is d kind name len at n x p q l e =
      let s = of-got e (tag-sound form doc wf bytes room d name len at n kind p q l) in
      record { pos = p; le = q; from = l; read = e; is = s; within = omega (arith, s.next, s.sits.to) }

  abbrev Begins : ℕ → Type 0
  Begins d = (kind name len at n : ℕ) → TagCut form doc room d kind name len at n → B d kind name len at n (begun_at form doc room d kind name len at n)

  module _ (d : ℕ) (begins : Begins d) where
    elements-hold : (c k at n p : ℕ) → (0 < c → (0 < k) × (k ≤ 12)) → at ≤ length doc → n ≤ room → elements form doc (read_at form doc room d) c k at n ≡ no 1 p
        → T d k c at n (kept_elements form doc (read_at form doc room d) (begun_at form doc room d) c k at n)
    unfolding elements
    elements-hold zero k at n p h l r e = absurd (got-no e)
    elements-hold (suc c) k at n p h l r e = go (elements-hold c) (elements-cut form doc (read_at form doc room d) (begun_at form doc room d) c k at n e)
      where
        q : (0 < k) × (k ≤ 12)
        q = h (omega arith)

        first : read_at form doc room d k 0 0 at n ≡ no 1 p → (t : Bool) → ltb at (length doc) ≡ t
            → T d k (suc c) at n (kept_elements form doc (read_at form doc room d) (begun_at form doc room d) (suc c) k at n)
        first f true t =
            let w : TagCut form doc room d k 0 0 at n = record { pos = q.0; le = q.1; from = l; p = p; read = f } in
            let i = ltb-true at (length doc) t in
            subst (T d k (suc c) at n) (sym (begun-element form doc (read_at form doc room d) (begun_at form doc room d) c k at n f i))
            (R.begun-element d k c at n (begun_at form doc room d k 0 0 at n) w i r (begins k 0 0 at n w))
        first f false t =
            let i = ltb-false at (length doc) t in
            subst (T d k (suc c) at n) (sym (no-element form doc (read_at form doc room d) (begun_at form doc room d) c k at n f i))
            (R.no-element d k c at n (record { pos = q.0; le = q.1; from = l; p = p; read = f }) i r)

        go : ((k at n p : ℕ) → (0 < c → (0 < k) × (k ≤ 12)) → at ≤ length doc → n ≤ room → elements form doc (read_at form doc room d) c k at n ≡ no 1 p
            → T d k c at n (kept_elements form doc (read_at form doc room d) (begun_at form doc room d) c k at n))
            → (read_at form doc room d k 0 0 at n ≡ no 1 p)
            ⊎ ((x : One) × (read_at form doc room d k 0 0 at n ≡ got x) × (elements form doc (read_at form doc room d) c k x.next (n + 1 + size x.inner) ≡ no 1 p))
            → T d k (suc c) at n (kept_elements form doc (read_at form doc room d) (begun_at form doc room d) (suc c) k at n)
        go ih (inl f) = first f (ltb at (length doc)) refl
        go ih (inr (x, f, g)) =
            let w = whole_is d k 0 0 at n x q.0 q.1 l f in
            subst (T d k (suc c) at n) (sym (kept-element form doc (read_at form doc room d) (begun_at form doc room d) c k at n f))
            (R.whole-element d k c at n x _ w (ih k x.next (n + 1 + size x.inner) p (λ y. q) w.within w.is.fits g))

    entries-hold : (fuel at n p : ℕ) (earlier : Forest) → at ≤ length doc → length doc < fuel + at → n ≤ room → entries form doc (read_at form doc room d) fuel earlier at n ≡ no 1 p
        → E d at n earlier (kept_entries form doc (read_at form doc room d) (begun_at form doc room d) fuel at n)
    entries-hold zero at n p earlier l f r e = absurd (omega arith)
    entries-hold (suc fuel) at n p earlier l f r e = go (entries-hold fuel) (entries-cut form doc (read_at form doc room d) (begun_at form doc room d) fuel earlier at n e)
      where
        head : (kind : ℕ) (s : Span) → entry_at form doc at ≡ got (named kind s) → has_name doc (part doc s.start s.size) earlier ≡ false → HeadOf form doc room at kind s earlier
        head kind s a new =
            let w = entry-within form doc at a in
            record { read = a; is = of-got a (entry-sound form doc wf bytes at); in_start = omega (arith, w.1.sum, w.1.to); in-next = w.1.to; new = new }

        go : ((at n p : ℕ) (earlier : Forest) → at ≤ length doc → length doc < fuel + at → n ≤ room → entries form doc (read_at form doc room d) fuel earlier at n ≡ no 1 p
            → E d at n earlier (kept_entries form doc (read_at form doc room d) (begun_at form doc room d) fuel at n))
            → EntriesCut form doc (read_at form doc room d) (begun_at form doc room d) fuel earlier at n p
            → E d at n earlier (kept_entries form doc (read_at form doc room d) (begun_at form doc room d) (suc fuel) at n)
        go ih (in_head a) = subst (E d at n earlier) (sym (no-entry form doc (read_at form doc room d) (begun_at form doc room d) fuel at n a)) (R.no-entry d at n p earlier l a r)
        go ih (in-payload kind s a new b) =
            let i = head kind s a new in
            let w : TagCut form doc room d kind s.start s.size s.next n = record { pos = i.is.pos; le = i.is.le; from = i.in-next; p = p; read = b } in
            subst (E d at n earlier) (sym (begun-entry form doc (read_at form doc room d) (begun_at form doc room d) fuel at n a b))
            (R.begun-entry d kind at n s earlier _ i w r (begins kind s.start s.size s.next n w))
        go ih (later-on kind s x a new b g) =
            let i = head kind s a new in
            let w = whole_is d kind s.start s.size s.next n x i.is.pos i.is.le i.in-next b in
            subst (E d at n earlier) (sym (kept_entry form doc (read_at form doc room d) (begun_at form doc room d) fuel at n a b))
            (R.whole-entry d kind at n s earlier x _ i w
            (ih x.next (n + 1 + size x.inner) p (earlier ⊕ node x.head x.inner none) w.within (omega (arith, w.is.next, i.is.next)) w.is.fits g))

    pub compound-holds : (name len at n p : ℕ) → at ≤ length doc → read_at form doc room (suc d) 10 name len at n ≡ no 1 p
        → (n < room) × E d at (n + 1) none (kept_entries form doc (read_at form doc room d) (begun_at form doc room d) (suc (length doc)) at (n + 1))
    compound-holds name len at n p l e =
        let c = payload_cut form doc room (inside_at form doc room (suc d)) 10 name len at n refl e in
        (c.0, entries-hold (suc (length doc)) at (n + 1) p none l (omega arith) (omega (arith, c.0)) (compound-cut form doc room d at (n + 1) c.1))

    list-holds : (name len at n : ℕ) → TagCut form doc room (suc d) 9 name len at n → B (suc d) 9 name len at n (begun_at form doc room (suc d) 9 name len at n)
    list-holds name len at n w = go (list-cut form doc room d at (n + 1) c.1)
      where
        c : (n < room) × (inside_at form doc room (suc d) 9 at (n + 1) ≡ no 1 w.p)
        c = payload_cut form doc room (inside_at form doc room (suc d)) 9 name len at n refl w.read

        go : (list_head_at form doc at ≡ no 1 w.p)
            ⊎ ((h : ListHead) × (list_head_at form doc at ≡ got h) × (elements form doc (read_at form doc room d) h.count h.kind (at + 5) (n + 1) ≡ no 1 w.p))
            → B (suc d) 9 name len at n (begun_at form doc room (suc d) 9 name len at n)
        go (inl f) = subst (B (suc d) 9 name len at n) (sym (no-list form doc room d at n name len f)) (R.no-list d name len at n w.p w f)
        go (inr (h, f, g)) =
            let i = of-got f (head-sound form doc bytes at) in
            let l = list-head-within form doc at f in
            subst (B (suc d) 9 name len at n) (sym (begun-list form doc room d at n name len f))
            (R.open-list d name len at n h _ w f i l.0 c.0
            (elements-hold h.count h.kind (at + 5) (n + 1) w.p (λ z. (omega (arith, i.some_is z), omega (arith, i.some_is z, i.id-le))) l.0 (omega (arith, c.0)) g))

  -- where no container may stand any more none is cut
  no-depth : (kind name len at n p : ℕ) → holds kind ≡ true → read_at form doc room zero kind name len at n ≡ no 1 p → ⊥
  unfolding inside_at
  no-depth kind name len at n p h e = let c = payload_cut form doc room (inside_at form doc room zero) kind name len at n h e in absurd (let z : ◌≡◌ {A = ℕ} 7 1 = cc c.1 in omega arith)

  -- What is to be shown holds of every tag that is cut.
  pub begun-holds : (d : ℕ) → Begins d
  begun-holds zero kind name len at n w = go (holds kind) refl
    where
      go : (t : Bool) → holds kind ≡ t → B zero kind name len at n (begun_at form doc room zero kind name len at n)
      go true h = absurd (no-depth kind name len at n w.p h w.read)
      go false h = subst (B zero kind name len at n) (sym (begun-leaf form doc room zero kind name len at n h)) (R.no-leaf zero kind name len at n w h)
  begun-holds (suc d) kind name len at n w = go (begun-holds d) (holds kind) refl
    where
      nine : Begins d → kind ≡ 9 → B (suc d) kind name len at n (begun_at form doc room (suc d) kind name len at n)
      nine ih k = subst (λ k. TagCut form doc room (suc d) k name len at n → B (suc d) k name len at n (begun_at form doc room (suc d) k name len at n)) (sym k) (list-holds d ih name len at n) w

      compound : Begins d → TagCut form doc room (suc d) 10 name len at n → B (suc d) 10 name len at n (begun_at form doc room (suc d) 10 name len at n)
      compound ih v =
          let c = compound-holds d ih name len at n v.p v.from v.read in
          subst (B (suc d) 10 name len at n) (sym (begun-compound form doc room d at n name len)) (R.open-compound d name len at n _ v c.0 c.1)

      ten : Begins d → kind ≡ 10 → B (suc d) kind name len at n (begun_at form doc room (suc d) kind name len at n)
      ten ih k = subst (λ k. TagCut form doc room (suc d) k name len at n → B (suc d) k name len at n (begun_at form doc room (suc d) k name len at n)) (sym k) (compound ih) w

      kinds : Begins d → (kind ≡ 9) ⊎ (kind ≡ 10) → B (suc d) kind name len at n (begun_at form doc room (suc d) kind name len at n)
      kinds ih (inl k) = nine ih k
      kinds ih (inr k) = ten ih k

      go : Begins d → (t : Bool) → holds kind ≡ t → B (suc d) kind name len at n (begun_at form doc room (suc d) kind name len at n)
      go ih true h = kinds ih (held-kind kind h)
      go ih false h = subst (B (suc d) kind name len at n) (sym (begun-leaf form doc room (suc d) kind name len at n h)) (R.no-leaf (suc d) kind name len at n w h)

  -- And of the entries of a root that is cut.
  pub root-holds : (d name len at n p : ℕ) → at ≤ length doc → read_at form doc room (suc d) 10 name len at n ≡ no 1 p
      → (n < room) × E d at (n + 1) none (kept_entries form doc (read_at form doc room d) (begun_at form doc room d) (suc (length doc)) at (n + 1))
  root-holds d name len at n p l e = compound-holds d (begun-holds d) name len at n p l e
