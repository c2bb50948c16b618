-- What is kept of a leaf, and of a list and a compound by what was read and kept in them.
-- Assumes nothing.
use Prim.Native.Nat.{ℕ, zero, suc, ◌+◌, ◌-◌, ◌*◌, ◌≤◌, ◌<◌}
use mathlib.Core.Bool.{Bool, true, false, ◌||◌}
use mathlib.Core.List.{List, [], ◌∷◌}
use mathlib.Core.Logic.{◌⊎◌, inl, inr}
use mathlib.Core.Path.{◌≡◌, refl, sym, ap, ◌∙◌}
use native.Mathlib.Omega.{arith}
use native.Mathlib.Numerals.{sub-one}
use borrow.Author.Tests.{lt-ltb, le-ltb, ne_eqb, eqb-true}
use lib.ListN.{length}
use lib.Dec.{ltb, eqb}
use Rattle.form.specs.Form.{Form}
use Rattle.form.specs.Answer.{Out, got, no, ◌>>=◌, pick, depth_limit}
use Rattle.form.specs.Spans.{over}
use Rattle.form.specs.Table.{none, width, holds}
use Rattle.form.specs.Tables.{first_kind}
use Rattle.form.specs.Reading.{Span, One, Run, Inside, ListHead, Reader, one, held_one, leaf_at, leaf_one, list_head_at, elements, entries, payload_by, inside_at}
use Rattle.form.specs.Cut.{Kept, Line, nothing, whole, opened, open_head, kept_elements, kept_entries, begun_at, line_words}
use Rattle.form.proofs.Answer.{bind-got, guard-got}
use Rattle.form.proofs.Accepted.{elements-width}
use Rattle.form.proofs.Payloads.{payload-leaf, payload-no, payload-got, inside-list, inside-compound, compound-no, compound-got, list-no, list-got}
use Rattle.form.proofs.Picks.{lt-or}
use Rattle.form.proofs.Table.{size_none, size-one, over_none, over-before, wrote_none, wrote-head}
use Rattle.form.proofs.Cut.{begun-leaf, begun-list, no-list, begun-compound, kept-element, begun-element, no-element}
use Rattle.nbt_reader.specs.Steps.{Next}
use Rattle.nbt_gather.specs.declared.Piece.{Piece}
use Rattle.nbt_gather.specs.declared.Side.{Side}
use Rattle.nbt_gather.specs.Steps.{OnlyCut, LeafIs, Shut, PieceIs, SideIs, HeldIs}
use Rattle.nbt_gather.proofs.Parts.{only-room}

-- ---- a leaf

-- Nothing is kept and nothing was written.
pub shut-nothing : (room level above n : ℕ) (t ls : List ℕ) (most : ℕ) {k : Kept} → k ≡ nothing → n ≤ room → level ≤ depth_limit → Shut room k n 0 level above n t t ls ls most
unfolding line_words
shut-nothing room level above n t ls most e l d = rw e (record {
  n_is = omega (arith, size_none);
  many = refl;
  table = sym (wrote_none t above n);
  listed = λ f. sym (over_none ls (3 * level));
  unlisted = λ f. refl;
  n_le = l;
  deep = omega arith;
})

module _ (form : Form) (doc : List ℕ) (room depth kind name len at above n level : ℕ) (t t' ls : List ℕ) (most : ℕ) where
  -- A leaf is kept whole or not at all.
  pub leaf-piece : (r : Piece) → LeafIs doc room (leaf_one form doc kind name len at) at above n t t' r → holds kind ≡ false
      → OnlyCut (payload_by form doc room (inside_at form doc room depth) kind name len at n) → level ≤ depth_limit
      → PieceIs doc room (payload_by form doc room (inside_at form doc room depth) kind name len at n) (begun_at form doc room depth kind name len at n) level at above n t t' ls ls most r
  leaf-piece (Piece.Whole at' n') s e h d =
      let is = payload-leaf form doc room (inside_at form doc room depth) kind name len at n (only-room form doc room (inside_at form doc room depth) kind name len at n h) e in
      (rw is s, refl)
  leaf-piece (Piece.Cut n' m) s e h d =
      let l = only-room form doc room (inside_at form doc room depth) kind name len at n h in
      let is = payload-leaf form doc room (inside_at form doc room depth) kind name len at n l e in
      let f = s.0.2 in
      let one : s.0.0 ≡ 1 = rw (is ∙ f) at h in (
        (s.0.1, is ∙ f ∙ ap (λ q. no q s.0.1) one),
        rw (s.1, s.2, s.3) (shut-nothing room level above n t ls most (begun-leaf form doc room depth kind name len at n e) (omega arith) d),
      )

-- ---- a container, closed behind what was gathered in it

-- A container's line and those of what is in it: where all lines are `most` at the most they are put, this one in front of the others; or none is.
module _ (ls ls₁ ls₂ : List ℕ) (level n promised kept m most : ℕ) (g : ls₂ ≡ pick (ltb (level + m) most) (over ls₁ (3 * level) (n ∷ promised ∷ kept ∷ [])) ls₁) where
  line_before : (ks : List Line) → m ≡ length ks → 3 * most ≤ length ls → level + (m + 1) ≤ most
      → (level + 1 + m ≤ most → ls₁ ≡ over ls (3 * (level + 1)) (line_words ks))
      → ls₂ ≡ over ls (3 * level) (line_words (record { container = n; promised = promised; kept = kept } ∷ ks))
  unfolding line_words
  line_before ks e fits h f =
      let is : ls₁ ≡ over ls (3 * level + 3) (line_words ks) = f (omega arith) ∙ ap (λ i. over ls i (line_words ks)) (omega arith) in
      g
      ∙ rw (lt-ltb (level + m) most (omega arith)) (ap (λ l. over l (3 * level) (n ∷ promised ∷ kept ∷ [])) is)
      ∙ over-before ls (3 * level) (n ∷ promised ∷ kept ∷ []) (line_words ks) (omega arith)

  line-none : most < level + (m + 1) → (most < level + 1 + m → ls₁ ≡ ls) → ls₂ ≡ ls
  line-none h f = g ∙ rw (le-ltb (level + m) most (omega arith)) (f (omega arith))

-- What a container is, by what is in it (o, of which k is kept), as it is read (q) and as it is kept where it is cut (b): whole with what was
-- read, refused where that is refused, and open with what is kept; the kind of what is kept is the list's, or none.
pub record HoldsIn (o : Out Run) (k : Kept) (kind name len inner promised n : ℕ) (q : Out One) (b : Kept) : Type 0 where
  pub whole : (x : Run) → o ≡ got x → q ≡ got (held_one kind name len (record { forest = x.forest; count = width x.forest; kind = inner; next = x.next }))
  pub cut : (p : ℕ) → o ≡ no 1 p → q ≡ no 1 p
  pub begun : b ≡ opened kind name len n promised k
  pub first : pick (eqb kind 9) (first_kind k.forest) 0 ≡ pick (eqb (width k.forest) 0) 0 inner

module _ (doc : List ℕ) (room : ℕ) {o : Out Run} {k : Kept} {kind name len inner promised n : ℕ} {q : Out One} {b : Kept} (w : HoldsIn o k kind name len inner promised n q b)
    (level level' at from above : ℕ) (t t₁ t₂ ls ls₁ ls₂ : List ℕ) (most : ℕ) where
  -- Such a container, closed behind what was gathered in it.
  pub held-piece : (s : Side) (r : Piece) → SideIs doc room o k level' from n (n + 1) t t₁ ls ls₁ most s → HeldIs kind name len inner promised level above n t₁ t₂ ls₁ ls₂ most s r
      → level' ≡ level + 1 → at ≤ from → 9 * n + 9 ≤ length t → 3 * most ≤ length ls → PieceIs doc room q b level at above n t t₂ ls ls₂ most r
  held-piece (Side.Whole at' n' count) r (g, e) (is, f, u) d a l z =
      let x = held_one kind name len (record { forest = g.x.forest; count = width g.x.forest; kind = inner; next = g.x.next }) in
      let next : Next doc room q at' n' at above n t t₂ = record {
        x = x;
        is = w.whole g.x g.is;
        at_is = g.at_is;
        n_is = g.n_is;
        table = f ∙ rw (g.table, g.count_is, g.n_is) (wrote-head t above n x.head g.x.forest l);
        on = omega (arith, g.on);
        at_le = g.at_le;
        n_le = g.n_le;
      } in
      rw is (next, u ∙ e)
  held-piece (Side.Cut n' count m) r ((p, c), g, e) (is, f, u) d a l z =
      let h = open_head kind name len k.forest in
      let shut : Shut room (opened kind name len n promised k) n' (m + 1) level above n t t₂ ls ls₂ most = record {
        n_is = omega (arith, g.n_is, size-one h k.forest);
        many = omega (arith, g.many);
        table = f ∙ rw (e, ← w.first, g.table, g.n_is) (wrote-head t above n h k.forest l);
        listed = λ y. line_before ls ls₁ ls₂ level n promised (width k.forest) m most (rw e at u) k.lines g.many z y (rw d at g.listed);
        unlisted = λ y. line-none ls ls₁ ls₂ level n promised (width k.forest) m most (rw e at u) y (rw d at g.unlisted);
        n_le = g.n_le;
        deep = omega (arith, g.deep);
      } in
      rw is ((p, w.cut p c), rw w.begun shut)

-- ---- the kind of an open list

-- What is kept has the kind, if it is anything.
abbrev Kind : Kept → ℕ → Type 0
Kind k kind = first_kind k.forest ≡ pick (eqb (width k.forest) 0) 0 kind

kind-nothing : (kind : ℕ) {k : Kept} → k ≡ nothing → Kind k kind
unfolding first_kind width
kind-nothing kind e = rw e refl

kind-opened : (kind : ℕ) {name len n promised : ℕ} {k k' : Kept} → k ≡ opened kind name len n promised k' → Kind k kind
unfolding first_kind width
kind-opened kind e = rw e refl

kind-whole : (kind : ℕ) (x : One) {k k' : Kept} → k ≡ whole x k' → x.head.kind ≡ kind → Kind k kind
unfolding first_kind width
kind-whole kind x {k'} e f = rw e (f ∙ rw (ne_eqb (1 + width k'.forest) 0 (λ z. omega arith)) refl)

module _ (form : Form) (doc : List ℕ) (room : ℕ) where
  -- A record that was read has the kind that was asked for.
  payload-kind : (inside : ℕ → ℕ → ℕ → Out Inside) (kind name len at n : ℕ) {x : One} → payload_by form doc room inside kind name len at n ≡ got x → x.head.kind ≡ kind
  unfolding payload_by leaf_one
  payload-kind inside kind name len at n {x} e = go (holds kind) (guard-got (ltb n room) 8 at (rest (holds kind)) e).1
    where
      leaf : Span → One
      leaf s = one (record { kind = kind; name = name; name_length = len; start = s.start; size = s.size; count = s.count; list_kind = 0 }) none s.next

      rest : Bool → Out One
      rest t = elim t [ true ↦ inside kind at (n + 1) >>= (λ y. got (held_one kind name len y)) | false ↦ leaf_at form doc kind at >>= (λ s. got (leaf s)) ]

      go : (t : Bool) → rest t ≡ got x → x.head.kind ≡ kind
      go true f =
          let b = bind-got (inside kind at (n + 1)) (λ y. got (held_one kind name len y)) f in
          let i : held_one kind name len b.0 ≡ x = cc b.2 in
          rw (← i) refl
      go false f =
          let b = bind-got (leaf_at form doc kind at) (λ s. got (leaf s)) f in
          let i : leaf b.0 ≡ x = cc b.2 in
          rw (← i) refl

  -- At no depth nothing is kept.
  begun-none : (kind name len at n : ℕ) → begun_at form doc room 0 kind name len at n ≡ nothing
  unfolding begun_at
  begun-none kind name len at n = refl

  -- What is kept of a payload that is cut is a container of its kind.
  kind-begun : (depth kind name len at n : ℕ) → Kind (begun_at form doc room depth kind name len at n) kind
  kind-begun depth kind name len at n = go depth (eqb kind 9) (eqb kind 10) refl refl
    where
      list : (depth : ℕ) (o : Out ListHead) → list_head_at form doc at ≡ o → Kind (begun_at form doc room (suc depth) 9 name len at n) 9
      list depth (got h) e = kind-opened 9 (begun-list form doc room depth at n name len e)
      list depth (no m p) e = kind-nothing 9 (no-list form doc room depth at n name len e)

      go : (depth : ℕ) (a b : Bool) → eqb kind 9 ≡ a → eqb kind 10 ≡ b → Kind (begun_at form doc room depth kind name len at n) kind
      go zero a b e f = kind-nothing kind (begun-none kind name len at n)
      go (suc depth) true b e f = rw (eqb-true kind 9 e) (list depth (list_head_at form doc at) refl)
      go (suc depth) false true e f = rw (eqb-true kind 10 f) (kind-opened 10 (begun-compound form doc room depth at n name len))
      go (suc depth) false false e f = kind-nothing kind (begun-leaf form doc room (suc depth) kind name len at n (λ i. e i || f i))

  module _ (depth : ℕ) where
    abbrev read-in : Reader
    read-in = payload_by form doc room (inside_at form doc room depth)

    -- So the elements that are kept have the list's kind.
    kind-elements : (left kind at n : ℕ) → Kind (kept_elements form doc read-in (begun_at form doc room depth) left kind at n) kind
    unfolding kept_elements
    kind-elements zero kind at n = kind-nothing kind refl
    kind-elements (suc left) kind at n = go (read-in kind 0 0 at n) refl
      where
        cut : (m p : ℕ) → read-in kind 0 0 at n ≡ no m p → (at < length doc) ⊎ (length doc ≤ at) → Kind (kept_elements form doc read-in (begun_at form doc room depth) (suc left) kind at n) kind
        cut m p e (inl l) = rw (begun-element form doc read-in (begun_at form doc room depth) left kind at n e l) (kind-begun depth kind 0 0 at n)
        cut m p e (inr l) = kind-nothing kind (no-element form doc read-in (begun_at form doc room depth) left kind at n e l)

        go : (o : Out One) → read-in kind 0 0 at n ≡ o → Kind (kept_elements form doc read-in (begun_at form doc room depth) (suc left) kind at n) kind
        go (got x) e = kind-whole kind x (kept-element form doc read-in (begun_at form doc room depth) left kind at n e) (payload-kind (inside_at form doc room depth) kind 0 0 at n e)
        go (no m p) e = cut m p e (lt-or at (length doc))

-- ---- lists and compounds

same-picked : (t : Bool) → ◌≡◌ {A = ℕ} (pick t 0 0) 0
same-picked true = refl
same-picked false = refl

module _ (form : Form) (doc : List ℕ) where
  -- What is kept of a container, by the depth that its parts are read at.
  module _ (room kind name len at n : ℕ) where
    begun-compound-at : (depth : ℕ) → (depth ≡ 0 → ⊥) → kind ≡ 10 → begun_at form doc room depth kind name len at n
        ≡ opened kind name len n 0 (kept_entries form doc (payload_by form doc room (inside_at form doc room (depth - 1))) (begun_at form doc room (depth - 1)) (suc (length doc)) at (n + 1))
    begun-compound-at zero d e = absurd (d refl)
    begun-compound-at (suc depth) d e = rw (sub-one (suc depth), e) (begun-compound form doc room depth at n name len)

    begun-list-at : (depth : ℕ) → (depth ≡ 0 → ⊥) → kind ≡ 9 → {h : ListHead} → list_head_at form doc at ≡ got h → begun_at form doc room depth kind name len at n
        ≡ opened kind name len n h.count (kept_elements form doc (payload_by form doc room (inside_at form doc room (depth - 1)))
        (begun_at form doc room (depth - 1)) h.count h.kind (at + 5) (n + 1))
    begun-list-at zero d e f = absurd (d refl)
    begun-list-at (suc depth) d e f = rw (sub-one (suc depth), e) (begun-list form doc room depth at n name len f)

    pub no-list-at : (depth : ℕ) → kind ≡ 9 → {m p : ℕ} → list_head_at form doc at ≡ no m p → begun_at form doc room depth kind name len at n ≡ nothing
    no-list-at zero e f = begun-none form doc room kind name len at n
    no-list-at (suc depth) e f = rw e (no-list form doc room depth at n name len f)

  module _ (room depth kind name len at n : ℕ) (d : depth ≡ 0 → ⊥) (l : n < room) where
    abbrev reader : Reader
    reader = payload_by form doc room (inside_at form doc room (depth - 1))

    abbrev entries-kept : Kept
    entries-kept = kept_entries form doc reader (begun_at form doc room (depth - 1)) (suc (length doc)) at (n + 1)

    -- A compound, by its entries.
    pub compound-holds : kind ≡ 10
        → HoldsIn (entries form doc reader (suc (length doc)) none at (n + 1)) entries-kept
        kind name len 0 0 n (payload_by form doc room (inside_at form doc room depth) kind name len at n) (begun_at form doc room depth kind name len at n)
    compound-holds e = record {
      whole = λ x f. payload-got form doc room (inside_at form doc room depth) kind name len at n l (rw e refl)
          (inside-compound form doc room kind at (n + 1) depth d (λ z. omega arith) ∙ compound-got form doc reader at (n + 1) f);
      cut = λ p f. payload-no form doc room (inside_at form doc room depth) kind name len at n l (rw e refl)
          (inside-compound form doc room kind at (n + 1) depth d (λ z. omega arith) ∙ compound-no form doc reader at (n + 1) f);
      begun = begun-compound-at room kind name len at n depth d e;
      first = rw e (sym (same-picked (eqb (width entries-kept.forest) 0)));
    }

    -- A list, by its elements.
    pub list-holds : kind ≡ 9 → {h : ListHead} → list_head_at form doc at ≡ got h
        → HoldsIn (elements form doc reader h.count h.kind (at + 5) (n + 1)) (kept_elements form doc reader (begun_at form doc room (depth - 1)) h.count h.kind (at + 5) (n + 1))
        kind name len h.kind h.count n (payload_by form doc room (inside_at form doc room depth) kind name len at n) (begun_at form doc room depth kind name len at n)
    list-holds e {h} f = record {
      whole = λ x g. payload-got form doc room (inside_at form doc room depth) kind name len at n l (rw e refl)
          (inside-list form doc room kind at (n + 1) depth d e ∙ list-got form doc reader at (n + 1) f g
          ∙ ap (λ c. got (record { forest = x.forest; count = c; kind = h.kind; next = x.next })) (sym (elements-width form doc reader h.count h.kind (at + 5) (n + 1) g)));
      cut = λ p g. payload-no form doc room (inside_at form doc room depth) kind name len at n l (rw e refl)
          (inside-list form doc room kind at (n + 1) depth d e ∙ list-no form doc reader at (n + 1) f g);
      begun = begun-list-at room kind name len at n depth d e f;
      first = rw e (kind-elements form doc room (depth - 1) h.count h.kind (at + 5) (n + 1));
    }
