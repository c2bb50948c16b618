-- Laws of the loops that gather records side by side: how far a loop has come, what is kept of what is left, and what each way out of it leaves.
-- Assumes nothing.
use Prim.Native.Nat.{ℕ, zero, suc, ◌+◌, ◌-◌, ◌*◌, ◌≤◌, ◌<◌, ◌^◌}
use mathlib.Core.Bool.{Bool, true, false, not}
use mathlib.Core.List.{List, []}
use mathlib.Core.Path.{◌≡◌, refl, sym, ap, ◌∙◌}
use native.Mathlib.Omega.{arith}
use native.Mathlib.Numerals.{sub-one}
use lib.ListN.{length}
use lib.Dec.{ltb, eqb}
use borrow.Author.Tests.{ltb-true, ltb-false, ne_eqb, not-true, eqb-true, eqb-false}
use Rattle.form.specs.Form.{Form}
use Rattle.form.specs.Answer.{Out, got, no, pick, data_ends, depth_limit, document_limit}
use Rattle.form.specs.Spans.{part, over}
use Rattle.form.specs.Table.{Forest, none, node, size, width, ◌⊕◌, wrote, width_of, holds}
use Rattle.form.specs.Reading.{One, Run, Span, ListHead, named, Reader, has_name, room_of, entry_at, list_head_at, leaf_at, elements, entries, payload_by, inside_at}
use Rattle.form.specs.Cut.{Kept, Opener, nothing, whole, opened, kept_elements, kept_entries, begun_at, line_words}
use Rattle.form.proofs.Table.{width-append, size-append, append-none, append-append, wrote-next, over_none, width-le-size}
use Rattle.form.proofs.Runs.{Sofar, then, after, sofar-start, sofar-no, sofar-end, sofar-next, entries-head-no}
use Rattle.form.proofs.Cut.{kept-element, begun-element, no-element, no-entry, kept_entry, begun-entry}
use Rattle.form.proofs.Fields.{bytes-no, number-no, string-no, array-no, leaf-fixed, leaf-string, leaf-array, list-head-end, entry-end}
use Rattle.form.proofs.Payloads.{leaf-one-no, payload-leaf, payload-no, inside-deep, inside-list, inside-compound, compound-no, list-head-no, room-le, room_fits}
use Rattle.nbt_reader.specs.Steps.{Next}
use Rattle.nbt_gather.specs.declared.Piece.{Piece}
use Rattle.nbt_gather.specs.declared.Side.{Side}
use Rattle.nbt_gather.specs.Steps.{OnlyCut, IsCut, read_in, PayloadAsked, PieceIs, SideIs, Shut}
use Rattle.nbt_gather.proofs.Parts.{only-room}
use Rattle.nbt_gather.proofs.Only.{only-first, only_next, only-guard, only-not}

-- ---- records before what is kept

-- The records f before what is kept.
abbrev pub prefixed : Forest → Kept → Kept
prefixed f k = record { forest = f ⊕ k.forest; lines = k.lines }

pub prefixed-none : (k : Kept) → k ≡ prefixed none k
unfolding ◌⊕◌
prefixed-none k = refl

pub prefixed-whole : (f : Forest) (x : One) (k : Kept) → prefixed f (whole x k) ≡ prefixed (f ⊕ node x.head x.inner none) k
unfolding ◌⊕◌
prefixed-whole f x k = ap (λ g. record { forest = g; lines = k.lines }) (lemma ∙ sym (append-append f (node x.head x.inner none) k.forest))
  where
    lemma : f ⊕ node x.head x.inner k.forest ≡ f ⊕ (node x.head x.inner none ⊕ k.forest)
    lemma = refl

-- What is kept of one payload is nothing, or one record with the lines of the containers open there.
abbrev pub Single : Kept → Type 0
Single k = width k.forest ≡ pick (eqb (length k.lines) 0) 0 1

single-nothing : Single nothing
unfolding width
single-nothing = refl

single-opened : (kind name len n promised : ℕ) (k : Kept) → Single (opened kind name len n promised k)
unfolding width
single-opened kind name len n promised k = sym (ap (λ b. pick b 0 1) (ne_eqb (suc (length k.lines)) 0 (λ e. omega arith)))

pub begun-width : (form : Form) (doc : List ℕ) (room depth kind name len at n : ℕ) → Single (begun_at form doc room depth kind name len at n)
unfolding begun_at
begun-width form doc room zero kind name len at n = single-nothing
begun-width form doc room (suc depth) kind name len at n = go (eqb kind 9) (eqb kind 10) (list_head_at form doc at)
  where
    list : ListHead → Kept
    list h = kept_elements form doc (payload_by form doc room (inside_at form doc room depth)) (begun_at form doc room depth) h.count h.kind (at + 5) (n + 1)

    compound : Kept
    compound = kept_entries form doc (payload_by form doc room (inside_at form doc room depth)) (begun_at form doc room depth) (suc (length doc)) at (n + 1)

    go : (a b : Bool) (o : Out ListHead) → Single (elim a [
      | true ↦ elim o [ got h ↦ opened 9 name len n h.count (list h) | no m p ↦ nothing ]
      | false ↦ elim b [ true ↦ opened 10 name len n 0 compound | false ↦ nothing ]
    ])
    go true b (got h) = single-opened 9 name len n h.count (list h)
    go true b (no m p) = single-nothing
    go false true o = single-opened 10 name len n 0 compound
    go false false o = single-nothing

-- ---- how far a loop has come

-- The records acc were read and written from record n₀ on, in record `above`, done of them side by side; `left` is read of what is left and `rest` kept of it, and
-- no line is written yet.
pub record Gathering (all left : Out Run) (k rest : Kept) (acc : Forest) (t₀ t ls₀ ls : List ℕ) (above n₀ n done : ℕ) : Type 0 where
  pub sofar : Sofar all left acc t₀ t above n₀ n done
  pub kept : k ≡ prefixed acc rest
  pub listed : ls ≡ ls₀

pub gathering-start : (all : Out Run) (k : Kept) (t ls : List ℕ) (above n : ℕ) {done : ℕ} → done ≡ 0 → Gathering all all k k none t t ls ls above n n done
gathering-start all k t ls above n d = record { sofar = sofar-start all t above n d; kept = prefixed-none k; listed = refl }

only-after : (f : Forest) (o : Out Run) → OnlyCut (after f o) → OnlyCut o
only-after f (got r) h = tt
only-after f (no m p) h = h

module _ {all left : Out Run} {k rest : Kept} {acc : Forest} {t₀ t ls₀ ls : List ℕ} {above n₀ n done : ℕ}
    (g : Gathering all left k rest acc t₀ t ls₀ ls above n₀ n done) where
  -- What is left is accepted or refused with 1 where the whole is.
  pub only-left : OnlyCut all → OnlyCut left
  only-left h = only-after acc left (rw g.sofar.is at h)

  -- Records side by side are no more than all records.
  pub done-small : (cap : ℕ) → n ≤ cap → done ≤ cap
  done-small cap h = omega (arith, g.sofar.n_is, g.sofar.done-is, width-le-size acc, h)

  pub gathering-next : (x : One) {left' : Out Run} {rest' : Kept} {t' ls' : List ℕ} {n' done' : ℕ} → left ≡ then x left' → rest ≡ whole x rest'
      → t' ≡ wrote t above n (node x.head x.inner none) → ls' ≡ ls → n' ≡ n + 1 + size x.inner → done' ≡ done + 1 → 9 * n ≤ length t₀
      → Gathering all left' k rest' (acc ⊕ node x.head x.inner none) t₀ t' ls₀ ls' above n₀ n' done'
  gathering-next x {rest'} e f w l i d h = record {
    sofar = sofar-next g.sofar x e w i d h;
    kept = g.kept ∙ ap (prefixed acc) f ∙ prefixed-whole acc x rest';
    listed = l ∙ g.listed;
  }

  -- Everything is read.
  pub gathering-end : (doc : List ℕ) (room level at most at' count : ℕ) → left ≡ got (record { forest = none; next = at' })
      → count ≡ done → at ≤ at' → at' ≤ length doc → n ≤ room
      → SideIs doc room all k level at above n₀ t₀ t ls₀ ls most (Side.Whole at' n count)
  gathering-end doc room level at most at' count e c a b h = (
    record {
      x = record { forest = acc; next = at' };
      is = sofar-end g.sofar e;
      at_is = refl;
      n_is = g.sofar.n_is;
      count_is = c ∙ g.sofar.done-is;
      table = g.sofar.table;
      on = a;
      at_le = b;
      n_le = h;
    },
    g.listed,
  )

  -- The data ends before the next record.
  pub gathering-none : (doc : List ℕ) (room level at most p : ℕ) → left ≡ no data_ends p → rest ≡ nothing → n ≤ room → level ≤ depth_limit
      → SideIs doc room all k level at above n₀ t₀ t ls₀ ls most (Side.Cut n done 0)
  unfolding line_words
  gathering-none doc room level at most p e f h d =
      let s = g.sofar in
      let is : k ≡ prefixed acc nothing = g.kept ∙ ap (prefixed acc) f in
      let forest-is : acc ≡ k.forest = sym (ap (λ y. y.forest) is ∙ append-none acc) in
      let lines_are : k.lines ≡ [] = ap (λ y. y.lines) is in (
        (p, sofar-no s e),
        record {
          n_is = s.n_is ∙ ap (λ y. n₀ + size y) forest-is;
          many = sym (ap length lines_are);
          table = s.table ∙ ap (wrote t₀ above n₀) forest-is;
          listed = λ l. g.listed ∙ sym (over_none ls₀ (3 * level)) ∙ sym (ap (λ y. over ls₀ (3 * level) (line_words y)) lines_are);
          unlisted = λ l. g.listed;
          n_le = h;
          deep = omega arith;
        },
        s.done-is ∙ ap width forest-is,
      )

  -- The data ends in the next record's payload, of which b is kept.
  pub gathering-open : (doc : List ℕ) (room level at most : ℕ) {b : Kept} {n' m count : ℕ} {t' ls' : List ℕ} → IsCut left → rest ≡ b → Shut room b n' m level above n t t' ls ls' most
      → Single b → count ≡ pick (eqb m 0) done (done + 1) → 9 * n ≤ length t₀
      → SideIs doc room all k level at above n₀ t₀ t' ls₀ ls' most (Side.Cut n' count m)
  gathering-open doc room level at most {b} {n'} {m} {count} {t'} {ls'} e f s w c h =
      let o = g.sofar in
      let is : k ≡ prefixed acc b = g.kept ∙ ap (prefixed acc) f in
      let forest-is : acc ⊕ b.forest ≡ k.forest = sym (ap (λ y. y.forest) is) in
      let lines_are : b.lines ≡ k.lines = sym (ap (λ y. y.lines) is) in (
        (e.0, sofar-no o e.1),
        record {
          n_is = omega (arith, s.n_is, o.n_is, size-append acc b.forest, ap size forest-is);
          many = s.many ∙ ap length lines_are;
          table = s.table ∙ rw (o.table, o.n_is) (wrote-next t₀ above n₀ acc b.forest (rw (← o.n_is) h)) ∙ ap (wrote t₀ above n₀) forest-is;
          listed = λ l. s.listed l ∙ ap (λ y. over y (3 * level) (line_words b.lines)) g.listed ∙ ap (λ y. over ls₀ (3 * level) (line_words y)) lines_are;
          unlisted = λ l. s.unlisted l ∙ g.listed;
          n_le = s.n_le;
          deep = s.deep;
        },
        counted ∙ ap width forest-is,
      )
    where
      more : (q : Bool) → pick q done (done + 1) ≡ done + pick q 0 1
      more true = omega arith
      more false = refl

      counted : count ≡ width (acc ⊕ b.forest)
      counted =
          let p : pick (eqb m 0) 0 1 ≡ width b.forest = ap (λ y. pick (eqb y 0) 0 1) s.many ∙ sym w in
          omega (arith, c, more (eqb m 0), p, g.sofar.done-is, width-append acc b.forest)

-- ---- a payload at the end of the document

-- A refusal of an answer that is accepted or refused with 1.
pub cut_of : {A : Type 0} {o : Out A} {m p : ℕ} → o ≡ no m p → OnlyCut o → IsCut o
cut_of {m} {p} e h = let f : m ≡ data_ends = rw e at h in (p, e ∙ ap (λ q. no q p) f)

-- Kinds 1 to 6 take a byte.
width_some : (kind : ℕ) → 0 < kind → kind < 7 → 0 < width_of kind
unfolding width_of
width_some zero h l = absurd (omega arith)
width_some (suc zero) h l = omega arith
width_some (suc (suc zero)) h l = omega arith
width_some (suc (suc (suc zero))) h l = omega arith
width_some (suc (suc (suc (suc zero)))) h l = omega arith
width_some (suc (suc (suc (suc (suc zero))))) h l = omega arith
width_some (suc (suc (suc (suc (suc (suc zero)))))) h l = omega arith
width_some (suc (suc (suc (suc (suc (suc (suc kind))))))) h l = absurd (omega arith)

module _ (form : Form) (doc : List ℕ) where
  -- What holds no records has a byte, so at the document's end it is not whole.
  leaf-end : (kind at : ℕ) → 0 < kind → length doc ≤ at → leaf_at form doc kind at ≡ no data_ends at
  leaf-end kind at h l = go (ltb kind 7) refl
    where
      wide : (b : Bool) → eqb kind 8 ≡ b → ltb kind 7 ≡ false → leaf_at form doc kind at ≡ no data_ends at
      wide true e f = leaf-string form doc kind at (eqb-true kind 8 e) ∙ string-no form doc at (number-no form doc 2 at (omega arith))
      wide false e f = leaf-array form doc kind at (ltb-false kind 7 f) (eqb-false kind 8 e) ∙ array-no form doc (width_of kind) at (number-no form doc 4 at (omega arith))

      go : (b : Bool) → ltb kind 7 ≡ b → leaf_at form doc kind at ≡ no data_ends at
      go true e =
          let k = ltb-true kind 7 e in
          leaf-fixed form doc kind at k ∙ bytes-no doc (width_of kind) 0 at (omega (arith, l, width_some kind h k))
      go false e = wide (eqb kind 8) refl e

  module _ (room : ℕ) where
    -- No payload of kind 1 or above is whole there.
    pub at-end : (depth kind name len at n : ℕ) → 0 < kind → length doc ≤ at → OnlyCut (payload_by form doc room (inside_at form doc room depth) kind name len at n)
        → payload_by form doc room (inside_at form doc room depth) kind name len at n ≡ no data_ends at
    at-end depth kind name len at n h l o = go (holds kind) refl
      where
        there : n < room
        there = only-room form doc room (inside_at form doc room depth) kind name len at n o

        inner : (d : ℕ) → depth ≡ d → holds kind ≡ true → (b : Bool) → eqb kind 9 ≡ b → inside_at form doc room depth kind at (n + 1) ≡ no data_ends at
        inner zero z e b f =
            absurd (only-not (payload-no form doc room (inside_at form doc room depth) kind name len at n there e (inside-deep form doc room kind at (n + 1) depth z)) (λ q. omega arith) o)
        inner (suc d) z e true f =
            inside-list form doc room kind at (n + 1) depth (λ q. omega arith) (eqb-true kind 9 f)
            ∙ list-head-no form doc _ at (n + 1) (list-head-end form doc at l)
        inner (suc d) z e false f =
            inside-compound form doc room kind at (n + 1) depth (λ q. omega arith) (eqb-false kind 9 f)
            ∙ compound-no form doc _ at (n + 1) (entries-head-no form doc _ (suc (length doc)) none at (n + 1) (omega arith) (entry-end form doc at l))

        go : (b : Bool) → holds kind ≡ b → payload_by form doc room (inside_at form doc room depth) kind name len at n ≡ no data_ends at
        go true e = payload-no form doc room (inside_at form doc room depth) kind name len at n there e (inner depth refl e (eqb kind 9) refl)
        go false e = payload-leaf form doc room (inside_at form doc room depth) kind name len at n there e ∙ leaf-one-no form doc kind name len at (leaf-end kind at h l)

-- ---- one turn of each loop: what is asked of its payload, and what is kept

module _ (form : Form) (doc : List ℕ) (read : Reader) where
  pub element-only : (kind at n left : ℕ) → 0 < left → OnlyCut (elements form doc read left kind at n) → OnlyCut (read kind 0 0 at n)
  unfolding elements
  element-only kind at n zero h o = absurd (omega arith)
  element-only kind at n (suc left) h o = only-first (read kind 0 0 at n) _ o

  -- The bound on the entries is not reached.
  pub entries-some : (at n fuel : ℕ) (earlier : Forest) → OnlyCut (entries form doc read fuel earlier at n) → 0 < fuel
  unfolding entries
  entries-some at n zero earlier o = absurd (let z : ◌≡◌ {A = ℕ} 0 1 = o in omega arith)
  entries-some at n (suc fuel) earlier o = omega arith

  -- An entry's name is new, and its payload is accepted or refused with 1 as the entries are.
  pub entry-only : (at n fuel : ℕ) (earlier : Forest) {kind : ℕ} {s : Span} → entry_at form doc at ≡ got (named kind s) → OnlyCut (entries form doc read fuel earlier at n)
      → (has_name doc (part doc s.start s.size) earlier ≡ false) × OnlyCut (read kind s.start s.size s.next n)
  unfolding entries
  entry-only at n zero earlier e o = absurd (let z : ◌≡◌ {A = ℕ} 0 1 = o in omega arith)
  entry-only at n (suc fuel) earlier {kind} {s} e o =
      let f = only_next (entry_at form doc at) _ e o in
      let g = only-guard (not (has_name doc (part doc s.start s.size) earlier)) 6 at _ (λ z. omega arith) f in
      (not-true _ g.0, only-first (read kind s.start s.size s.next n) _ g.1)

  module _ (begun : Opener) where
    module _ (kind at n : ℕ) where
      pub element-kept : (left : ℕ) {x : One} → 0 < left → read kind 0 0 at n ≡ got x
          → {at' n' : ℕ} → at' ≡ x.next → n' ≡ n + 1 + size x.inner
          → kept_elements form doc read begun left kind at n ≡ whole x (kept_elements form doc read begun (left - 1) kind at' n')
      element-kept zero h e p q = absurd (omega arith)
      element-kept (suc left) {x} h e p q = rw (p, q, sub-one (suc left)) (kept-element form doc read begun left kind at n e)

      pub element-begun : (left : ℕ) {m p : ℕ} → 0 < left → read kind 0 0 at n ≡ no m p → at < length doc → kept_elements form doc read begun left kind at n ≡ begun kind 0 0 at n
      element-begun zero h e l = absurd (omega arith)
      element-begun (suc left) h e l = begun-element form doc read begun left kind at n e l

      pub element-none : (left : ℕ) {m p : ℕ} → 0 < left → read kind 0 0 at n ≡ no m p → length doc ≤ at → kept_elements form doc read begun left kind at n ≡ nothing
      element-none zero h e l = absurd (omega arith)
      element-none (suc left) h e l = no-element form doc read begun left kind at n e l

    module _ (at n : ℕ) where
      module _ {kind : ℕ} {s : Span} (e : entry_at form doc at ≡ got (named kind s)) where
        pub entry_kept : (fuel : ℕ) {x : One} → 0 < fuel → read kind s.start s.size s.next n ≡ got x
            → {at' n' : ℕ} → at' ≡ x.next → n' ≡ n + 1 + size x.inner
            → kept_entries form doc read begun fuel at n ≡ whole x (kept_entries form doc read begun (fuel - 1) at' n')
        entry_kept zero h f p q = absurd (omega arith)
        entry_kept (suc fuel) {x} h f p q = rw (p, q, sub-one (suc fuel)) (kept_entry form doc read begun fuel at n e f)

        pub entry-begun : (fuel : ℕ) {m p : ℕ} → 0 < fuel → read kind s.start s.size s.next n ≡ no m p
            → kept_entries form doc read begun fuel at n ≡ begun kind s.start s.size s.next n
        entry-begun zero h f = absurd (omega arith)
        entry-begun (suc fuel) h f = begun-entry form doc read begun fuel at n e f

      pub entry-none : (fuel : ℕ) {m p : ℕ} → 0 < fuel → entry_at form doc at ≡ no m p → kept_entries form doc read begun fuel at n ≡ nothing
      entry-none zero h e = absurd (omega arith)
      entry-none (suc fuel) h e = no-entry form doc read begun fuel at n e

-- ---- a payload, where the table is as long as it was

-- What `node` asks.
pub payload-asked : (form : Form) (doc t ls : List ℕ) (words depth kind name len at above n most : ℕ) → length t ≡ words → length doc ≤ document_limit → at ≤ length doc → n ≤ room_of words → above ≤ n
    → kind ≤ 12 → name < 2 ^ 32 → len < 2 ^ 32 → depth ≤ depth_limit → OnlyCut (read_in form doc words depth kind name len at n) → 3 * most ≤ length ls
    → PayloadAsked form doc t depth kind name len at above n ls most
payload-asked form doc t ls words depth kind name len at above n most same d a c u k x y z o f = record {
  named = record {
    ready = record { doc_le = d; at_le = a; cap_le = room-le (length t); fits = room_fits (length t); n_le = rw same c; above_le = u };
    kind_le = k;
    name_lt = x;
    len_lt = y;
  };
  deep = z;
  only = rw same o;
  lines_fit = f;
}

-- What `node` leaves, with a table of so many words.
abbrev pub Pieced : (form : Form) → List ℕ → ℕ → ℕ → ℕ → ℕ → ℕ → ℕ → ℕ → ℕ → List ℕ → List ℕ → List ℕ → List ℕ → ℕ → Piece → Type 0
Pieced form doc words depth kind name len at above n t t' ls ls' most r =
    PieceIs doc (room_of words) (read_in form doc words depth kind name len at n) (begun_at form doc (room_of words) depth kind name len at n) (512 - depth) at above n t t' ls ls' most r

module _ (form : Form) (r : Piece) (doc : List ℕ) (words words₀ depth kind name len at above n : ℕ) (t t' ls ls' : List ℕ) (most : ℕ) (same : words ≡ words₀)
    (s : Pieced form doc words depth kind name len at above n t t' ls ls' most r) where
  pub piece-whole : (at' n' : ℕ) → r ≡ Piece.Whole at' n' → Next doc (room_of words₀) (read_in form doc words₀ depth kind name len at n) at' n' at above n t t' × (ls' ≡ ls)
  piece-whole at' n' e = rw (e, same) at s

  pub piece_cut : (n' m : ℕ) → r ≡ Piece.Cut n' m
      → IsCut (read_in form doc words₀ depth kind name len at n) × Shut (room_of words₀) (begun_at form doc (room_of words₀) depth kind name len at n) n' m (512 - depth) above n t t' ls ls' most
  piece_cut n' m e = rw (e, same) at s
