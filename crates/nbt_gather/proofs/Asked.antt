-- The steps of the proofs that are about plain values: what the functions ask of each other, and what they leave, from what their parts do.
-- Assumes nothing.
use Prim.Native.Nat.{ℕ, ◌+◌, ◌-◌, ◌*◌, ◌≤◌, ◌<◌, ◌^◌}
use mathlib.Core.Bool.{true}
use mathlib.Core.List.{List, [], ◌∷◌}
use mathlib.Core.Path.{◌≡◌, refl, ap, ◌∙◌}
use native.Mathlib.Omega.{arith}
use native.Mathlib.Numerals.{towards_suc}
use borrow.Author.Tests.{ne_eqb}
use lib.ListN.{length, set}
use lib.Dec.{ltb, eqb}
use Rattle.form.specs.Form.{Form}
use Rattle.form.specs.Answer.{Out, got, no, pick, depth_limit}
use Rattle.form.specs.Spans.{over}
use Rattle.form.specs.Table.{holds}
use Rattle.form.specs.Reading.{Span, Run, ListHead, list_head_at, inside_at, room_of, string_at, reading}
use Rattle.form.specs.Cut.{Kept, begun_at}
use Rattle.form.proofs.Fields.{list-head-within, number-no, string-no, string-within}
use Rattle.form.proofs.Payloads.{payload-no, room-le, room_fits, inside-list, list-head-no}
use Rattle.form.proofs.Table.{sets_over, width-le-size}
use Rattle.form.proofs.Cut.{RootCut, root-cut, kept_of_lem, not-both}
use Rattle.table.specs.declared.Record.{Record}
use Rattle.table.specs.Records.{record_words, container_of}
use Rattle.nbt_gather.specs.declared.Piece.{Piece}
use Rattle.nbt_gather.specs.declared.Side.{Side}
use Rattle.nbt_gather.specs.Steps.{OnlyCut, IsCut, read_in, elements_in, entries_in, elements_kept, entries_kept, PayloadAsked, ElementsAsked}
use Rattle.nbt_gather.specs.Steps.{EntriesAsked, HeldAsked, end_of, count_of, open_of, Shut, PieceIs, SideIs, HeldIs, KeptIn}
use Rattle.nbt_gather.proofs.Only.{cut-only}
use Rattle.nbt_gather.proofs.Parts.{only-room, only-inside, only-deep, only-entries, only-head, only-elements, positive, list-kind-some}
use Rattle.nbt_gather.proofs.Containers.{shut-nothing, held-piece, no-list-at, compound-holds, list-holds}

-- ---- what is stored

-- Three stores are a line at its place.
pub line-put : (ls : List ℕ) (level n promised kept : ℕ) → 3 * level + 3 ≤ length ls
    → set (set (set ls (3 * level) n) (3 * level + 1) promised) (3 * level + 2) kept ≡ over ls (3 * level) (n ∷ promised ∷ kept ∷ [])
line-put ls level n promised kept h = simp towards_suc (sets_over (n ∷ promised ∷ kept ∷ []) ls (3 * level) h)

module _ (kind name len inner promised level above n : ℕ) (t t' ls : List ℕ) (most : ℕ) (s : Side) where
  -- A container's record, behind what is whole and behind what is cut.
  pub held_whole : (at n' count : ℕ) → s ≡ Side.Whole at n' count → {r : Record} → r ≡ container_of kind name len count inner n' above
      → t' ≡ over t (9 * n) (record_words r) → HeldIs kind name len inner promised level above n t t' ls ls most s (Piece.Whole at n')
  held_whole at n' count e {r} f g = rw e (refl, rw f at g, refl)

  pub held_cut : (n' count m : ℕ) → s ≡ Side.Cut n' count m → {r : Record} {first : ℕ} {ls' : List ℕ} → r ≡ container_of kind name len count first n' above
      → first ≡ pick (eqb count 0) 0 inner → t' ≡ over t (9 * n) (record_words r) → ls' ≡ pick (ltb (level + m) most) (over ls (3 * level) (n ∷ promised ∷ count ∷ [])) ls
      → HeldIs kind name len inner promised level above n t t' ls ls' most s (Piece.Cut n' (m + 1))
  held_cut n' count m e {r} {first} f i g l = rw e (refl, rw (f, i) at g, l)

-- The kind of a cut container's elements: none where there are none.
pub first_inner : (count inner first : ℕ) → (count ≡ 0 → ⊥) → first ≡ inner → first ≡ pick (eqb count 0) 0 inner
first_inner count inner first e f = f ∙ rw (ne_eqb count 0 e) refl

-- ---- a payload, from what is asked of it

module _ (form : Form) {doc t ls : List ℕ} {depth kind name len at above n most : ℕ} (a : PayloadAsked form doc t depth kind name len at above n ls most) where
  abbrev room : ℕ
  room = room_of (length t)

  pub asked-room : n < room
  asked-room = only-room form doc room (inside_at form doc room depth) kind name len at n a.only

  pub asked-fits : 9 * n + 9 ≤ length t
  asked-fits = omega (arith, asked-room, a.named.ready)

  module _ (c : holds kind ≡ true) where
    inside : OnlyCut (inside_at form doc room depth kind at (n + 1))
    inside = only-inside form doc room (inside_at form doc room depth) kind name len at n a.only c

    pub asked-deep : depth ≡ 0 → ⊥
    asked-deep = only-deep form doc room depth kind at (n + 1) inside

    pub entries-asked : kind ≡ 10 → EntriesAsked form doc t (depth - 1) at n ls most
    entries-asked e =
        let r = a.named.ready in
        let d = positive depth asked-deep in
        record {
          ready = record { doc_le = r.doc_le; at_le = r.at_le; cap_le = r.cap_le; fits = r.fits; n_le = omega (arith, asked-room); above_le = omega arith };
          deep = omega (arith, a.deep);
          only = only-entries form doc room depth kind at (n + 1) inside (λ z. omega arith);
          lines_fit = a.lines_fit;
        }

    module _ (e : kind ≡ 9) where
      pub elements-asked : {h : ListHead} → list_head_at form doc at ≡ got h → ElementsAsked form doc t (depth - 1) h.count h.kind (at + 5) n ls most
      elements-asked f =
          let r = a.named.ready in
          let d = positive depth asked-deep in
          let w = list-head-within form doc at f in
          record {
            ready = record { doc_le = r.doc_le; at_le = w.0; cap_le = r.cap_le; fits = r.fits; n_le = omega (arith, asked-room); above_le = omega arith };
            deep = omega (arith, a.deep);
            kind_le = w.1;
            kind_some = list-kind-some form doc at f;
            only = only-elements form doc room depth kind at (n + 1) inside e f;
            lines_fit = a.lines_fit;
          }

      -- A list whose head is cut leaves nothing.
      pub list-head-piece : (level : ℕ) {m p : ℕ} → list_head_at form doc at ≡ no m p → level ≤ depth_limit
          → IsCut (read_in form doc (length t) depth kind name len at n) × Shut room (begun_at form doc room depth kind name len at n) n 0 level above n t t ls ls most
      list-head-piece level {m} {p} f l =
          let one : m ≡ 1 = rw f at (only-head form doc room depth kind at (n + 1) inside e) in (
            (
              p,
              payload-no form doc room (inside_at form doc room depth) kind name len at n asked-room c
                  (inside-list form doc room kind at (n + 1) depth asked-deep e ∙ list-head-no form doc _ at (n + 1) (f ∙ ap (λ q. no q p) one)),
            ),
            shut-nothing room level above n t ls most (no-list-at form doc room kind name len at n depth e f) (omega (arith, asked-room)) l,
          )

module _ (doc : List ℕ) (room : ℕ) (o : Out Run) (k : Kept) (level from above n : ℕ) (t t' ls ls' : List ℕ) (most : ℕ) where
  -- The numbers of what was gathered side by side are small.
  pub side-small : (s : Side) → SideIs doc room o k level from above n t t' ls ls' most s → (end_of s ≤ room) × (count_of s ≤ room) × (open_of s ≤ depth_limit)
  side-small (Side.Whole at n' count) (g, e) = (g.n_le, omega (arith, g.n_le, g.n_is, g.count_is, width-le-size g.x.forest), omega arith)
  side-small (Side.Cut n' count m) (c, g, e) = (g.n_le, omega (arith, g.n_le, g.n_is, e, width-le-size k.forest), omega (arith, g.deep))

-- What `held` asks, behind what was gathered in a container.
pub held-asked : (form : Form) → {doc t ls : List ℕ} {depth kind name len at above n most : ℕ} (a : PayloadAsked form doc t depth kind name len at above n ls most) {t₁ ls₁ : List ℕ} {s : Side}
    → (end_of s ≤ room_of (length t)) × (count_of s ≤ room_of (length t)) × (open_of s ≤ depth_limit)
    → length t₁ ≡ length t → length ls₁ ≡ length ls → {promised level : ℕ} → promised < 2 ^ 32 → level ≤ depth_limit → HeldAsked t₁ name len promised level above n s ls₁ most
held-asked form a w e f p l = record {
  fits = omega (arith, asked-fits form a);
  above_le = a.named.ready.above_le;
  n_lt = omega (arith, asked-room form a, a.named.ready);
  name_lt = a.named.name_lt;
  len_lt = a.named.len_lt;
  promised_lt = p;
  level_le = l;
  end_lt = omega (arith, w.0, a.named.ready);
  count_lt = omega (arith, w.1, a.named.ready);
  open_lt = omega (arith, w.2);
  lines_fit = omega (arith, a.lines_fit, f);
}

module _ (form : Form) {doc t ls : List ℕ} {depth kind name len at above n most : ℕ} (a : PayloadAsked form doc t depth kind name len at above n ls most) (c : holds kind ≡ true)
    (t₁ t₂ ls₁ ls₂ : List ℕ) (s : Side) (r : Piece) where
  abbrev size_of : ℕ
  size_of = length t

  level-next : 512 - (depth - 1) ≡ 512 - depth + 1
  level-next = omega (arith, positive depth (asked-deep form a c), a.deep)

  -- A compound, of its entries and its own record.
  pub compound-piece : kind ≡ 10
      → SideIs doc (room_of size_of) (entries_in form doc size_of (depth - 1) at (n + 1)) (entries_kept form doc size_of (depth - 1) at (n + 1)) (512 - (depth - 1)) at n (n + 1) t t₁ ls ls₁ most s
      → HeldIs kind name len 0 0 (512 - depth) above n t₁ t₂ ls₁ ls₂ most s r
      → PieceIs doc (room_of size_of) (read_in form doc size_of depth kind name len at n) (begun_at form doc (room_of size_of) depth kind name len at n) (512 - depth) at above n t t₂ ls ls₂ most r
  compound-piece e f g =
      held-piece doc (room_of size_of) (compound-holds form doc (room_of size_of) depth kind name len at n (asked-deep form a c) (asked-room form a) e)
      (512 - depth) (512 - (depth - 1)) at at above t t₁ t₂ ls ls₁ ls₂ most s r f g level-next (omega arith) (asked-fits form a) a.lines_fit

  -- A list, of its head, its elements and its own record.
  pub list-piece : kind ≡ 9 → {inner count : ℕ} → list_head_at form doc at ≡ got (record { kind = inner; count = count })
      → SideIs doc (room_of size_of) (elements_in form doc size_of (depth - 1) count inner (at + 5) (n + 1)) (elements_kept form doc size_of (depth - 1) count inner (at + 5) (n + 1))
      (512 - (depth - 1)) (at + 5) n (n + 1) t t₁ ls ls₁ most s
      → HeldIs kind name len inner count (512 - depth) above n t₁ t₂ ls₁ ls₂ most s r
      → PieceIs doc (room_of size_of) (read_in form doc size_of depth kind name len at n) (begun_at form doc (room_of size_of) depth kind name len at n) (512 - depth) at above n t t₂ ls ls₂ most r
  list-piece e h f g =
      held-piece doc (room_of size_of) (list-holds form doc (room_of size_of) depth kind name len at n (asked-deep form a c) (asked-room form a) e h)
      (512 - depth) (512 - (depth - 1)) at (at + 5) above t t₁ t₂ ls ls₁ ls₂ most s r f g level-next (omega arith) (asked-fits form a) a.lines_fit

-- ---- the document

-- With no byte there is no name.
pub string-none : (form : Form) (doc : List ℕ) → length doc ≡ 0 → (m p : ℕ) × (string_at form doc 1 ≡ no m p)
string-none form doc e = (1, 1, string-no form doc 1 (number-no form doc 2 1 (omega arith)))

module _ (form : Form) (doc t : List ℕ) (c : IsCut (reading form doc t)) {s : Span} (e : string_at form doc 1 ≡ got s) where
  root : RootCut form doc (room_of (length t)) s c.0
  root = root-cut form doc (room_of (length t)) e c.1

  -- What is asked of the root's payload.
  pub root-asked : (ls : List ℕ) (most : ℕ) → 3 * most ≤ length ls → PayloadAsked form doc t 512 10 s.start s.size s.next 0 0 ls most
  root-asked ls most h =
      let w = string-within form doc 1 e in
      let small = root.small in
      record {
        named = record {
          ready = record { doc_le = small; at_le = w.to; cap_le = room-le (length t); fits = room_fits (length t); n_le = omega arith; above_le = omega arith };
          kind_le = omega arith;
          name_lt = omega (arith, w);
          len_lt = omega (arith, w);
        };
        deep = omega arith;
        only = cut-only (c.0, root.payload);
        lines_fit = h;
      }

  module _ (t' ls ls' : List ℕ) (most : ℕ) (r : Piece)
      (g : PieceIs doc (room_of (length t)) (read_in form doc (length t) 512 10 s.start s.size s.next 0)
      (begun_at form doc (room_of (length t)) 512 10 s.start s.size s.next 0) 0 s.next 0 0 t t' ls ls' most r) where
    -- It is not whole.
    pub root-whole : {at n : ℕ} → r ≡ Piece.Whole at n → ⊥
    root-whole f = not-both (rw f at g).0.is root.payload

    -- What it leaves is what is kept of the document.
    pub root_kept : {n m : ℕ} → r ≡ Piece.Cut n m → KeptIn form doc t t' ls ls' most n m
    root_kept {n} {m} f = record {
      k = _;
      is = kept_of_lem form doc (room_of (length t)) e c.1;
      records_are = shut.n_is ∙ omega arith;
      lines_are = shut.many;
      table = shut.table;
      listed = λ z. shut.listed (omega arith);
      unlisted = λ z. shut.unlisted (omega arith);
      fits = omega (arith, shut.n_le, room_fits (length t));
      small = omega (arith, shut.deep);
    }
      where
        shut : Shut (room_of (length t)) (begun_at form doc (room_of (length t)) 512 10 s.start s.size s.next 0) n m 0 0 0 t t' ls ls' most
        shut = (rw f at g).1
