-- Names need not be compared as each entry is read: reading on and asking for the first repeat afterwards gives the same answer.
-- Assumes nothing.
use Prim.Native.Nat.{ℕ, ◌+◌, ◌-◌, ◌*◌, ◌≤◌, ◌<◌}
use mathlib.Core.Bool.{Bool, true, false, not}
use mathlib.Core.List.{List}
use mathlib.Core.Path.{◌≡◌, refl, sym, ap, ◌∙◌}
use native.Mathlib.Omega.{arith}
use Rattle.form.specs.Form.{Form}
use Rattle.form.specs.Answer.{Out, got, no, ◌>>=◌, ◌>>◌, guard}
use lib.ListN.{length}
use Rattle.form.specs.Table.{Head, Forest, none, node, size, width, ◌⊕◌, wrote}
use Rattle.nbt_siblings.specs.Holding.{NamesIn}
use Rattle.nbt_siblings.proofs.Holding.{names-none, names_more}
use Rattle.form.specs.Reading.{One, Run, Reader, Entry, end, named, Span, has_name, byte_at, bytes_at, string_at, entry_at, entries}
use Rattle.form.specs.Spans.{part}
use Rattle.form.proofs.Answer.{bind-got, guard-got}
use Rattle.form.proofs.Fields.{string-worded}
use lib.Dec.{leb, eqb}
use Rattle.form.proofs.Table.{append-none, append-append, size-one, size-append, width_one, width-append, wrote_none, wrote-next}
use Rattle.form.proofs.Runs.{after, entries-head-no, entries-end, entries_twice, entries-no, entries_next, after_then}
use Rattle.nbt_siblings.specs.Forests.{spare, Free, names_once}
use Rattle.nbt_siblings.proofs.Kept.{free-none, free_more}

unit : (u : Out (Unit {0})) → (u >> got tt) ≡ u
unit (got a) = refl
unit (no m p) = refl

assoc : {A : Type 0} (u v : Out (Unit {0})) (r : Out A) → ((u >> v) >> r) ≡ (u >> (v >> r))
assoc (got a) v r = refl
assoc (no m p) v r = refl

-- one record more
pub once_more : (doc : List ℕ) (f seen : Forest) (h : Head) (inner : Forest)
    → names_once doc seen (f ⊕ node h inner none) ≡ (names_once doc seen f >> guard (not (has_name doc (part doc h.name h.name_length) (seen ⊕ f))) 6 (h.name - 3))
unfolding names_once ◌⊕◌
once_more doc none seen h inner = rw (append-none seen) (unit (guard (not (has_name doc (part doc h.name h.name_length) seen)) 6 (h.name - 3)))
once_more doc (node g i l) seen h inner =
    let u = guard (not (has_name doc (part doc g.name g.name_length) seen)) 6 (g.name - 3) in
    ap (λ o. u >> o) (once_more doc l (seen ⊕ node g i none) h inner)
    ∙ ap (λ k. u >> (names_once doc (seen ⊕ node g i none) l >> guard (not (has_name doc (part doc h.name h.name_length) k)) 6 (h.name - 3)))
    (append-append seen (node g i none) l)
    ∙ sym (assoc u (names_once doc (seen ⊕ node g i none) l) (guard (not (has_name doc (part doc h.name h.name_length) (seen ⊕ node g i l))) 6 (h.name - 3)))

after_none : (o : Out Run) → o ≡ after none o
unfolding ◌⊕◌
after_none (got r) = refl
after_none (no m p) = refl

cut : {A : Type 0} (u : Out (Unit {0})) (m p : ℕ) (r : Out A) → (◌>>◌ {A = Unit {0}} {B = Unit {0}} u (no m p) >> r) ≡ (u >> no m p)
cut (got a) m p r = refl
cut (no k q) m p r = refl

-- how far a compound's entries have come, with names not compared yet: it is the answer of the whole if the names of acc are told apart
pub record Deferred (doc : List ℕ) (whole left : Out Run) (acc : Forest) : Type 0 where
  pub is : whole ≡ (names_once doc none acc >> after acc left)

pub deferred-start : (doc : List ℕ) (whole : Out Run) → Deferred doc whole whole none
unfolding names_once
deferred-start doc whole = record { is = after_none whole }

module _ (form : Form) (doc : List ℕ) (read : Reader) (whole : Out Run) (fuel : ℕ) (acc : Forest) (at n : ℕ) (d : Deferred doc whole (entries form doc read fuel acc at n) acc) (h : 0 < fuel) where
  -- a refusal before the name is known
  pub deferred-head-no : (m p : ℕ) → entry_at form doc at ≡ no m p → whole ≡ (names_once doc none acc >> no m p)
  deferred-head-no m p e = d.is ∙ ap (λ o. names_once doc none acc >> after acc o) (entries-head-no form doc read fuel acc at n h e)

  -- the end byte
  pub deferred-end : entry_at form doc at ≡ got end → whole ≡ (names_once doc none acc >> got (record { forest = acc; next = at + 1 }))
  deferred-end e =
      d.is
      ∙ ap (λ o. names_once doc none acc >> after acc o) (entries-end form doc read fuel acc at n h e)
      ∙ ap (λ g. names_once doc none acc >> got (record { forest = g; next = at + 1 })) (append-none acc)

  module _ (kind : ℕ) (s : Span) (e : entry_at form doc at ≡ got (named kind s)) where
    -- a refusal in the entry's payload: its own name comes first
    pub deferred-no : (m p : ℕ) → read kind s.start s.size s.next n ≡ no m p
        → whole ≡ (names_once doc none acc >> (guard (not (has_name doc (part doc s.start s.size) acc)) 6 at >> no m p))
    deferred-no m p f = d.is ∙ go (has_name doc (part doc s.start s.size) acc) refl
      where
        go : (b : Bool) → has_name doc (part doc s.start s.size) acc ≡ b
            → (names_once doc none acc >> after acc (entries form doc read fuel acc at n)) ≡ (names_once doc none acc >> (guard (not (has_name doc (part doc s.start s.size) acc)) 6 at >> no m p))
        go true q = rw (q, entries_twice form doc read fuel acc at n h e q) refl
        go false q = rw (q, entries-no form doc read fuel acc at n h e q f) refl

    -- an entry
    pub deferred-next : (x : One) → read kind s.start s.size s.next n ≡ got x → x.head.name ≡ s.start → x.head.name_length ≡ s.size → s.start ≡ at + 3
        → (at' n' : ℕ) → at' ≡ x.next → n' ≡ n + 1 + size x.inner
        → Deferred doc whole (entries form doc read (fuel - 1) (acc ⊕ node x.head x.inner none) at' n') (acc ⊕ node x.head x.inner none)
    unfolding ◌⊕◌
    deferred-next x f p q r at' n' u v = record { is = d.is ∙ go (has_name doc (part doc s.start s.size) acc) refl }
      where
        rest : Out Run
        rest = entries form doc read (fuel - 1) (acc ⊕ node x.head x.inner none) at' n'

        place : x.head.name - 3 ≡ at
        place = omega (arith, p, r)

        more : names_once doc none (acc ⊕ node x.head x.inner none) ≡ (names_once doc none acc >> guard (not (has_name doc (part doc s.start s.size) acc)) 6 at)
        more =
            once_more doc acc none x.head x.inner
            ∙ (λ i. names_once doc none acc >> guard (not (has_name doc (part doc (p i) (q i)) acc)) 6 (place i))

        go : (b : Bool) → has_name doc (part doc s.start s.size) acc ≡ b
            → (names_once doc none acc >> after acc (entries form doc read fuel acc at n))
            ≡ (names_once doc none (acc ⊕ node x.head x.inner none) >> after (acc ⊕ node x.head x.inner none) rest)
        go true w =
            rw (more, w, entries_twice form doc read fuel acc at n h e w)
            (sym (cut (names_once doc none acc) 6 at (after (acc ⊕ node x.head x.inner none) rest)))
        go false w =
            rw (more, w, entries_next form doc read fuel acc at n h e w f u v, after_then acc x rest)
            (sym (assoc (names_once doc none acc) (got tt) (after (acc ⊕ node x.head x.inner none) rest)))

-- with what is written
pub record Going (doc : List ℕ) (whole left : Out Run) (acc : Forest) (t₀ t : List ℕ) (above n₀ n done : ℕ) : Type 0 where
  pub deferred : Deferred doc whole left acc
  pub n_is : n ≡ n₀ + size acc
  pub done-is : done ≡ width acc
  pub table : t ≡ wrote t₀ above n₀ acc
  pub names : NamesIn (length doc) acc
  pub free : Free acc

pub going_start : (doc : List ℕ) (whole : Out Run) (t : List ℕ) (above n : ℕ) → Going doc whole whole none t t above n n 0
unfolding size width
going_start doc whole t above n =
    record { deferred = deferred-start doc whole; n_is = omega arith; done-is = refl; table = sym (wrote_none t above n); names = names-none (length doc); free = free-none }

module _ {doc : List ℕ} {whole left : Out Run} {acc : Forest} {t₀ t : List ℕ} {above n₀ n done : ℕ} (g : Going doc whole left acc t₀ t above n₀ n done) where
  pub going_next : (x : One) (rest : Out Run) (t' : List ℕ) (n' done' : ℕ) → Deferred doc whole rest (acc ⊕ node x.head x.inner none)
      → t' ≡ wrote t above n (node x.head x.inner none) → n' ≡ n + 1 + size x.inner → done' ≡ done + 1 → 9 * n ≤ length t₀
      → x.head.name + x.head.name_length ≤ length doc → spare x.head ≡ 0
      → Going doc whole rest (acc ⊕ node x.head x.inner none) t₀ t' above n₀ n' done'
  going_next x rest t' n' done' d w i q h nm fr = record {
    deferred = d;
    n_is = omega (arith, g.n_is, size-append acc (node x.head x.inner none), size-one x.head x.inner);
    done-is = omega (arith, g.done-is, width-append acc (node x.head x.inner none), width_one x.head x.inner);
    table = w ∙ rw (g.table, g.n_is) (wrote-next t₀ above n₀ acc (node x.head x.inner none) (rw (← g.n_is) h));
    names = names_more (length doc) acc x.head x.inner g.names nm;
    free = free_more acc x.head x.inner g.free fr;
  }

-- ---- an entry's name stands three bytes after its id byte

module _ (form : Form) (doc : List ℕ) where
  bytes-start : (n count at : ℕ) {s : Span} → bytes_at doc n count at ≡ got s → s.start ≡ at
  unfolding bytes_at
  bytes-start n count at {s} e =
      let g = guard-got (leb (at + n) (length doc)) 1 at (got (record { start = at; size = n; count = count; next = at + n })) e in
      let f : record { start = at; size = n; count = count; next = at + n } ≡ s = cc in
      rw (← f) refl

  string-start : (at : ℕ) {s : Span} → string_at form doc at ≡ got s → s.start ≡ at + 2
  string-start at e = let w = string-worded form doc at e in bytes-start w.n 0 (at + 2) w.span

  pub entry-start : (at : ℕ) {k : ℕ} {s : Span} → entry_at form doc at ≡ got (named k s) → s.start ≡ at + 3
  unfolding entry_at
  entry-start at {k} {s} e = go (eqb b.0 0) b.2
    where
      rest : ℕ → Bool → Out Entry
      rest c t = elim t [ true ↦ got end | false ↦ string_at form doc (at + 1) >>= (λ n. guard (leb c 12) 3 at >> got (named c n)) ]

      b : (c : ℕ) × (byte_at doc at ≡ got c) × (rest c (eqb c 0) ≡ got (named k s))
      b = bind-got (byte_at doc at) (λ c. rest c (eqb c 0)) e

      go : (t : Bool) → rest b.0 t ≡ got (named k s) → s.start ≡ at + 3
      go true f = absurd (let z : ◌≡◌ {A = ℕ} 0 1 = cc in omega arith)
      go false f =
          let n = bind-got (string_at form doc (at + 1)) (λ n. guard (leb b.0 12) 3 at >> got (named b.0 n)) f in
          let g = guard-got (leb b.0 12) 3 at (got (named b.0 n.0)) n.2 in
          let sb : n.0 ≡ s = cc g.1 in
          let w : n.0.start ≡ at + 1 + 2 = string-start (at + 1) n.1 in
          rw (← sb) (omega arith)
