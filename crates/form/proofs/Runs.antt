-- Laws of runs of records, for the loops that read and write them one after the other.
-- Assumes nothing.
use Prim.Native.Nat.{ℕ, zero, suc, ◌+◌, ◌-◌, ◌*◌, ◌≤◌, ◌<◌}
use mathlib.Core.List.{List}
use mathlib.Core.Bool.{true, false}
use mathlib.Core.Path.{◌≡◌, refl, sym, ap, ◌∙◌}
use native.Mathlib.Omega.{arith}
use native.Mathlib.Numerals.{sub-one}
use lib.ListN.{length}
use Rattle.form.specs.Form.{Form}
use Rattle.form.specs.Answer.{Out, got, no, ◌>>=◌}
use Rattle.form.specs.Table.{Forest, none, node, size, width, ◌⊕◌, wrote}
use Rattle.form.specs.Reading.{One, Run, Reader, end, named, Span, before, has_name, entry_at, elements, entries}
use Rattle.form.specs.Spans.{part}
use Rattle.form.proofs.Table.{size-one, size-append, width_one, width-append, append-none, append-append, wrote_none, wrote-next, wrote-length}

-- the record x, then the rest
abbrev pub then : One → Out Run → Out Run
then x rest = rest >>= (λ r. got (before x r))

-- the records f, then the rest
abbrev pub after : Forest → Out Run → Out Run
after f (got r) = got (record { forest = f ⊕ r.forest; next = r.next })
after f (no m p) = no m p

-- ---- one turn of each loop

module _ (form : Form) (doc : List ℕ) (read : Reader) where
  pub elements-none : (kind at n left : ℕ) → left ≤ 0 → elements form doc read left kind at n ≡ got (record { forest = none; next = at })
  unfolding elements
  elements-none kind at n zero h = refl
  elements-none kind at n (suc left) h = absurd (omega arith)

  pub elements-no : (kind at n left : ℕ) {m p : ℕ} → 0 < left → read kind 0 0 at n ≡ no m p → elements form doc read left kind at n ≡ no m p
  unfolding elements
  elements-no kind at n zero h e = absurd (omega arith)
  elements-no kind at n (suc left) h e = rw e refl

  pub elements-next : (kind at n left : ℕ) {x : One} → 0 < left → read kind 0 0 at n ≡ got x
      → {at' n' : ℕ} → at' ≡ x.next → n' ≡ n + 1 + size x.inner
      → elements form doc read left kind at n ≡ then x (elements form doc read (left - 1) kind at' n')
  unfolding elements
  elements-next kind at n zero h e p q = absurd (omega arith)
  elements-next kind at n (suc left) {x} h e p q = rw (p, q, sub-one (suc left), e) refl

  module _ (fuel : ℕ) (earlier : Forest) (at n : ℕ) (h : 0 < fuel) where
    pub entries-head-no : {m p : ℕ} → entry_at form doc at ≡ no m p → entries form doc read fuel earlier at n ≡ no m p
    unfolding entries
    entries-head-no {m} {p} e = go fuel h
      where
        go : (g : ℕ) → 0 < g → entries form doc read g earlier at n ≡ no m p
        go zero h = absurd (omega arith)
        go (suc g) h = rw e refl

    pub entries-end : entry_at form doc at ≡ got end → entries form doc read fuel earlier at n ≡ got (record { forest = none; next = at + 1 })
    unfolding entries
    entries-end e = go fuel h
      where
        go : (g : ℕ) → 0 < g → entries form doc read g earlier at n ≡ got (record { forest = none; next = at + 1 })
        go zero h = absurd (omega arith)
        go (suc g) h = rw e refl

    module _ {kind : ℕ} {s : Span} (e : entry_at form doc at ≡ got (named kind s)) where
      pub entries_twice : has_name doc (part doc s.start s.size) earlier ≡ true → entries form doc read fuel earlier at n ≡ no 6 at
      unfolding entries
      entries_twice f = go fuel h
        where
          go : (g : ℕ) → 0 < g → entries form doc read g earlier at n ≡ no 6 at
          go zero h = absurd (omega arith)
          go (suc g) h = rw (e, f) refl

      module _ (new : has_name doc (part doc s.start s.size) earlier ≡ false) where
        pub entries-no : {m p : ℕ} → read kind s.start s.size s.next n ≡ no m p → entries form doc read fuel earlier at n ≡ no m p
        unfolding entries
        entries-no {m} {p} f = go fuel h
          where
            go : (g : ℕ) → 0 < g → entries form doc read g earlier at n ≡ no m p
            go zero h = absurd (omega arith)
            go (suc g) h = rw (e, new, f) refl

        pub entries_next : {x : One} → read kind s.start s.size s.next n ≡ got x
            → {at' n' : ℕ} → at' ≡ x.next → n' ≡ n + 1 + size x.inner
            → entries form doc read fuel earlier at n ≡ then x (entries form doc read (fuel - 1) (earlier ⊕ node x.head x.inner none) at' n')
        unfolding entries
        entries_next {x} f p q = rw (p, q) (go fuel h)
          where
            go : (g : ℕ) → 0 < g → entries form doc read g earlier at n ≡ then x (entries form doc read (g - 1) (earlier ⊕ node x.head x.inner none) x.next (n + 1 + size x.inner))
            go zero h = absurd (omega arith)
            go (suc g) h = rw (sub-one (suc g), e, new, f) refl

-- ---- how far a loop has come

-- the records acc were read and written from record n₀ on, done of them side by side; n is the next record's number, and what is left
-- of the whole is `left`
pub record Sofar (whole left : Out Run) (acc : Forest) (t₀ t : List ℕ) (above n₀ n done : ℕ) : Type 0 where
  pub is : whole ≡ after acc left
  pub n_is : n ≡ n₀ + size acc
  pub done-is : done ≡ width acc
  pub table : t ≡ wrote t₀ above n₀ acc

after_none : (o : Out Run) → o ≡ after none o
unfolding ◌⊕◌
after_none (got r) = refl
after_none (no m p) = refl

pub after_then : (f : Forest) (x : One) (o : Out Run) → after f (then x o) ≡ after (f ⊕ node x.head x.inner none) o
unfolding ◌⊕◌
after_then f x (got r) = ap (λ g. got (record { forest = g; next = r.next })) (lemma ∙ sym (append-append f (node x.head x.inner none) r.forest))
  where
    lemma : f ⊕ node x.head x.inner r.forest ≡ f ⊕ (node x.head x.inner none ⊕ r.forest)
    lemma = refl
after_then f x (no m p) = refl

pub sofar-start : (whole : Out Run) (t : List ℕ) (above n : ℕ) {done : ℕ} → done ≡ 0 → Sofar whole whole none t t above n n done
unfolding size width
sofar-start whole t above n d =
    record { is = after_none whole; n_is = omega arith; done-is = d; table = sym (wrote_none t above n) }

module _ {whole left : Out Run} {acc : Forest} {t₀ t : List ℕ} {above n₀ n done : ℕ} (s : Sofar whole left acc t₀ t above n₀ n done) where
  pub sofar-no : {m p : ℕ} → left ≡ no m p → whole ≡ no m p
  sofar-no e = s.is ∙ ap (after acc) e

  pub sofar-end : {at : ℕ} → left ≡ got (record { forest = none; next = at }) → whole ≡ got (record { forest = acc; next = at })
  sofar-end {at} e = s.is ∙ ap (after acc) e ∙ ap (λ g. got (record { forest = g; next = at })) (append-none acc)

  pub sofar-length : 9 * n ≤ length t₀ → length t ≡ length t₀
  sofar-length h = rw s.table (wrote-length t₀ above n₀ acc (rw (← s.n_is) h))

  pub sofar-next : (x : One) {rest : Out Run} {t' : List ℕ} {n' done' : ℕ} → left ≡ then x rest → t' ≡ wrote t above n (node x.head x.inner none)
      → n' ≡ n + 1 + size x.inner → done' ≡ done + 1 → 9 * n ≤ length t₀
      → Sofar whole rest (acc ⊕ node x.head x.inner none) t₀ t' above n₀ n' done'
  sofar-next x {rest} {t'} e w i d h = record {
    is = s.is ∙ ap (after acc) e ∙ after_then acc x rest;
    n_is = omega (arith, s.n_is, size-append acc (node x.head x.inner none), size-one x.head x.inner);
    done-is = omega (arith, s.done-is, width-append acc (node x.head x.inner none), width_one x.head x.inner);
    table = w ∙ rw (s.table, s.n_is) (wrote-next t₀ above n₀ acc (node x.head x.inner none) (rw (← s.n_is) h));
  }
