-- Laws of the names in a table that holds records side by side.
-- Assumes nothing.
use Prim.Native.Nat.{ℕ, zero, suc, ◌+◌, ◌-◌, ◌*◌, ◌≤◌, ◌<◌}
use mathlib.Core.Bool.{Bool, true, false, ◌||◌}
use mathlib.Core.List.{List, ◌++◌, append_assoc}
use mathlib.Core.Path.{◌≡◌, refl, sym, ap, subst, ◌∙◌}
use native.Mathlib.Omega.{arith}
use native.Mathlib.Numerals.{sub-one}
use borrow.Author.Tests.{lt-ltb, le-ltb}
use lib.ListN.{length, get_or, take, drop, get_or-append}
use lib.Seq.{get_or-append-add, length-take-le}
use Rattle.form.specs.Table.{Head, Forest, none, node, size, ◌⊕◌, word, words, flat, wrote}
use Rattle.form.specs.Spans.{over, same, part}
use Rattle.form.specs.Reading.{has_name}
use Rattle.nbt_siblings.specs.Holding.{among, NamesIn, Holds}
use Rattle.form.proofs.Table.{size_none, size-append, append-append, flat-length, flat_append}

-- ---- the names in a table

-- a word of a record in a table
flat-words : (p m : ℕ) (h : Head) (inner later : Forest) (d : List ℕ)
    → flat p m (node h inner later) ++ d ≡ words h (m + 1 + size inner) p ++ ((flat m (m + 1) inner ++ flat p (m + 1 + size inner) later) ++ d)
unfolding flat
flat-words p m h inner later d = refl

wrote-word : (t : List ℕ) (p n : ℕ) (f : Forest) (h : Head) (inner later : Forest) → 9 * n ≤ length t → (k : ℕ) → k < 9
    → get_or (wrote t p n (f ⊕ node h inner later)) (9 * (n + size f) + k) 0 ≡ get_or (words h (n + size f + 1 + size inner) p) k 0
unfolding wrote over
wrote-word t p n f h inner later fits k l =
    let e : 9 * (n + size f) + k ≡ length (take (9 * n) t) + (length (flat p n f) + k) = omega (arith, length-take-le (9 * n) t fits, flat-length p n f) in
    let m = n + size f in
    let g = flat p m (node h inner later) in
    let d = drop (9 * n + length (flat p n f ++ g)) t in
    let r = (flat m (m + 1) inner ++ flat p (m + 1 + size inner) later) ++ d in
    rw (
      flat_append p n f (node h inner later),
      e,
      get_or-append-add (take (9 * n) t) ((flat p n f ++ g) ++ d) (length (flat p n f) + k) 0,
      append_assoc (flat p n f) g d,
      get_or-append-add (flat p n f) (g ++ d) k 0,
      flat-words p m h inner later d,
      get_or-append (words h (m + 1 + size inner) p) r 0 k l,
    )
    refl

-- the records `rest` are ahead, from record i on; `done` stand before them
pub record Ahead (bytes : ℕ) (t : List ℕ) (n to : ℕ) (o : Holds bytes t n to) (done rest : Forest) (i : ℕ) : Type 0 where
  pub split : o.acc ≡ done ⊕ rest
  pub at : i ≡ n + size done

pub ahead-all : {bytes : ℕ} {t : List ℕ} {n to : ℕ} (o : Holds bytes t n to) → Ahead bytes t n to o none o.acc n
unfolding ◌⊕◌ size
ahead-all o = record { split = refl; at = omega arith }

pub ahead_none : {bytes : ℕ} {t : List ℕ} {n to : ℕ} {o : Holds bytes t n to} {done : Forest} {i : ℕ} → Ahead bytes t n to o done none i → to ≤ i
ahead_none {o = o} {done = done} a = omega (arith, o.to, ap size a.split, size-append done none, size_none, a.at)

module _ {bytes : ℕ} {t : List ℕ} {n to : ℕ} {o : Holds bytes t n to} {done : Forest} {h : Head} {inner later : Forest} {i : ℕ}
    (a : Ahead bytes t n to o done (node h inner later) i) where
  pub ahead-word : (k : ℕ) → k < 9 → get_or t (9 * i + k) 0 ≡ get_or (words h (i + 1 + size inner) o.parent) k 0
  ahead-word k b =
      rw (o.is, a.split)
      (subst (λ j. get_or (wrote o.base o.parent n (done ⊕ node h inner later)) (9 * j + k) 0 ≡ get_or (words h (j + 1 + size inner) o.parent) k 0)
      (sym a.at) (wrote-word o.base o.parent n done h inner later (omega (arith, o.fits, o.to)) k b))

  pub ahead-end : word t i 7 ≡ i + 1 + size inner
  ahead-end = ahead-word 7 (omega arith)

  pub ahead-name : (doc : List ℕ) → part doc (word t i 1) (word t i 2) ≡ part doc h.name h.name_length
  ahead-name doc = rw (ahead-word 1 (omega arith), ahead-word 2 (omega arith)) refl

  pub ahead-below : i < to
  unfolding size
  ahead-below = omega (arith, o.to, ap size a.split, size-append done (node h inner later), a.at)

  pub ahead-next : Ahead bytes t n to o (done ⊕ node h inner none) later (i + 1 + size inner)
  unfolding ◌⊕◌ size
  ahead-next = record {
    split = a.split ∙ sym (append-append done (node h inner none) later);
    at = omega (arith, a.at, size-append done (node h inner none));
  }

-- ---- one turn of the search

module _ (doc t : List ℕ) (i to : ℕ) (name : List ℕ) where
  among_none : (fuel : ℕ) → to ≤ i → among doc t fuel i to name ≡ false
  unfolding among
  among_none zero h = refl
  among_none (suc fuel) h = rw (among, le-ltb i to h) refl

  among-hit : (fuel : ℕ) → 0 < fuel → i < to → same (part doc (word t i 1) (word t i 2)) name ≡ true → among doc t fuel i to name ≡ true
  unfolding among
  among-hit zero h l e = absurd (omega arith)
  among-hit (suc fuel) h l e = rw (among, lt-ltb i to l, e) refl

  among-miss : (fuel : ℕ) → 0 < fuel → i < to → same (part doc (word t i 1) (word t i 2)) name ≡ false
      → among doc t fuel i to name ≡ among doc t (fuel - 1) (word t i 7) to name
  unfolding among
  among-miss zero h l e = absurd (omega arith)
  among-miss (suc fuel) h l e = rw (sub-one (suc fuel), among, lt-ltb i to l, e) refl

-- the search of the words is the search of the records
module _ (doc t : List ℕ) (n to : ℕ) (o : Holds (length doc) t n to) (name : List ℕ) where
  search-from : {done : Forest} {i : ℕ} (rest : Forest) (fuel : ℕ) → Ahead (length doc) t n to o done rest i → to < fuel + i
      → among doc t fuel i to name ≡ has_name doc name rest
  unfolding has_name
  search-from {i = i} none fuel a l = among_none doc t i to name fuel (ahead_none a)
  search-from {done = done} {i = i} (node h inner later) fuel a l =
      go (same (part doc h.name h.name_length) name) refl (search-from {done = done ⊕ node h inner none} later (fuel - 1) (ahead-next a) (omega (arith, l, ahead-below a)))
    where
      here : same (part doc (word t i 1) (word t i 2)) name ≡ same (part doc h.name h.name_length) name
      here = ap (λ s. same s name) (ahead-name a doc)

      go : (b : Bool) → same (part doc h.name h.name_length) name ≡ b → among doc t (fuel - 1) (i + 1 + size inner) to name ≡ has_name doc name later
          → among doc t fuel i to name ≡ (same (part doc h.name h.name_length) name || has_name doc name later)
      go true f rest = among-hit doc t i to name fuel (omega (arith, l, ahead-below a)) (ahead-below a) (here ∙ f) ∙ sym (rw f refl)
      go false f rest =
          among-miss doc t i to name fuel (omega (arith, l, ahead-below a)) (ahead-below a) (here ∙ f)
          ∙ ap (λ k. among doc t (fuel - 1) k to name) (ahead-end a)
          ∙ rest
          ∙ sym (rw f refl)

  pub among-is : (fuel : ℕ) → to < fuel + n → among doc t fuel n to name ≡ has_name doc name o.acc
  among-is fuel l = search-from o.acc fuel (ahead-all o) l

pub names-none : (n : ℕ) → NamesIn n none
unfolding NamesIn
names-none n = tt

pub names_more : (n : ℕ) (f : Forest) (h : Head) (inner : Forest) → NamesIn n f → h.name + h.name_length ≤ n → NamesIn n (f ⊕ node h inner none)
unfolding NamesIn ◌⊕◌
names_more n none h inner w l = (l, tt)
names_more n (node g i later) h inner w l = (w.0, names_more n later h inner w.1 l)

-- ---- how far the search of the words has come

pub record Seek (doc t : List ℕ) (from to : ℕ) (name : List ℕ) (i : ℕ) : Type 0 where
  pub o : Holds (length doc) t from to
  pub done : Forest
  pub rest : Forest
  pub ahead : Ahead (length doc) t from to o done rest i
  pub names : NamesIn (length doc) rest
  pub fuel : ℕ
  pub enough : to < fuel + i
  pub is : among doc t (suc to) from to name ≡ among doc t fuel i to name

pub seek-start : (doc t : List ℕ) (from to : ℕ) (name : List ℕ) → Holds (length doc) t from to → Seek doc t from to name from
seek-start doc t from to name o =
    record { o = o; done = none; rest = o.acc; ahead = ahead-all o; names = o.names; fuel = suc to; enough = omega arith; is = refl }

-- a record is ahead where some are left
record First (bytes : ℕ) (t : List ℕ) (n to : ℕ) (o : Holds bytes t n to) (done : Forest) (i : ℕ) : Type 0 where
  pub head : Head
  pub inner : Forest
  pub later : Forest
  pub ahead : Ahead bytes t n to o done (node head inner later) i
  pub within : head.name + head.name_length ≤ bytes
  pub names : NamesIn bytes later

first_of : {bytes : ℕ} {t : List ℕ} {n to : ℕ} {o : Holds bytes t n to} {done : Forest} {i : ℕ} (rest : Forest) → Ahead bytes t n to o done rest i → i < to
    → NamesIn bytes rest → First bytes t n to o done i
unfolding NamesIn
first_of none a l w = absurd (omega (arith, ahead_none a))
first_of (node h inner later) a l w = record { head = h; inner = inner; later = later; ahead = a; within = w.0; names = w.1 }

module _ {doc t : List ℕ} {from to : ℕ} {name : List ℕ} {i : ℕ} (s : Seek doc t from to name i) where
  pub seek-end : to ≤ i → among doc t (suc to) from to name ≡ false
  seek-end h = s.is ∙ among_none doc t i to name s.fuel h

  module _ (l : i < to) where
    first : First (length doc) t from to s.o s.done i
    first = first_of s.rest s.ahead l s.names

    pub seek-within : word t i 1 + word t i 2 ≤ length doc
    seek-within = omega (arith, ahead-word first.ahead 1 (omega arith), ahead-word first.ahead 2 (omega arith), first.within)

    pub seek-on : i < word t i 7
    seek-on = omega (arith, ahead-end first.ahead)

    pub seek_hit : same (part doc (word t i 1) (word t i 2)) name ≡ true → among doc t (suc to) from to name ≡ true
    seek_hit e = s.is ∙ among-hit doc t i to name s.fuel (omega (arith, s.enough)) l e

    pub seek-next : same (part doc (word t i 1) (word t i 2)) name ≡ false → Seek doc t from to name (word t i 7)
    seek-next e = rw (ahead-end first.ahead) (record {
      o = s.o;
      done = s.done ⊕ node first.head first.inner none;
      rest = first.later;
      ahead = ahead-next first.ahead;
      names = first.names;
      fuel = s.fuel - 1;
      enough = omega (arith, s.enough);
      is = s.is
          ∙ among-miss doc t i to name s.fuel (omega (arith, s.enough)) l e
          ∙ ap (λ k. among doc t (s.fuel - 1) k to name) (ahead-end first.ahead);
    })
