-- Records judged one after the other: how far a walk has come, what one record gives, and that no sum of bytes grows too large.
-- Assumes nothing.
use Prim.Native.Nat.{ℕ, ◌+◌, ◌-◌, ◌*◌, ◌≤◌, ◌<◌}
use mathlib.Core.Bool.{Bool, true, false, not, ◌||◌}
use mathlib.Core.List.{List}
use mathlib.Core.Path.{◌≡◌, refl, sym, ap, subst, ◌∙◌}
use native.Mathlib.Omega.{arith}
use borrow.Author.Tests.{eq-eqb}
use lib.ListN.{length, length-append}
use lib.Dec.{eqb}
use Rattle.form.specs.Form.{Way}
use Rattle.form.specs.Answer.{Out, got, no, ◌>>◌}
use Rattle.form.specs.Spans.{part}
use Rattle.form.specs.Table.{Head, Forest, none, node, size, ◌⊕◌, word, holds, head_of}
use Rattle.form.specs.Tables.{Within}
use Rattle.form.specs.Reading.{has_name}
use Rattle.form.specs.Writing.{judged}
use Rattle.form.proofs.Leaves.{held-kind}
use Rattle.nbt_siblings.specs.Forests.{repeat_in}
use Rattle.form.specs.Refusals.{number_of}
use Rattle.form.specs.declared.refusals.Refused.{Refused}
use Rattle.std.specs.Prelude.{Option, None, Result, Ok, Err}
use Rattle.nbt_judging.specs.Pieces.{is_at, first_twice, own_fine, one_judged, laid, own_size}
use Rattle.nbt_judging.specs.Steps.{Rows, Some, One, Sized, JudgedIs}
use Rattle.nbt_judging.proofs.Pieces.{judged-none, judged-node, one-no, one-inner, one-leaf, one-own, own-once, own-depth, repeat-here, repeat-later, twice-entries, twice-elements}
use Rattle.nbt_judging.proofs.Bytes.{laid_none, laid-node, laid-append, own-bound, size-leaf, size-held}
use Rattle.nbt_judging.proofs.Rows.{
  Here,
  rows_split,
  rows-here,
  rows_none,
  walk-all,
  walk_more,
  here-next,
  here_on,
  here-rest,
  here-one,
  rows_head,
  rows-name,
  rows-body,
  rows-inner,
  rows-leaf,
  rows-fits,
  rows-repeat,
}

-- ---- no sum grows too large

-- A kind that holds no records is neither of the two that do.
pub other-kind : (k : ℕ) → holds k ≡ false → (k ≡ 9 → ⊥) × (k ≡ 10 → ⊥)
other-kind k e = (λ p. bad (rw (eq-eqb k 9 p) at e), λ p. worse (eqb k 9) (rw (eq-eqb k 10 p) at e))
  where
    bad : true ≡ false → ⊥
    bad z = let y : ◌≡◌ {A = ℕ} 0 1 = cc in omega arith

    worse : (a : Bool) → (a || true) ≡ false → ⊥
    worse true z = bad z
    worse false z = bad z

-- A record alone.
one-bound : (way : Way) (doc t : List ℕ) (l : Bool) (n end : ℕ) (h : Head) (inner : Forest) → length doc ≤ 16777216 → Rows doc t l n end (node h inner none)
    → length (laid way doc (eqb h.kind 9) inner) ≤ 201326600 * size inner
    → length (laid way doc l (node h inner none)) ≤ 201326600 * (1 + size inner)
one-bound way doc t l n end h inner d r i = go (holds h.kind) refl
  where
    w : h.name + h.name_length ≤ length doc
    w = rows-name doc t l n end h inner r

    b : h.start + h.size ≤ length doc
    b = rows-body doc t l n end h inner r

    go : (a : Bool) → holds h.kind ≡ a → length (laid way doc l (node h inner none)) ≤ 201326600 * (1 + size inner)
    go true e = omega (arith, size-held way doc h l inner (held-kind h.kind e), own-bound way doc h l, w, b, d, i)
    go false e =
        let k = other-kind h.kind e in
        let fits = rows-fits doc t l n end h inner r e in
        omega (arith, size-leaf way doc h l inner b fits k.0 k.1, own-bound way doc h l, w, b, d)

-- Records side by side.
bound : (way : Way) (doc t : List ℕ) (l : Bool) (n end : ℕ) (f : Forest) → length doc ≤ 16777216 → Rows doc t l n end f → length (laid way doc l f) ≤ 201326600 * size f
unfolding size
bound way doc t l n end none d r = omega (arith, ap length (laid_none way doc l))
bound way doc t l n end (node h inner later) d r =
    let s = rows_split doc t l n end h inner later r in
    let i = bound way doc t (eqb h.kind 9) (n + 1) (n + 1 + size inner) inner d (rows-inner doc t l n (n + 1 + size inner) h inner s.0) in
    let o = one-bound way doc t l n (n + 1 + size inner) h inner d s.0 i in
    omega (
      arith,
      bound way doc t l (n + 1 + size inner) end later d s.1,
      o,
      ap length (laid-node way doc l h inner later),
      length-append (laid way doc l (node h inner none)) (laid way doc l later),
    )

-- All the records of a table together take fewer than 2^48 bytes: a string that is written takes at most six times its bytes.
pub rows_bound : (way : Way) (doc t : List ℕ) (l : Bool) (n end : ℕ) (f : Forest) → Within (length doc) t → Rows doc t l n end f → length (laid way doc l f) < 281474976710656
rows_bound way doc t l n end f w r =
    let b = bound way doc t l n end f w.bytes r in
    omega (arith, r.to, r.fits, w.words)

-- ---- how far a walk over records side by side has come

-- The records so far are done, those left are judged as the whole is, and the first repeat is still to come.
pub record Walk (way : Way) (doc t : List ℕ) (left : ℕ) (list : Bool) (k n end : ℕ) (found : Option ℕ) (f : Forest) (i total : ℕ) : Type 0 where
  pub done : Forest
  pub rest : Forest
  pub split : f ≡ done ⊕ rest
  pub rows : Rows doc t list i end rest
  pub is : judged way doc left list k none n f ≡ judged way doc left list k done i rest
  pub total-is : total ≡ length (laid way doc list done)
  pub none_is : list ≡ true → found ≡ None
  pub repeat-is : list ≡ false → repeat_in doc i done rest ≡ found

-- Whether the record is the first repeat decides its name's test.
twice-is : (doc : List ℕ) (list : Bool) (i : ℕ) (seen : Forest) (h : Head) (inner later : Forest) (found : Option ℕ)
    → (list ≡ true → found ≡ None) → (list ≡ false → repeat_in doc i seen (node h inner later) ≡ found)
    → not (is_at found i) ≡ (list || not (has_name doc (part doc h.name h.name_length) seen))
twice-is doc true i seen h inner later found a b = ap (λ x. not (is_at x i)) (a refl)
twice-is doc false i seen h inner later found a b = ap not (repeat-here doc i seen h inner later found (b refl))

module _ (way : Way) (doc t : List ℕ) (left : ℕ) (list : Bool) (k n end : ℕ) where
  -- At the start nothing is done.
  pub walk_start : (p : Some doc t list n end) {found : Option ℕ} → found ≡ first_twice doc t n end list → Walk way doc t left list k n end found p.forest n 0
  unfolding ◌⊕◌
  walk_start p e = record {
    done = none;
    rest = p.forest;
    split = refl;
    rows = p.rows;
    is = refl;
    total-is = sym (ap length (laid_none way doc list));
    none_is = λ l. e ∙ twice-elements doc t n end list l;
    repeat-is = λ l. sym (rows-repeat doc t list n end p.forest p.rows) ∙ sym (twice-entries doc t n end list l) ∙ sym e;
  }

  module _ {found : Option ℕ} {f : Forest} {i total : ℕ} (w : Walk way doc t left list k n end found f i total) where
    -- What is done is a part of the whole.
    pub walk-le : total ≤ length (laid way doc list f)
    walk-le =
        let whole = ap (laid way doc list) w.split ∙ laid-append way doc list w.done w.rest in
        omega (arith, w.total-is, ap length whole, length-append (laid way doc list w.done) (laid way doc list w.rest))

    -- At the end all are done.
    pub walk_end : end ≤ i → Sized (judged way doc left list k none n f) (laid way doc list f) (Ok total)
    walk_end l =
        let z : w.rest ≡ none = rows_none doc t list i end w.rest w.rows l in (
          w.is ∙ ap (judged way doc left list k w.done i) z ∙ judged-none way doc left list k w.done i,
          w.total-is ∙ ap (λ g. length (laid way doc list g)) (sym (walk-all w.done w.split w.rows l)),
        )

    module _ (l : i < end) where
      -- The first of those left.
      here : Here doc t list i end w.rest
      here = rows-here doc t list i end w.rest w.rows l

      -- It alone, with those in it.
      abbrev one : Forest
      one = node here.head here.inner none

      -- Among entries the repeat that was found is the first from here on.
      found-is : list ≡ false → repeat_in doc i w.done (node here.head here.inner here.later) ≡ found
      found-is e = ap (repeat_in doc i w.done) (sym here.is) ∙ w.repeat-is e

      -- The records left are judged by the next one, then by those after it.
      unrolled : judged way doc left list k none n f
          ≡ (one_judged way doc left list k (is_at found i) i here.head here.inner >> judged way doc left list k (w.done ⊕ one) (i + 1 + size here.inner) here.later)
      unrolled =
          w.is
          ∙ ap (judged way doc left list k w.done i) here.is
          ∙ judged-node way doc left list k w.done i here.head here.inner here.later (is_at found i)
          (twice-is doc list i w.done here.head here.inner here.later found w.none_is found-is)

      -- Where it is not the first repeat, the first repeat stands among those after it.
      found-later : is_at found i ≡ false → list ≡ false → repeat_in doc (i + 1 + size here.inner) (w.done ⊕ one) here.later ≡ found
      found-later once e =
          let r = found-is e in
          let new = sym (repeat-here doc i w.done here.head here.inner here.later found r) ∙ once in
          repeat-later doc i w.done here.head here.inner here.later found r new

      module _ {t' : List ℕ} (same : t' ≡ t) {next : ℕ} (e : next ≡ word t' i 7) where
        -- The next record comes after this one, and no later than the end.
        pub walk-on : (i < next) × (next ≤ end)
        walk-on = here_on here same e

        -- This one stands in the table.
        pub walk-one : Within (length doc) t → One doc t' list i next
        walk-one = here-one here same e

        module _ (s : Within (length doc) t) {twice : Bool} (q : twice ≡ is_at found i) (r : Result ℕ Refused)
            (told : (o : One doc t' list i next) → Sized (one_judged way doc left list k twice i o.head o.inner) (laid way doc list (node o.head o.inner none)) r) where
          -- It is refused, and so are all.
          pub walk_no : {x : Refused} → r ≡ Err x → judged way doc left list k none n f ≡ no (number_of x.refusal) x.place
          unfolding walk-one
          walk_no {x} g =
              let z = told (walk-one s) in
              let y : one_judged way doc left list k (is_at found i) i here.head here.inner ≡ no (number_of x.refusal) x.place = rw (g, q) at z in
              unrolled ∙ rw y refl

          -- It passes, and takes so many bytes.
          pub walk-next : {size : ℕ} → r ≡ Ok size → Walk way doc t left list k n end found f next (total + size)
          unfolding walk-one
          walk-next g =
              let x = rw (g, q) at (told (walk-one s)) in
              let own = one-own way doc left list k i here.head (is_at found i) here.inner x.0 in
              let once = own-once way doc left list k i here.head (is_at found i) own in
              let more = laid-append way doc list w.done one in
              record {
                done = w.done ⊕ one;
                rest = here.later;
                split = walk_more w.done w.split here;
                rows = here-rest here same e;
                is = unrolled ∙ rw (x.0, here-next here same e) refl;
                total-is = omega (arith, w.total-is, x.1, ap length more, length-append (laid way doc list w.done) (laid way doc list one));
                none_is = w.none_is;
                repeat-is = λ y. rw (here-next here same e) (found-later once y);
              }

-- What a walk over the table found is the answer for the table that was lent, which is the same.
pub judged-same : (way : Way) → {doc t t₀ t' : List ℕ} (left : ℕ) {list : Bool} (k : ℕ) {n end : ℕ} (r : Result ℕ Refused) → t ≡ t₀
    → ((p : Some doc t list n end) → Sized (judged way doc left list k none n p.forest) (laid way doc list p.forest) r)
    → t' ≡ t₀ → JudgedIs way doc t₀ left list k n end r t'
judged-same way {doc} left {list} k {n} {end} r e told same =
    (subst (λ x. (p : Some doc x list n end) → Sized (judged way doc left list k none n p.forest) (laid way doc list p.forest) r) e told, same)

-- ---- one record

module _ (doc t : List ℕ) (list : Bool) (n end : ℕ) (o : One doc t list n end) where
  -- The words are those of the head.
  pub head_is : head_of t n ≡ o.head
  head_is = rows_head doc t list n end o.head o.inner o.rows

  -- So it holds records where they say so.
  holds-is : {b : Bool} → holds (word t n 0) ≡ b → holds o.head.kind ≡ b
  holds-is e = ap (λ h. holds h.kind) (sym head_is) ∙ e

  -- The records in it stand in the table.
  pub inner-rows : Rows doc t (eqb o.head.kind 9) (n + 1) end o.inner
  inner-rows = rows-inner doc t list n end o.head o.inner o.rows

  -- Its size by its words is its size.
  size_is : (way : Way) → {s : ℕ} → s ≡ own_size way doc list (head_of t n) → s ≡ own_size way doc list o.head
  size_is way e = e ∙ ap (own_size way doc list) head_is

  -- Its own bytes, where no records are in it.
  size-bare : (way : Way) → o.inner ≡ none → length (laid way doc list (node o.head o.inner none)) ≡ own_size way doc list o.head
  size-bare way z = go (holds o.head.kind) refl
    where
      body : o.head.start + o.head.size ≤ length doc
      body = rows-body doc t list n end o.head o.inner o.rows

      go : (a : Bool) → holds o.head.kind ≡ a → length (laid way doc list (node o.head o.inner none)) ≡ own_size way doc list o.head
      go true e =
          let list' = eqb o.head.kind 9 in
          let nothing = ap (laid way doc list') z ∙ laid_none way doc list' in
          omega (arith, size-held way doc o.head list o.inner (held-kind o.head.kind e), ap length nothing)
      go false e =
          let other = other-kind o.head.kind e in
          let fits = rows-fits doc t list n end o.head o.inner o.rows e in
          size-leaf way doc o.head list o.inner body fits other.0 other.1

  -- Where it does not end right after itself, it holds records.
  pub one_holds : (end ≡ n + 1 → ⊥) → holds (word t n 0) ≡ true
  unfolding size
  one_holds q = go (holds (word t n 0)) refl
    where
      go : (b : Bool) → holds (word t n 0) ≡ b → holds (word t n 0) ≡ true
      go true e = e
      go false e =
          let bare = rows-leaf doc t list n end o.head o.inner o.rows (holds-is e) in
          absurd (q (omega (arith, inner-rows.to, ap size bare)))

  -- The records in it.
  abbrev pub one-some : {b : Bool} → b ≡ eqb (word t n 0) 9 → Some doc t b (n + 1) end
  one-some bi = record {
    small = o.small;
    forest = o.inner;
    rows = subst (λ x. Rows doc t x (n + 1) end o.inner) (sym (bi ∙ ap (λ h. eqb h.kind 9) head_is)) inner-rows;
  }

  module _ (way : Way) (left k : ℕ) (twice : Bool) where
    -- What is said of the words is said of the head.
    fine-is : {x : Out (Unit {0})} → own_fine way doc left list k twice n (head_of t n) ≡ x → own_fine way doc left list k twice n o.head ≡ x
    fine-is e = ap (own_fine way doc left list k twice n) (sym head_is) ∙ e

    -- It is refused by itself.
    pub one-refused : {m p : ℕ} → own_fine way doc left list k twice n (head_of t n) ≡ no m p → one_judged way doc left list k twice n o.head o.inner ≡ no m p
    one-refused e = one-no way doc left list k n o.head twice o.inner (fine-is e)

    module _ (fine : own_fine way doc left list k twice n (head_of t n) ≡ got tt) where
      -- It is not too deep.
      pub one-depth : holds (word t n 0) ≡ true → 0 < left
      one-depth e = own-depth way doc left list k n (head_of t n) twice fine e

      module _ {own : ℕ} (is : own ≡ own_size way doc list (head_of t n)) where
        -- No records are in it.
        pub one-bare : end ≡ n + 1 → Sized (one_judged way doc left list k twice n o.head o.inner) (laid way doc list (node o.head o.inner none)) (Ok own)
        one-bare q =
            let bare = rows_none doc t _ (n + 1) end o.inner inner-rows (omega arith) in
            (one-leaf way doc left list k n o.head twice o.inner (fine-is fine) bare, size_is way is ∙ sym (size-bare way bare))

        module _ {b : Bool} (bi : b ≡ eqb (word t n 0) 9) {j : ℕ} (ji : j ≡ word t n 6) (r : Result ℕ Refused)
            (told : (p : Some doc t b (n + 1) end) → Sized (judged way doc (left - 1) b j none (n + 1) p.forest) (laid way doc b p.forest) r) where
          -- What is said of the records in it.
          abbrev Inside : Head → Type 0
          Inside h = Sized (judged way doc (left - 1) (eqb h.kind 9) h.list_kind none (n + 1) o.inner) (laid way doc (eqb h.kind 9) o.inner) r

          inside : Inside o.head
          inside = subst Inside head_is (rw (← bi, ← ji) (told (one-some bi)))

          -- One of them is refused.
          pub one-within : {x : Refused} → r ≡ Err x → one_judged way doc left list k twice n o.head o.inner ≡ no (number_of x.refusal) x.place
          one-within g = one-inner way doc left list k n o.head twice o.inner (fine-is fine) ∙ (rw g at inside)

          -- They pass, and take so many bytes.
          pub one-whole : holds (word t n 0) ≡ true → {s : ℕ} → r ≡ Ok s
              → Sized (one_judged way doc left list k twice n o.head o.inner) (laid way doc list (node o.head o.inner none)) (Ok (own + s))
          one-whole e g =
              let x = rw g at inside in
              let held = held-kind o.head.kind (holds-is e) in (
                one-inner way doc left list k n o.head twice o.inner (fine-is fine) ∙ x.0,
                omega (arith, size_is way is, x.1, size-held way doc o.head list o.inner held),
              )
