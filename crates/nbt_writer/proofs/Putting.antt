-- Records written one after the other: how far a walk has come, and what one record gives.
-- Assumes nothing.
use Prim.Native.Nat.{ℕ, ◌+◌, ◌≤◌, ◌<◌}
use mathlib.Core.Bool.{Bool, true, false}
use mathlib.Core.List.{List, ◌++◌}
use mathlib.Core.Path.{◌≡◌, refl, sym, ap, subst, ◌∙◌}
use native.Mathlib.Omega.{arith}
use borrow.Author.Tests.{eq-eqb, ne_eqb}
use lib.ListN.{length, length-append}
use lib.Dec.{eqb}
use Rattle.form.specs.Form.{Way, big}
use Rattle.form.specs.Numbers.{bytes_of}
use Rattle.form.specs.Spans.{over}
use Rattle.form.specs.Table.{Head, Forest, none, node, ◌⊕◌, word, head_of}
use Rattle.form.specs.Tables.{Within}
use Rattle.form.proofs.Digits.{digits-length}
use Rattle.nbt_judging.specs.Pieces.{name_bytes, list_bytes, leaf_bytes, body_bytes, laid}
use Rattle.nbt_judging.specs.Steps.{Rows}
use Rattle.recode.specs.Steps.{Puts}
use Rattle.nbt_writer.specs.Steps.{SomeRoom, OneRoom}
use Rattle.recode.proofs.Outputs.{puts_none}
use Rattle.nbt_writer.proofs.Puts.{puts-number, puts-same, puts-length, puts_then}
use Rattle.nbt_judging.proofs.Bytes.{laid_none, laid_one, laid-node, laid-append, list_length, body-list, body-compound, body-leaf}
use Rattle.nbt_judging.proofs.Rows.{Here, rows-here, walk-all, walk_more, here_on, here-rest, here-one, rows_head, rows-inner}

-- ---- how far a walk over records side by side has come

-- The bytes of the records so far are written, and there is room for those left.
pub record Course (way : Way) (doc t : List ℕ) (list : Bool) (end : ℕ) (f : Forest) (o : List ℕ) (at : ℕ) (o₁ : List ℕ) (i here : ℕ) : Type 0 where
  pub done : Forest
  pub rest : Forest
  pub split : f ≡ done ⊕ rest
  pub rows : Rows doc t list i end rest
  pub puts : Puts (laid way doc list done) o at o₁ here
  pub room : at + length (laid way doc list done) + length (laid way doc list rest) ≤ length o

module _ (way : Way) (doc t : List ℕ) (list : Bool) (end : ℕ) (o : List ℕ) (at : ℕ) where
  -- At the start nothing is done.
  pub course-start : {n : ℕ} (p : SomeRoom way doc t list n end o at) → Course way doc t list end p.some.forest o at o n at
  unfolding ◌⊕◌
  course-start p =
      let r = p.room in
      record {
        done = none;
        rest = p.some.forest;
        split = refl;
        rows = p.some.rows;
        puts = rw (laid_none way doc list) (puts_none o at);
        room = omega (arith, ap length (laid_none way doc list));
      }

  module _ {f : Forest} {o₁ : List ℕ} {i here : ℕ} (w : Course way doc t list end f o at o₁ i here) where
    -- The output is as long as it was.
    pub course-length : length o₁ ≡ length o
    course-length = let r = w.room in puts-length w.puts (omega arith)

    -- At the end all are done.
    pub course-end : end ≤ i → Puts (laid way doc list f) o at o₁ here
    course-end l =
        subst (λ g. Puts (laid way doc list g) o at o₁ here) (sym (walk-all w.done w.split w.rows l)) w.puts

    module _ (l : i < end) where
      -- The first of those left.
      first : Here doc t list i end w.rest
      first = rows-here doc t list i end w.rest w.rows l

      -- It alone, with those in it.
      abbrev one : Forest
      one = node first.head first.inner none

      -- The bytes left are its own and those after it.
      parted : length (laid way doc list w.rest) ≡ length (laid way doc list one) + length (laid way doc list first.later)
      parted =
          ap (λ g. length (laid way doc list g)) first.is
          ∙ ap length (laid-node way doc list first.head first.inner first.later)
          ∙ length-append (laid way doc list one) (laid way doc list first.later)

      module _ {next : ℕ} (e : next ≡ word t i 7) where
        -- The next record comes after this one, and no later than the end.
        pub course-on : (i < next) × (next ≤ end)
        course-on = here_on first refl e

        -- There is room for this one.
        pub course-one : Within (length doc) t → OneRoom way doc t list i next o₁ here
        course-one s = record { one = here-one first refl e s; room = omega (arith, course-length, w.puts.next, w.room, parted) }

        -- It is written.
        pub course-next : (s : Within (length doc) t) {o₂ : List ℕ} {there : ℕ}
            → ((p : OneRoom way doc t list i next o₁ here) → Puts (laid way doc list (node p.one.head p.one.inner none)) o₁ here o₂ there)
            → Course way doc t list end f o at o₂ next there
        unfolding course-one
        course-next s told =
            let more = laid-append way doc list w.done one in
            let b = w.room in
            record {
              done = w.done ⊕ one;
              rest = first.later;
              split = walk_more w.done w.split first;
              rows = here-rest first refl e;
              puts = rw more (puts_then w.puts (omega arith) (told (course-one s)));
              room = omega (arith, parted, ap length more, length-append (laid way doc list w.done) (laid way doc list one));
            }

-- ---- one record

module _ (way : Way) (doc t : List ℕ) (list : Bool) (n end : ℕ) (o : List ℕ) (at : ℕ) (p : OneRoom way doc t list n end o at) where
  -- The record.
  abbrev pub h : Head
  h = p.one.head

  -- The records in it.
  abbrev pub inner : Forest
  inner = p.one.inner

  -- Its words are those of the head.
  head : head_of t n ≡ h
  head = rows_head doc t list n end h inner p.one.rows

  -- The bytes before its payload.
  name : List ℕ
  name = name_bytes way doc list h

  -- Its head has the kind that its words have.
  pub kind_is : {k : ℕ} → word t n 0 ≡ k → h.kind ≡ k
  kind_is e = ap (λ x. x.kind) (sym head) ∙ e

  -- The records in it stand in the table.
  pub held_rows : {b : Bool} → eqb h.kind 9 ≡ b → Rows doc t b (n + 1) end inner
  held_rows e = subst (λ x. Rows doc t x (n + 1) end inner) e (rows-inner doc t list n end h inner p.one.rows)

  -- Its payload.
  body : List ℕ
  body = body_bytes way doc h (laid way doc (eqb h.kind 9) inner)

  -- Together they are all.
  whole : length (laid way doc list (node h inner none)) ≡ length name + length body
  unfolding name body
  whole = ap length (laid_one way doc list h inner) ∙ length-append (name_bytes way doc list h) (body_bytes way doc h (laid way doc (eqb h.kind 9) inner))

  -- There is room for its name.
  pub name-room : at + length (name_bytes way doc list (head_of t n)) ≤ length o
  unfolding name
  name-room = rw head (omega (arith, p.room, whole))

  module _ {o₁ : List ℕ} {from : ℕ} (a : Puts (name_bytes way doc list (head_of t n)) o at o₁ from) where
    -- The name is written.
    named : Puts name o at o₁ from
    unfolding name
    named = rw head at a

    -- It fits.
    name-fits : at + length name ≤ length o
    name-fits = omega (arith, p.room, whole)

    -- The output is as long as it was.
    long : length o₁ ≡ length o
    long = puts-length named name-fits

    -- There is room for the payload.
    left : from + length body ≤ length o₁
    left = omega (arith, long, named.next, p.room, whole)

    -- The name and the payload make the record.
    joined : {bs : List ℕ} {o₂ : List ℕ} {r : ℕ} → body ≡ bs → Puts bs o₁ from o₂ r → Puts (laid way doc list (node h inner none)) o at o₂ r
    unfolding name body
    joined e b = rw (laid_one way doc list h inner) (puts_then named name-fits (rw e b))

    -- A leaf.
    module _ (e : word t n 0 ≡ 9 → ⊥) (f : word t n 0 ≡ 10 → ⊥) where
      -- Its payload is a leaf's.
      leaf : body ≡ leaf_bytes way doc h
      unfolding body
      leaf = body-leaf way doc h _ (λ q. e (ap (λ x. x.kind) head ∙ q)) (λ q. f (ap (λ x. x.kind) head ∙ q))

      -- There is room for it.
      pub leaf_room : from + length (leaf_bytes way doc (head_of t n)) ≤ length o₁
      leaf_room = omega (arith, left, ap length leaf, ap (λ x. length (leaf_bytes way doc x)) head)

      -- It is written.
      pub put-leaf : {o₂ : List ℕ} {r : ℕ} → Puts (leaf_bytes way doc (head_of t n)) o₁ from o₂ r → Puts (laid way doc list (node h inner none)) o at o₂ r
      put-leaf b = joined leaf (puts-same (ap (leaf_bytes way doc) head) b)

    -- A list: its id and count, then the elements.
    module _ (e : word t n 0 ≡ 9) where
      -- Its payload is a head and elements.
      listed : body ≡ list_bytes way h ++ laid way doc true inner
      unfolding body
      listed = body-list way doc h _ (kind_is e) ∙ ap (λ b. list_bytes way h ++ laid way doc b inner) (eq-eqb h.kind 9 (kind_is e))

      -- There is room for the head.
      pub list-room : from + 5 ≤ length o₁
      list-room = omega (arith, left, ap length listed, length-append (list_bytes way h) (laid way doc true inner), list_length way h)

      module _ {o₂ : List ℕ} {first : ℕ} (b : Puts (list_bytes way (head_of t n)) o₁ from o₂ first) where
        -- The head is written.
        started : Puts (list_bytes way h) o₁ from o₂ first
        started = rw head at b

        -- It fits.
        list-fits : from + length (list_bytes way h) ≤ length o₁
        list-fits = omega (arith, list_length way h, list-room)

        -- There is room for the elements.
        pub elements-fit : first + length (laid way doc true inner) ≤ length o₂
        elements-fit = omega (arith, left, ap length listed, length-append (list_bytes way h) (laid way doc true inner), started.next, puts-length started list-fits)

        -- So they may be written.
        abbrev pub list-some : SomeRoom way doc t true (n + 1) end o₂ first
        list-some = record {
          some = record { small = p.one.small; forest = inner; rows = held_rows (eq-eqb h.kind 9 (kind_is e)) };
          room = elements-fit;
        }

        -- They are written.
        pub put-list : {o₃ : List ℕ} {r : ℕ} → ((q : SomeRoom way doc t true (n + 1) end o₂ first) → Puts (laid way doc true q.some.forest) o₂ first o₃ r)
            → Puts (laid way doc list (node h inner none)) o at o₃ r
        put-list told = joined listed (puts_then started list-fits (told list-some))

    -- A compound: the entries, then the end byte.
    module _ (e : word t n 0 ≡ 10) where
      -- So it is no list.
      pub no-list : eqb h.kind 9 ≡ false
      no-list = ne_eqb h.kind 9 (λ q. omega (arith, kind_is e))

      -- Its payload is entries and an end byte.
      entered : body ≡ laid way doc false inner ++ bytes_of 1 0
      unfolding body
      entered = body-compound way doc h _ (kind_is e) ∙ ap (λ b. laid way doc b inner ++ bytes_of 1 0) no-list

      -- There is room for them.
      pub entries_fit : from + length (laid way doc false inner) + 1 ≤ length o₁
      entries_fit = omega (arith, left, ap length entered, length-append (laid way doc false inner) (bytes_of 1 0), digits-length 1 0)

      -- So they may be written.
      abbrev pub compound-some : SomeRoom way doc t false (n + 1) end o₁ from
      compound-some = record {
        some = record { small = p.one.small; forest = inner; rows = held_rows no-list };
        room = omega (arith, entries_fit);
      }

      module _ {o₂ : List ℕ} {last : ℕ} (told : (q : SomeRoom way doc t false (n + 1) end o₁ from) → Puts (laid way doc false q.some.forest) o₁ from o₂ last) where
        -- There is room for the end byte.
        pub end-room : last + 1 ≤ length o₂
        end-room = let b = told compound-some in omega (arith, entries_fit, b.next, puts-length b (omega (arith, entries_fit)))

        -- They are written, and the end byte.
        pub put-compound : {o₃ : List ℕ} → o₃ ≡ over o₂ last (bytes_of 1 0) → Puts (laid way doc list (node h inner none)) o at o₃ (last + 1)
        put-compound g = joined entered (puts_then (told compound-some) (omega (arith, entries_fit)) (puts-number big 1 0 (last + 1) refl refl g))
