-- A reader that has written records side by side meets what `first_repeat` requires, and its answer is that on the tree.
-- Assumes nothing.
use Prim.Native.Nat.{ℕ, ◌+◌, ◌-◌, ◌*◌, ◌≤◌, ◌<◌}
use mathlib.Core.Bool.{Bool, true, false, ◌||◌}
use mathlib.Core.List.{List, [], ◌∷◌}
use mathlib.Core.Path.{◌≡◌, refl, sym, ap, subst, ◌∙◌}
use native.Mathlib.Omega.{arith}
use lib.ListN.{length, get_or}
use Rattle.form.specs.Answer.{no}
use Rattle.form.specs.Table.{Head, Forest, none, node, size, ◌⊕◌, word, holds}
use Rattle.form.specs.Spans.{same, part}
use Rattle.form.specs.Reading.{has_name}
use Rattle.nbt_siblings.specs.Holding.{NamesIn, Holds}
use Rattle.nbt_siblings.proofs.Holding.{Ahead, ahead-all, ahead_none, ahead-word, ahead-end, ahead-name, ahead-below, ahead-next}
use Rattle.std.specs.Prelude.{Some, None}
use Rattle.nbt_siblings.specs.Names.{name_of, end_of, siblings, among, first_from, first_repeat}
use Rattle.nbt_siblings.specs.Links.{slot_of, link, Mem}
use Rattle.nbt_siblings.specs.Lists.{Family}
use Rattle.nbt_siblings.specs.Forests.{spare, Free, repeat_in, names_once, refusal_of, place_out}
use Rattle.nbt_siblings.proofs.Walks.{mem-cases, mem-none}
use Rattle.nbt_siblings.proofs.Rows.{siblings-on, siblings-none}
use Rattle.form.proofs.Picks.{or_assoc}

-- the numbers of records side by side
unfoldable numbers : ℕ → Forest → List ℕ
numbers i none = []
numbers i (node h inner later) = i ∷ numbers (i + 1 + size inner) later

or_comm : (a b : Bool) → (a || b) ≡ (b || a)
or_comm true true = refl
or_comm true false = refl
or_comm false true = refl
or_comm false false = refl

or-false : (a : Bool) → (a || false) ≡ a
or-false true = refl
or-false false = refl

has_more : (doc n : List ℕ) (f : Forest) (h : Head) (inner : Forest)
    → has_name doc n (f ⊕ node h inner none) ≡ (has_name doc n f || same (part doc h.name h.name_length) n)
unfolding has_name ◌⊕◌
has_more doc n none h inner = or-false (same (part doc h.name h.name_length) n)
has_more doc n (node g i later) h inner =
    ap (λ b. same (part doc g.name g.name_length) n || b) (has_more doc n later h inner)
    ∙ sym (or_assoc (same (part doc g.name g.name_length) n) (has_name doc n later) (same (part doc h.name h.name_length) n))

-- what each of the records has
record Known (doc t : List ℕ) (stop z : ℕ) : Type 0 where
  pub below : z < stop
  pub within : word t z 1 + word t z 2 ≤ length doc
  pub on : z < end_of t z
  pub free : link t z ≡ 0

module _ (doc t : List ℕ) (first stop : ℕ) (o : Holds (length doc) t first stop) where
  module _ {done : Forest} {h : Head} {inner later : Forest} {i : ℕ} (a : Ahead (length doc) t first stop o done (node h inner later) i) where
    free-link : spare h ≡ 0 → link t i ≡ 0
    unfolding link slot_of
    free-link z = rw (slot_of, kind_is) (go (holds h.kind) z)
      where
        kind_is : get_or t (9 * i) 0 ≡ h.kind
        kind_is = ap (λ p. get_or t p 0) (let q : 9 * i ≡ 9 * i + 0 = omega arith in q) ∙ ahead-word a 0 (omega arith)

        go : (b : Bool) → ◌≡◌ {A = ℕ} (elim b [ true ↦ h.start | false ↦ h.list_kind ]) 0 → get_or t (elim b [ true ↦ 9 * i + 3 | false ↦ 9 * i + 6 ]) 0 ≡ 0
        go true q = ahead-word a 3 (omega arith) ∙ q
        go false q = ahead-word a 6 (omega arith) ∙ q

    known : h.name + h.name_length ≤ length doc → spare h ≡ 0 → Known doc t stop i
    known w z = record {
      below = ahead-below a;
      within = omega (arith, ahead-word a 1 (omega arith), ahead-word a 2 (omega arith), w);
      on = omega (arith, ahead-end a);
      free = free-link z;
    }

    name-is : name_of doc t i ≡ part doc h.name h.name_length
    unfolding name_of
    name-is = ahead-name a doc

  siblings-are : {done : Forest} {i : ℕ} (rest : Forest) (fuel : ℕ) → Ahead (length doc) t first stop o done rest i → stop ≤ fuel + i
      → siblings t stop fuel i ≡ numbers i rest
  unfolding numbers
  siblings-are {i = i} none fuel a l = siblings-none t stop fuel i (ahead_none a)
  siblings-are {done = done} {i = i} (node h inner later) fuel a l =
      let b = ahead-below a in
      siblings-on t stop fuel i (omega (arith, b, l)) b
      ∙ ap (λ k. i ∷ siblings t stop (fuel - 1) k) (ahead-end a)
      ∙ ap (λ r. i ∷ r) (siblings-are {done = done ⊕ node h inner none} later (fuel - 1) (ahead-next a) (omega (arith, b, l)))

  all : siblings t stop stop first ≡ numbers first o.acc
  all = siblings-are o.acc stop (ahead-all o) (omega arith)

  each : {done : Forest} {i : ℕ} (rest : Forest) → Ahead (length doc) t first stop o done rest i → NamesIn (length doc) rest → Free rest
      → (z : ℕ) → Mem z (numbers i rest) → Known doc t stop z
  unfolding numbers NamesIn Free
  each none a n r z m = absurd (mem-none z m)
  each {done = done} {i = i} (node h inner later) a n r z m =
      mem-cases (Known doc t stop z) z i (numbers (i + 1 + size inner) later) (λ q. subst (λ k. Known doc t stop k) (sym q) (known a n.0 r.0))
      (each {done = done ⊕ node h inner none} later (ahead-next a) n.1 r.1 z) m

  -- the requires of `first_repeat`
  pub family-of : Free o.acc → stop < 4294967296 → 9 * stop ≤ length t → Family doc t first stop
  family-of r u v = record {
    small = u;
    fit = λ z m. let k = every z m in record { room = omega (arith, k.below, v); within = k.within; small = omega (arith, k.below, u) };
    on = λ z m. (every z m).on;
    free = λ z m. (every z m).free;
  }
    where
      every : (z : ℕ) → Mem z (siblings t stop stop first) → Known doc t stop z
      every z m = each o.acc (ahead-all o) o.names r z (subst (λ l. Mem z l) all m)

  answers : {done : Forest} {i : ℕ} (rest : Forest) (seen : List ℕ) → Ahead (length doc) t first stop o done rest i
      → ((n : List ℕ) → among (name_of doc t) n seen ≡ has_name doc n done) → first_from (name_of doc t) seen (numbers i rest) ≡ repeat_in doc i done rest
  unfolding numbers first_from repeat_in among
  answers none seen a has = refl
  answers {done = done} {i = i} (node h inner later) seen a has =
      go (has_name doc (part doc h.name h.name_length) done) refl
      (answers {done = done ⊕ node h inner none} later (i ∷ seen) (ahead-next a)
      (λ n. ap (λ b. same b n || among (name_of doc t) n seen) (name-is a)
      ∙ ap (λ b. same (part doc h.name h.name_length) n || b) (has n)
      ∙ or_comm (same (part doc h.name h.name_length) n) (has_name doc n done)
      ∙ sym (has_more doc n done h inner)))
    where
      here : among (name_of doc t) (name_of doc t i) seen ≡ has_name doc (part doc h.name h.name_length) done
      here = has (name_of doc t i) ∙ ap (λ n. has_name doc n done) (name-is a)

      go : (b : Bool) → has_name doc (part doc h.name h.name_length) done ≡ b
          → first_from (name_of doc t) (i ∷ seen) (numbers (i + 1 + size inner) later) ≡ repeat_in doc (i + 1 + size inner) (done ⊕ node h inner none) later
          → first_from (name_of doc t) seen (i ∷ numbers (i + 1 + size inner) later) ≡ repeat_in doc i done (node h inner later)
      go true q r = rw (first_from, repeat_in, here, q) refl
      go false q r = rw (first_from, repeat_in, here, q) r

  -- its answer
  pub repeat-of : first_repeat doc t first stop ≡ repeat_in doc first none o.acc
  unfolding first_repeat among has_name
  repeat-of = ap (first_from (name_of doc t) []) all ∙ answers o.acc [] (ahead-all o) (λ n. refl)

  once : {done : Forest} {i : ℕ} (rest : Forest) → Ahead (length doc) t first stop o done rest i → names_once doc done rest ≡ refusal_of t (repeat_in doc i done rest)
  unfolding names_once repeat_in
  once none a = refl
  once {done = done} {i = i} (node h inner later) a = go (has_name doc (part doc h.name h.name_length) done) refl (once {done = done ⊕ node h inner none} later (ahead-next a))
    where
      go : (b : Bool) → has_name doc (part doc h.name h.name_length) done ≡ b
          → names_once doc (done ⊕ node h inner none) later ≡ refusal_of t (repeat_in doc (i + 1 + size inner) (done ⊕ node h inner none) later)
          → names_once doc done (node h inner later) ≡ refusal_of t (repeat_in doc i done (node h inner later))
      go true q r = rw (names_once, repeat_in, q) (ap (λ k. no 6 (k - 3)) (sym (ahead-word a 1 (omega arith))))
      go false q r = rw (names_once, repeat_in, q) r

  -- whether names are told apart, by `first_repeat`
  pub once-of : names_once doc none o.acc ≡ refusal_of t (first_repeat doc t first stop)
  once-of = once o.acc (ahead-all o) ∙ ap (refusal_of t) (sym repeat-of)

-- the place that the code answers
pub place_is : (doc t t' : List ℕ) (first stop k w r : ℕ) → first_repeat doc t first stop ≡ Some k → t' ≡ t → w ≡ get_or t' (9 * k + 1) 0 → r ≡ w - 3
    → place_out (Some r) ≡ refusal_of t (first_repeat doc t first stop)
place_is doc t t' first stop k w r e f g h = rw e (ap (λ x. no 6 x) (h ∙ ap (λ x. x - 3) (g ∙ ap (λ l. get_or l (9 * k + 1) 0) f)))

pub place_none : (doc t : List ℕ) (first stop : ℕ) → first_repeat doc t first stop ≡ None → place_out None ≡ refusal_of t (first_repeat doc t first stop)
place_none doc t first stop e = rw e refl
