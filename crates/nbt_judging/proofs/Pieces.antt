-- The pieces of the judgement, each way through them a law, and put together: they are `judged`.
-- Assumes nothing.
use Prim.Native.Nat.{ℕ, ◌+◌, ◌-◌, ◌≤◌, ◌<◌}
use mathlib.Core.Bool.{Bool, true, false, not, ◌||◌}
use mathlib.Core.List.{List}
use mathlib.Core.Path.{◌≡◌, refl, sym, ◌∙◌}
use native.Mathlib.Omega.{arith}
use borrow.Author.Tests.{ltb-true, eq-eqb, ne_eqb}
use lib.Dec.{ltb, eqb}
use Rattle.form.specs.Form.{Way}
use Rattle.form.specs.Answer.{Out, got, no, guard, ◌>>◌, name_twice, too_deep, mixed_list}
use Rattle.form.specs.Spans.{part}
use Rattle.form.specs.Table.{Head, Forest, none, node, size, ◌⊕◌, holds}
use Rattle.form.specs.Reading.{has_name}
use Rattle.form.specs.Writing.{string_fine, payload_fine, judged}
use Rattle.form.proofs.Answer.{got-no}
use Rattle.std.specs.Prelude.{Option, Some, None}
use Rattle.nbt_siblings.specs.Names.{first_repeat}
use Rattle.nbt_siblings.specs.Forests.{repeat_in}
use Rattle.nbt_judging.specs.Pieces.{deep, mixed, is_at, first_twice, rest_fine, own_fine, one_judged}

-- ---- one record

module _ (way : Way) (doc : List ℕ) (left : ℕ) (list : Bool) (k n : ℕ) (h : Head) where
  -- A container too deep (7).
  pub rest-deep : deep h.kind left ≡ true → rest_fine way doc left list k n h ≡ no too_deep n
  unfolding rest_fine
  rest-deep e = rw e refl

  -- An element of another kind (11).
  pub rest-mixed : deep h.kind left ≡ false → mixed list h.kind k ≡ true → rest_fine way doc left list k n h ≡ no mixed_list n
  unfolding rest_fine
  rest-mixed e f = rw (e, f) refl

  -- Then the payload.
  pub rest-on : deep h.kind left ≡ false → mixed list h.kind k ≡ false → rest_fine way doc left list k n h ≡ payload_fine way doc h n
  unfolding rest_fine
  rest-on e f = rw (e, f) refl

  module _ (twice : Bool) where
    -- A name that is refused (12, 4, 12).
    pub own_name : {m p : ℕ} → string_fine way doc h.name h.name_length n ≡ no m p → own_fine way doc left list k twice n h ≡ no m p
    unfolding own_fine
    own_name e = rw e refl

    -- A name twice (6).
    pub own-twice : string_fine way doc h.name h.name_length n ≡ got tt → twice ≡ true → own_fine way doc left list k twice n h ≡ no name_twice n
    unfolding own_fine
    own-twice e f = rw (e, f) refl

    -- Then what comes after the name.
    pub own_on : string_fine way doc h.name h.name_length n ≡ got tt → twice ≡ false → own_fine way doc left list k twice n h ≡ rest_fine way doc left list k n h
    unfolding own_fine
    own_on e f = rw (e, f) refl

    -- A record that passes has a name of its own.
    pub own-once : own_fine way doc left list k twice n h ≡ got tt → twice ≡ false
    unfolding own_fine
    own-once e = go (string_fine way doc h.name h.name_length n) twice (rest_fine way doc left list k n h) e
      where
        go : (s : Out (Unit {0})) (b : Bool) (r : Out (Unit {0})) → (s >> (guard (not b) name_twice n >> r)) ≡ got tt → b ≡ false
        go s false r z = refl
        go (got a) true r z = absurd (got-no (sym z))
        go (no m p) true r z = absurd (got-no (sym z))

    -- A record that passes is no container too deep.
    pub own-depth : own_fine way doc left list k twice n h ≡ got tt → holds h.kind ≡ true → 0 < left
    unfolding own_fine rest_fine
    own-depth e f = go (string_fine way doc h.name h.name_length n) (guard (not twice) name_twice n) (ltb 0 left) refl _ (rw f at e)
      where
        go : (s g : Out (Unit {0})) (b : Bool) → ltb 0 left ≡ b → (r : Out (Unit {0})) → (s >> (g >> (guard (not (not (not true || b))) too_deep n >> r))) ≡ got tt → 0 < left
        go s g true q r z = ltb-true 0 left q
        go (got a) (got b) false q r z = absurd (got-no (sym z))
        go (got a) (no m p) false q r z = absurd (got-no (sym z))
        go (no m p) g false q r z = absurd (got-no (sym z))

    module _ (inner : Forest) where
      -- A record refused by itself.
      pub one-no : {m p : ℕ} → own_fine way doc left list k twice n h ≡ no m p → one_judged way doc left list k twice n h inner ≡ no m p
      unfolding one_judged
      one-no e = rw e refl

      -- Then those in it.
      pub one-inner : own_fine way doc left list k twice n h ≡ got tt → one_judged way doc left list k twice n h inner ≡ judged way doc (left - 1) (eqb h.kind 9) h.list_kind none (n + 1) inner
      unfolding one_judged
      one-inner e = rw e refl

      -- A record that passes with those in it passes by itself.
      pub one-own : one_judged way doc left list k twice n h inner ≡ got tt → own_fine way doc left list k twice n h ≡ got tt
      unfolding one_judged
      one-own e = go (own_fine way doc left list k twice n h) _ e
        where
          go : (s r : Out (Unit {0})) → (s >> r) ≡ got tt → s ≡ got tt
          go (got a) r z = refl
          go (no m p) r z = absurd (got-no (sym z))

      -- Of which there are none.
      pub one-leaf : own_fine way doc left list k twice n h ≡ got tt → inner ≡ none → one_judged way doc left list k twice n h inner ≡ got tt
      unfolding one_judged judged
      one-leaf e f = rw (e, f) refl

-- ---- records side by side

-- A test denied twice.
not-not : (b : Bool) → not (not b) ≡ b
not-not true = refl
not-not false = refl

-- The tests of a record, then those in it, then those after it: however they are grouped.
chain : (s a b c p i j : Out (Unit {0})) → ((s >> (a >> (b >> (c >> p)))) >> i) >> j ≡ (s >> (a >> (b >> (c >> (p >> (i >> j))))))
chain (no m q) a b c p i j = refl
chain (got s) (no m q) b c p i j = refl
chain (got s) (got a) (no m q) c p i j = refl
chain (got s) (got a) (got b) (no m q) p i j = refl
chain (got s) (got a) (got b) (got c) (no m q) i j = refl
chain (got s) (got a) (got b) (got c) (got p) i j = refl

-- No records are left.
pub judged-none : (way : Way) (doc : List ℕ) (left : ℕ) (list : Bool) (k : ℕ) (earlier : Forest) (n : ℕ) → judged way doc left list k earlier n none ≡ got tt
unfolding judged
judged-none way doc left list k earlier n = refl

-- The first record with those in it, then those after it.
pub judged-node : (way : Way) (doc : List ℕ) (left : ℕ) (list : Bool) (k : ℕ) (earlier : Forest) (n : ℕ) (h : Head) (inner later : Forest) (twice : Bool)
    → not twice ≡ (list || not (has_name doc (part doc h.name h.name_length) earlier))
    → judged way doc left list k earlier n (node h inner later)
    ≡ (one_judged way doc left list k twice n h inner >> judged way doc left list k (earlier ⊕ node h inner none) (n + 1 + size inner) later)
unfolding judged one_judged own_fine rest_fine
judged-node way doc left list k earlier n h inner later twice e =
    let s = string_fine way doc h.name h.name_length n in
    let p = payload_fine way doc h n in
    let i = judged way doc (left - 1) (eqb h.kind 9) h.list_kind none (n + 1) inner in
    let j = judged way doc left list k (earlier ⊕ node h inner none) (n + 1 + size inner) later in
    sym (chain s (guard (not twice) name_twice n) (guard (not (deep h.kind left)) too_deep n) (guard (not (mixed list h.kind k)) mixed_list n) p i j
    ∙ (λ x. s >> (guard (e x) name_twice n >> (guard (not-not (not (holds h.kind) || ltb 0 left) x) too_deep n >> (guard (not-not (not list || eqb h.kind k) x) mixed_list n >> (p >> (i >> j)))))))

-- ---- the first repeat

-- It does not stand before where it is looked for.
repeat-from : (doc : List ℕ) (f seen : Forest) (n r : ℕ) → repeat_in doc n seen f ≡ Some r → n ≤ r
unfolding repeat_in
repeat-from doc none seen n r e = let z : ◌≡◌ {A = ℕ} 0 1 = cc in absurd (omega arith)
repeat-from doc (node h inner later) seen n r e =
    go (has_name doc (part doc h.name h.name_length) seen) (repeat-from doc later (seen ⊕ node h inner none) (n + 1 + size inner) r) e
  where
    go : (b : Bool) → (repeat_in doc (n + 1 + size inner) (seen ⊕ node h inner none) later ≡ Some r → n + 1 + size inner ≤ r)
        → elim b [ true ↦ Some n | false ↦ repeat_in doc (n + 1 + size inner) (seen ⊕ node h inner none) later ] ≡ Some r → n ≤ r
    go true ih p = let q : n ≡ r = cc in omega arith
    go false ih p = omega (arith, ih p)

module _ (doc : List ℕ) (n : ℕ) (seen : Forest) (h : Head) (inner later : Forest) (found : Option ℕ) (e : repeat_in doc n seen (node h inner later) ≡ found) where
  -- A repeat among those after it is not this one.
  later-one : (f : Option ℕ) → repeat_in doc (n + 1 + size inner) (seen ⊕ node h inner none) later ≡ f → is_at f n ≡ false
  later-one (Some r) p = ne_eqb r n (λ q. omega (arith, repeat-from doc later (seen ⊕ node h inner none) (n + 1 + size inner) r p))
  later-one None p = refl

  -- The record is the first repeat exactly where an earlier one has its name.
  pub repeat-here : is_at found n ≡ has_name doc (part doc h.name h.name_length) seen
  unfolding repeat_in
  repeat-here = go (has_name doc (part doc h.name h.name_length) seen) e
    where
      go : (b : Bool) → elim b [ true ↦ Some n | false ↦ repeat_in doc (n + 1 + size inner) (seen ⊕ node h inner none) later ] ≡ found → is_at found n ≡ b
      go true p = rw (← p) (eq-eqb n n refl)
      go false p = later-one found p

  -- Where none has, the first repeat stands among those after it.
  pub repeat-later : has_name doc (part doc h.name h.name_length) seen ≡ false → repeat_in doc (n + 1 + size inner) (seen ⊕ node h inner none) later ≡ found
  unfolding repeat_in
  repeat-later p = rw (repeat_in, p) at e

-- ---- the search for a repeat

-- Among the entries of a compound.
pub twice-entries : (doc t : List ℕ) (n end : ℕ) (list : Bool) → list ≡ false → first_twice doc t n end list ≡ first_repeat doc t n end
twice-entries doc t n end list e = rw e refl

-- Among the elements of a list there is none.
pub twice-elements : (doc t : List ℕ) (n end : ℕ) (list : Bool) → list ≡ true → first_twice doc t n end list ≡ None
twice-elements doc t n end list e = rw e refl
