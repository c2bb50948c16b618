-- The two loops over a set that make a child's set from its parent's: which steps take the hop, and what is gathered from each.
-- Assumes nothing.
use Prim.Native.Nat.{ℕ, zero, suc, ◌+◌, ◌-◌, ◌*◌, ◌/◌, ◌^◌, ◌≤◌, ◌<◌}
use mathlib.Core.Path.{◌≡◌, refl, sym, ap, subst, ◌∙◌}
use mathlib.Core.Logic.{◌⊎◌, inl, inr}
use mathlib.Core.List.{List, [], ◌∷◌, ◌++◌}
use mathlib.Core.Bool.{Bool, true, false, not, ◌||◌, ◌&&◌}
use native.Mathlib.Omega.{arith}
use native.Mathlib.Decide.{ℕ_discrete}
use lib.ListN.{get_or}
use lib.Pow.{pow_pos}
use lib.Bits.{bit_and, bit_or}
use borrow.Author.Tests.{eq-eqb, ne_eqb}
use Rattle.form.specs.Answer.{pick}
use Rattle.form.specs.Spans.{among}
use Rattle.form.specs.Paths.{Hop, Step, takes}
use Rattle.query_steps.specs.Steps.{NameIn}
use Rattle.query_reach.specs.Reached.{is_deep, takes_at}
use Rattle.query_reach.specs.Sets.{has, Bits, Least, taken_of, Shut, Gathers, gathered}
use Rattle.query_reach.specs.Plans.{words_of, planned, StepsOf, PlanIn, Reaches}
use Rattle.form.proofs.Picks.{and_left, and_right, and-true}
use Rattle.query_reach.proofs.Bools.{no_way, or_left, or_right, or_cases}
use Rattle.query_reach.proofs.Sets.{has-suc, has-none, has-and, has_one, steps-end, steps-step, Within, within-le, has_rest, within-one}
use Rattle.query_reach.proofs.Reached.{from, some, some_in, some_out, in-passed, reached_then, reached-within, reached-shut}
use Rattle.query_reach.proofs.Gathering.{shut_none, shut-all, shut-gathered}
use Rattle.query_reach.proofs.Marks.{mark-own, mark-other, deeps-are, free-takes}

-- ---- a set, number by number

module _ (a s : ℕ) (i : has a s ≡ true) where
  -- The number is gone, and the others are left.
  pub gone : has (a - 2 ^ s) s ≡ false
  gone = has_rest s a (2 ^ s) (within-one a s i) ∙ rw (i, has_one s s, eq-eqb s s refl)

  pub left-of : (k : ℕ) → (k ≡ s → ⊥) → has (a - 2 ^ s) k ≡ has a k
  left-of k n = has_rest k a (2 ^ s) (within-one a s i) ∙ rw (has_one s k, ne_eqb k s n) (and-true (has a k))

  pub left-within : Within (a - 2 ^ s) a
  left-within k e = and_left (has a k) (not (has (2 ^ s) k)) (sym (has_rest k a (2 ^ s) (within-one a s i)) ∙ e)

-- The least is taken out of it, which then is less.
pub least-le : {rest s one : ℕ} → Least rest s → one ≡ 2 ^ s → (one ≤ rest) × (rest - one < rest)
least-le {rest} {s} {one} m o =
    let le = within-le (2 ^ s) rest (within-one rest s m.is_in) in
    let some = pow_pos s in
    (omega arith, omega arith)

-- ---- which steps take the hop

-- Of a set, those that are asked.
pub within_both : (a b : ℕ) → Within (bit_and a b) a
within_both a b k e = and_left (has a k) (has b k) (sym (has-and a b k) ∙ e)

module _ (f : ℕ → Step) (h : Hop) (set asked : ℕ) where
  -- What the loop keeps: those that are not asked stay; those asked before are there if they take the hop; those left are not there.
  pub record Taking (out rest : ℕ) : Type 0 where
    pub within : Within rest asked
    pub free : (k : ℕ) → has asked k ≡ false → has out k ≡ has set k
    pub done : (k : ℕ) → has asked k ≡ true → has rest k ≡ false → has out k ≡ takes_at f h k
    pub left : (k : ℕ) → has rest k ≡ true → has out k ≡ false

  pub taking-start : Within asked set → Taking (set - asked) asked
  taking-start w = record {
    within = λ k e. e;
    free = λ k e. has_rest k set asked w ∙ rw e (and-true (has set k));
    done = λ k e n. no_way (has asked k) e n;
    left = λ k e. has_rest k set asked w ∙ rw (e, w k e);
  }

  pub taking-next : {out rest s : ℕ} → Taking out rest → Least rest s → {b : Bool} → b ≡ takes_at f h s → {r one : ℕ} → r ≡ pick b (2 ^ s) 0 → one ≡ 2 ^ s → Taking (bit_or out r) (rest - one)
  taking-next {out} {rest} {s} v m {b} e {r} {one} o o' = rw (o, o') (record {
    within = λ k x. v.within k (left-within rest s i k x);
    free = λ k n. mark-other out s b k (λ x. no_way (has asked s) (v.within s i) (subst (λ (j : ℕ). has asked j ≡ false) x n)) ∙ v.free k n;
    done = λ k x n. done k x n (ℕ_discrete k s);
    left = λ k x. mark-other out s b k (λ y. no_way (has (rest - 2 ^ s) s) (subst (λ (j : ℕ). has (rest - 2 ^ s) j ≡ true) y x) (gone rest s i)) ∙ v.left k (left-within rest s i k x);
  })
    where
      i : has rest s ≡ true
      i = m.is_in

      done : (k : ℕ) → has asked k ≡ true → has (rest - 2 ^ s) k ≡ false → Dec (k ≡ s) → has (bit_or out (pick b (2 ^ s) 0)) k ≡ takes_at f h k
      done k x n (yes y) = subst (λ (j : ℕ). has (bit_or out (pick b (2 ^ s) 0)) j ≡ takes_at f h j) (sym y) (mark-own out s b (v.left s i) ∙ e)
      done k x n (no y) = mark-other out s b k y ∙ v.done k x (sym (left-of rest s i k y) ∙ n)

module _ {q plan : List ℕ} {n : ℕ} (p : PlanIn q plan n) {set : ℕ} (w : StepsOf n set) {f : ℕ → Step} {h : Hop} {out rest s : ℕ} where
  -- A step that is left: its number, its name, and what it is asked.
  pub asked-step : Taking f h set (bit_and set (get_or plan 1 0)) out rest → Least rest s → (0 < s) × (s ≤ 16)
  asked-step v m =
      let x = w s (within_both set (get_or plan 1 0) s (v.within s m.is_in)) in
      let few = p.few in
      let le = x.1 in
      (x.0, omega arith)

  pub asked-name : Taking f h set (bit_and set (get_or plan 1 0)) out rest → Least rest s → NameIn q (words_of plan s)
  asked-name v m = named s (w s (within_both set (get_or plan 1 0) s (v.within s m.is_in)))
    where
      named : (s : ℕ) → (0 < s) × (s ≤ n) → NameIn q (words_of plan s)
      named zero x = absurd (let some = x.0 in omega (arith, some))
      named (suc k) x = p.names k (omega (arith, x.1))

pub takes_at_lem : (f : ℕ → Step) (h : Hop) (s : ℕ) → 0 < s → takes (f s) h ≡ takes_at f h s
takes_at_lem f h zero some = absurd (omega (arith, some))
takes_at_lem f h (suc s) some = refl

-- All were asked: those of the set that take the hop.
pub taking-end : {q plan : List ℕ} {n : ℕ} → PlanIn q plan n → {h : Hop} {set : ℕ} → StepsOf n set → {out rest : ℕ} → Taking (planned q plan) h set (bit_and set (get_or plan 1 0)) out rest → rest ≡ 0
    → Bits (taken_of (planned q plan) h set) out
taking-end {q} {plan} {n} p {h} {set} w {out} {rest} v z = record { is = λ k. is k (has set k) refl (has (get_or plan 1 0) k) refl }
  where
    f : ℕ → Step
    f = planned q plan

    none : (k : ℕ) → has rest k ≡ false
    none k = ap (λ (x : ℕ). has x k) z ∙ has-none k

    is : (k : ℕ) (b : Bool) → has set k ≡ b → (c : Bool) → has (get_or plan 1 0) k ≡ c → has out k ≡ taken_of f h set k
    is k true e true a = v.done k (has-and set (get_or plan 1 0) k ∙ rw (e, a)) (none k) ∙ rw e
    is k true e false a =
        let s = w k e in
        v.free k (has-and set (get_or plan 1 0) k ∙ rw (e, a)) ∙ rw (e, free-takes p.marked q h k s.0 s.1 a)
    is k false e c a = v.free k (has-and set (get_or plan 1 0) k ∙ rw e) ∙ rw e

-- ---- what is gathered from each

-- A step of a set from which a number may come next after the hop.
pub record Giver (f : ℕ → Step) (h : Hop) (set k : ℕ) : Type 0 where
  pub step : ℕ
  pub is_in : has set step ≡ true
  pub next : among (from f step (h ∷ [])) k ≡ true

module _ (f : ℕ → Step) (h : Hop) (set passed : ℕ) where
  -- What the loop keeps: what is gathered comes from the set, and all that comes from a step of it that no 04 passes on to is there, unless
  -- the step is left.
  pub record Hopping (out rest : ℕ) : Type 0 where
    pub within : Within rest set
    pub shut : Shut f out
    pub of : (k : ℕ) → has out k ≡ true → Giver f h set k
    pub to : (j : ℕ) → has set j ≡ true → has passed j ≡ false → has rest j ≡ false → (k : ℕ) → among (from f j (h ∷ [])) k ≡ true → has out k ≡ true

  pub hopping-start : Within passed set → Hopping 0 (set - passed)
  hopping-start w = record {
    within = λ k e. and_left (has set k) (not (has passed k)) (sym (has_rest k set passed w) ∙ e);
    shut = shut_none f;
    of = λ k e. no_way (has 0 k) e (has-none k);
    to = λ j i n l. no_way (has (set - passed) j) (has_rest j set passed w ∙ rw (i, n)) l;
  }

  pub hopping-next : {out rest s r one : ℕ} → Hopping out rest → Least rest s → Bits (gathered f h s 1 out) r → one ≡ 2 ^ s → Hopping r (rest - one)
  hopping-next {out} {rest} {s} {r} {one} v m w o = rw o (record {
    within = λ k e. v.within k (left-within rest s i k e);
    shut = shut-gathered f h s 1 v.shut w;
    of = λ k e. of k (or_cases (has out k) (among (from f s (h ∷ [])) k) (sym (w.is k) ∙ e));
    to = λ j x n l k e. w.is k ∙ to j x n l k e (ℕ_discrete j s);
  })
    where
      i : has rest s ≡ true
      i = m.is_in

      of : (k : ℕ) → (has out k ≡ true) ⊎ (among (from f s (h ∷ [])) k ≡ true) → Giver f h set k
      of k (inl e) = v.of k e
      of k (inr e) = record { step = s; is_in = v.within s i; next = e }

      to : (j : ℕ) → has set j ≡ true → has passed j ≡ false → has (rest - 2 ^ s) j ≡ false
          → (k : ℕ) → among (from f j (h ∷ [])) k ≡ true → Dec (j ≡ s) → (has out k || among (from f s (h ∷ [])) k) ≡ true
      to j x n l k e (yes y) = or_right (has out k) (among (from f s (h ∷ [])) k) (subst (λ (a : ℕ). among (from f a (h ∷ [])) k ≡ true) y e)
      to j x n l k e (no y) = or_left (has out k) (among (from f s (h ∷ [])) k) (v.to j x n (sym (left-of rest s i j y) ∙ l) k e)

-- ---- the set of a path

module _ {q plan : List ℕ} {n : ℕ} {p : List Hop} {set : ℕ} (v : Reaches q plan n p set) where
  abbrev f : ℕ → Step
  f = planned q plan

  abbrev deeps : ℕ
  deeps = get_or plan 0 0

  -- Its numbers are those of steps, or 0; it is shut.
  pub set-within : (k : ℕ) → has set k ≡ true → k ≤ n
  set-within k e = reached-within f k n p (sym (v.is.is k) ∙ e)

  set-shut : Shut f set
  set-shut = record { on = λ k d e. v.is.is (k - 1) ∙ reached-shut f k n p d (sym (v.is.is k) ∙ e) }

  -- A step behind an 04 of the set is in it too.
  module _ (k : ℕ) (e : has (bit_and set deeps / 2) k ≡ true) where
    both : (has set (suc k) && has deeps (suc k)) ≡ true
    both = sym (has-and set deeps (suc k)) ∙ has-suc (bit_and set deeps) k ∙ e

    before-in : has set (suc k) ≡ true
    before-in = and_left (has set (suc k)) (has deeps (suc k)) both

    before-deep : is_deep (f (suc k)) ≡ true
    before-deep = sym (deeps-are v.plan_in.marked q (suc k) (set-within (suc k) before-in)) ∙ and_right (has set (suc k)) (has deeps (suc k)) both

  pub passed-within : Within (bit_and set deeps / 2) set
  passed-within k e = let z : suc k - 1 ≡ k = omega arith in rw z at (set-shut.on (suc k) (before-deep k e) (before-in k e))

  -- Its steps, without the end.
  pub steps_of : StepsOf n (set / 2 * 2)
  steps_of zero e = no_way (has (set / 2 * 2) 0) e (steps-end set)
  steps_of (suc k) e = (omega arith, set-within (suc k) (sym (steps-step set k) ∙ e))

  module _ (h : Hop) {taken : ℕ} (t : Bits (taken_of f h (set / 2 * 2)) taken) where
    -- What gathering from one of its steps may rely on.
    pub hopping-ready : {out rest s : ℕ} → Hopping f h set (bit_and set deeps / 2) out rest → Least rest s → Gathers f h deeps taken s 1 out
    hopping-ready {out} {rest} {s} x m =
        let le = set-within s i in
        record {
          deep = λ k l. deeps-are v.plan_in.marked q k (omega arith);
          take = λ _ k e. t.is k ∙ asked k (shut-all f set set-shut s k i e);
          shut = x.shut;
        }
      where
        i : has set s ≡ true
        i = x.within s m.is_in

        asked : (k : ℕ) → has set k ≡ true → taken_of f h (set / 2 * 2) k ≡ takes_at f h k
        asked zero e = rw (steps-end set)
        asked (suc k) e = rw (steps-step set k, e)

    -- All is gathered: the set of the path and one hop more.
    pub hopping-end : {out rest : ℕ} → Hopping f h set (bit_and set deeps / 2) out rest → rest ≡ 0 → Reaches q plan n (p ++ (h ∷ [])) out
    hopping-end {out} {rest} x z = record { plan_in = v.plan_in; is = record { is = λ k. is k ∙ sym (reached_then f k n p (h ∷ [])) } }
      where
        -- What comes from a step comes from the first of the 04s that pass on to it.
        started : (k d j : ℕ) → n ≤ j + d → has set j ≡ true → among (from f j (h ∷ [])) k ≡ true → has out k ≡ true
        started k zero j l e g = go (has (bit_and set deeps / 2) j) refl
          where
            go : (b : Bool) → has (bit_and set deeps / 2) j ≡ b → has out k ≡ true
            go true y = let m = set-within (suc j) (before-in j y) in absurd (omega arith)
            go false y = x.to j e y (ap (λ (a : ℕ). has a j) z ∙ has-none j) k g
        started k (suc d) j l e g = go (started k d (suc j)) (has (bit_and set deeps / 2) j) refl
          where
            go : (n ≤ suc j + d → has set (suc j) ≡ true → among (from f (suc j) (h ∷ [])) k ≡ true → has out k ≡ true) → (b : Bool) → has (bit_and set deeps / 2) j ≡ b → has out k ≡ true
            go ih true y = ih (omega arith) (before-in j y) (in-passed f k j (before-deep j y) h [] g)
            go ih false y = x.to j e y (ap (λ (a : ℕ). has a j) z ∙ has-none j) k g

        is : (k : ℕ) → has out k ≡ some (λ j. among (from f j (h ∷ [])) k) (from f n p)
        is k = go (has out k) refl (some (λ j. among (from f j (h ∷ [])) k) (from f n p)) refl
          where
            G : ℕ → Bool
            G j = among (from f j (h ∷ [])) k

            go : (b : Bool) → has out k ≡ b → (c : Bool) → some G (from f n p) ≡ c → has out k ≡ some G (from f n p)
            go true e c y = let g = x.of k e in e ∙ sym (some_in G (from f n p) g.step (sym (v.is.is g.step) ∙ g.is_in) g.next)
            go false e true y =
                let s = some_out G (from f n p) y in
                no_way (has out k) (started k n s.number (omega arith) (v.is.is s.number ∙ s.is_in) s.holds) e
            go false e false y = e ∙ sym y

-- ---- the steps that may come first

module _ {q plan : List ℕ} {n : ℕ} (v : PlanIn q plan n) (h : Hop) where
  pub start-ready : Gathers (planned q plan) h (get_or plan 0 0) 0 n 0 0
  start-ready = record { deep = λ k l. deeps-are v.marked q k l; take = λ m. absurd (m refl); shut = shut_none (planned q plan) }

  pub start-reaches : {r : ℕ} → Bits (gathered (planned q plan) h n 0 0) r → Reaches q plan n [] r
  start-reaches w = record { plan_in = v; is = record { is = λ k. w.is k ∙ rw (has-none k) } }
