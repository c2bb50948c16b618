-- The least record that has an earlier twin is the definition's answer.
-- Assumes nothing.
use Prim.Native.Nat.{ℕ, zero, suc, ◌≤◌, ◌<◌}
use mathlib.Core.Bool.{Bool, true, false, ◌||◌}
use mathlib.Core.List.{List, [], ◌∷◌}
use mathlib.Core.Path.{◌≡◌, refl, sym, ap, subst, ◌∙◌}
use mathlib.Core.Logic.{◌⊎◌, inl, inr, ⊎_elim}
use native.Mathlib.Omega.{arith}
use borrow.Author.Tests.{lt-ltb, le-ltb}
use lib.ListN.{length, get_or}
use Rattle.std.specs.Prelude.{Some, None}
use Rattle.form.specs.Spans.{same}
use Rattle.form.proofs.Spans.{same_self, same_true as same-eq}
use Rattle.nbt_siblings.specs.Names.{name_of, end_of, siblings, among, first_from, first_repeat}
use Rattle.nbt_siblings.specs.Links.{num, Mem, walk, Sorted, Fit}
use Rattle.nbt_siblings.specs.Lists.{Again, Least, Family, found_of}
use Rattle.nbt_siblings.proofs.Numbers.{names_same}
use Rattle.nbt_siblings.proofs.Walks.{mem-cases, mem-head, mem-tail, mem-none, walk-low}
use Rattle.nbt_siblings.proofs.Merges.{sorted_head, sorted_tail, sorted-cons, sorted_none}
use Rattle.nbt_siblings.proofs.Rows.{Beside, siblings-walk, siblings-below}

-- ---- the definition's turns

module _ (name : ℕ → List ℕ) where
  among-has : (n : List ℕ) (w : ℕ) (js : List ℕ) → Mem w js → same (name w) n ≡ true → among name n js ≡ true
  unfolding among
  among-has n w [] m e = absurd (mem-none w m)
  among-has n w (j ∷ js) m e =
      go (same (name j) n) refl (λ k. among-has n w js k e)
    where
      go : (b : Bool) → same (name j) n ≡ b → (Mem w js → among name n js ≡ true) → (same (name j) n || among name n js) ≡ true
      go true f r = rw f refl
      go false f r =
          rw f
          (mem-cases (among name n js ≡ true) w j js
          (λ q. absurd (let z : ◌≡◌ {A = Bool} true false = sym e ∙ ap (λ k. same (name k) n) q ∙ f in let y : ◌≡◌ {A = ℕ} 0 1 = cc in omega arith)) r m)

  among_in : (n : List ℕ) (js : List ℕ) → among name n js ≡ true → (w : ℕ) × Mem w js × (same (name w) n ≡ true)
  unfolding among
  among_in n [] e = absurd (let y : ◌≡◌ {A = ℕ} 0 1 = cc in omega arith)
  among_in n (j ∷ js) e = go (same (name j) n) refl e (λ k. among_in n js k)
    where
      go : (b : Bool) → same (name j) n ≡ b → (same (name j) n || among name n js) ≡ true → (among name n js ≡ true → (w : ℕ) × Mem w js × (same (name w) n ≡ true))
          → (w : ℕ) × Mem w (j ∷ js) × (same (name w) n ≡ true)
      go true f h r = (j, mem-head j j js refl, f)
      go false f h r = let k = r (rw f at h) in (k.0, mem-tail k.0 j js k.1, k.2)

  first-hit : (seen : List ℕ) (i : ℕ) (js : List ℕ) → among name (name i) seen ≡ true → first_from name seen (i ∷ js) ≡ Some i
  unfolding first_from
  first-hit seen i js e = rw (first_from, e) refl

  first-miss : (seen : List ℕ) (i : ℕ) (js : List ℕ) → among name (name i) seen ≡ false → first_from name seen (i ∷ js) ≡ first_from name (i ∷ seen) js
  unfolding first_from
  first-miss seen i js e = rw (first_from, e) refl

-- ---- the answer

pub found_at : (low stop : ℕ) → low < stop → found_of low stop ≡ Some low
found_at low stop h = rw (found_of, lt-ltb low stop h) refl

pub found_nothing : (low stop : ℕ) → stop ≤ low → found_of low stop ≡ None
found_nothing low stop h = rw (found_of, le-ltb low stop h) refl

module _ (doc t : List ℕ) (bytes : (i : ℕ) → get_or doc i 0 < 256) (U : ℕ → Type 0) (none low : ℕ) (fit : (z : ℕ) → U z → Fit doc t z)
    (below : (z : ℕ) → U z → z < none) (l : Least doc t U none low) where
  answer : (rest seen : List ℕ) → ((z : ℕ) → Mem z seen → U z) → ((z : ℕ) → Mem z rest → U z) → ((z : ℕ) → U z → Mem z seen ⊎ Mem z rest)
      → ((w z : ℕ) → Mem w seen → Mem z rest → w < z) → Sorted true (λ z. z) rest → (low ≡ none) ⊎ Mem low rest
      → found_of low none ≡ first_from (name_of doc t) seen rest
  unfolding first_from
  answer [] seen us ur all lt s w = found_nothing low none (⊎_elim (λ e. omega arith) (λ m. absurd (mem-none low m)) w)
  answer (i ∷ js) seen us ur all lt s w =
      go (among (name_of doc t) (name_of doc t i) seen) refl
      (λ v. answer js (i ∷ seen)
      (λ z m. mem-cases (U z) z i seen (λ e. subst U (sym e) ui) (us z) m)
      (λ z m. ur z (mem-tail z i js m))
      (λ z m. ⊎_elim (λ a. inl (mem-tail z i seen a)) (λ b. mem-cases (Mem z (i ∷ seen) ⊎ Mem z js) z i js (λ e. inl (mem-head z i seen e)) (λ k. inr k) b) (all z m))
      (λ a z m k. mem-cases (a < z) a i seen (λ e. omega (arith, e, sorted_head true (λ y. y) i js s z k)) (λ j. lt a z j (mem-tail z i js k)) m)
      (sorted_tail true (λ y. y) i js s) v)
    where
      ui : U i
      ui = ur i (mem-head i i js refl)

      at_least : (z : ℕ) → Mem z (i ∷ js) → i ≤ z
      at_least z m = mem-cases (i ≤ z) z i js (λ e. omega arith) (λ k. omega (arith, sorted_head true (λ y. y) i js s z k)) m

      go : (b : Bool) → among (name_of doc t) (name_of doc t i) seen ≡ b → ((low ≡ none) ⊎ Mem low js → found_of low none ≡ first_from (name_of doc t) (i ∷ seen) js)
          → found_of low none ≡ first_from (name_of doc t) seen (i ∷ js)
      go true e r =
          let k = among_in (name_of doc t) (name_of doc t i) seen e in
          let le : low ≤ i = l.least i (record {
            here = ui;
            w = k.0;
            there = us k.0 k.1;
            earlier = lt k.0 i k.1 (mem-head i i js refl);
            twins = ap num (same-eq (name_of doc t k.0) (name_of doc t i) k.2);
          }) in
          let bi : i < none = below i ui in
          let is : low ≡ i = ⊎_elim (λ q. absurd (omega (arith, q, le, bi))) (λ m. let ge : i ≤ low = at_least low m in let q : low ≡ i = omega arith in q) w in
          found_at low none (omega arith) ∙ ap Some is ∙ sym (first-hit (name_of doc t) seen i js e)
      go false e r =
          r (⊎_elim (λ q. inl q) (λ m. mem-cases ((low ≡ none) ⊎ Mem low js) low i js (λ q. absurd (no q)) (λ k. inr k) m) w)
          ∙ sym (first-miss (name_of doc t) seen i js e)
        where
          no : low ≡ i → ⊥
          no q =
              ⊎_elim (λ k. omega (arith, k, q, below i ui))
              (λ a.
              let b : Again doc t U i = subst (λ z. Again doc t U z) q a in
              ⊎_elim
              (λ m.
              let same_name : name_of doc t b.w ≡ name_of doc t i = names_same bytes (fit b.w b.there) (fit i ui) b.twins in
              let h = among-has (name_of doc t) (name_of doc t i) b.w seen m (rw same_name (same_self (name_of doc t i))) in
              let z : ◌≡◌ {A = Bool} true false = sym h ∙ e in let y : ◌≡◌ {A = ℕ} 0 1 = cc in omega arith)
              (λ m. omega (arith, at_least b.w m, b.earlier)) (all b.w b.there))
              l.is

-- ---- the records of a family

walk-sorted : (f : ℕ → ℕ) (n a : ℕ) → ((z : ℕ) → Mem z (walk f a n) → z < f z) → Sorted true (λ z. z) (walk f a n)
unfolding walk
walk-sorted f zero a up = sorted_none true (λ z. z)
walk-sorted f (suc n) a up =
    let up' : (w : ℕ) → Mem w (walk f (f a) n) → w < f w = λ w k. up w (mem-tail w a (walk f (f a) n) k) in
    sorted-cons true (λ z. z) a (walk f (f a) n)
    (λ z m. omega (arith, walk-low f n (f a) up' z m, up a (mem-head a a (walk f (f a) n) refl))) (walk-sorted f n (f a) up')

-- the least record that has an earlier twin is the definition's answer
pub family-answer : {doc t : List ℕ} {first stop low : ℕ} → Family doc t first stop → ((i : ℕ) → get_or doc i 0 < 256)
    → Least doc t (λ w. Beside t first stop w) stop low → found_of low stop ≡ first_repeat doc t first stop
unfolding first_repeat
family-answer {doc = doc} {t = t} {first = first} {stop = stop} {low = low} fam bytes l =
    answer doc t bytes (λ w. Beside t first stop w) stop low fam.fit (siblings-below t stop stop first) l (siblings t stop stop first) []
    (λ z m. absurd (mem-none z m)) (λ z m. m) (λ z u. inr u) (λ a z m k. absurd (mem-none a m)) rising
    (⊎_elim (λ e. inl e) (λ a. inr a.here) l.is)
  where
    row : siblings t stop stop first ≡ walk (end_of t) first (length (siblings t stop stop first))
    row = siblings-walk t stop stop first

    rising : Sorted true (λ z. z) (siblings t stop stop first)
    rising =
        subst (λ w. Sorted true (λ z. z) w) (sym row)
        (walk-sorted (end_of t) (length (siblings t stop stop first)) first (λ z m. fam.on z (subst (λ w. Mem z w) (sym row) m)))

-- ---- one record, or none

alone : (name : ℕ → List ℕ) (js : List ℕ) → length js < 2 → first_from name [] js ≡ None
unfolding first_from among
alone name [] h = refl
alone name (i ∷ []) h = refl
alone name (i ∷ (j ∷ js)) h = absurd (omega arith)

pub repeat-few : (doc t : List ℕ) (first stop : ℕ) {n : ℕ} → n ≡ length (siblings t stop stop first) → n < 2 → None ≡ first_repeat doc t first stop
unfolding first_repeat
repeat-few doc t first stop e h = sym (alone (name_of doc t) (siblings t stop stop first) (omega (arith, e, h)))

-- ---- the answer is one of the records

first-in : (name : ℕ → List ℕ) (k : ℕ) (rest seen : List ℕ) → first_from name seen rest ≡ Some k → Mem k rest
unfolding first_from
first-in name k [] seen e = absurd (let y : ◌≡◌ {A = ℕ} 0 1 = cc in omega arith)
first-in name k (i ∷ js) seen e = go (among name (name i) seen) refl (first-in name k js (i ∷ seen))
  where
    go : (b : Bool) → among name (name i) seen ≡ b → (first_from name (i ∷ seen) js ≡ Some k → Mem k js) → Mem k (i ∷ js)
    go true q r =
        let f : Some i ≡ Some k = sym (first-hit name seen i js q) ∙ e in
        let g : k ≡ i = cc in
        mem-head k i js g
    go false q r = mem-tail k i js (r (sym (first-miss name seen i js q) ∙ e))

pub repeat-in : (doc t : List ℕ) (first stop k : ℕ) → first_repeat doc t first stop ≡ Some k → Mem k (siblings t stop stop first)
unfolding first_repeat
repeat-in doc t first stop k e = first-in (name_of doc t) k (siblings t stop stop first) [] e
