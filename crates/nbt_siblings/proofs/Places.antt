-- A place in the row of a family, and how far a search along the row has come.
-- Assumes nothing.
use Prim.Native.Nat.{ℕ, ◌+◌, ◌-◌, ◌≤◌, ◌<◌}
use mathlib.Core.List.{List, ◌∷◌}
use mathlib.Core.Path.{◌≡◌, refl, sym, ap, subst, ◌∙◌}
use mathlib.Core.Logic.{◌⊎◌, inl, inr, ⊎_elim}
use native.Mathlib.Omega.{arith}
use Rattle.nbt_siblings.specs.Names.{name_of, end_of, siblings}
use Rattle.nbt_siblings.specs.Links.{num, Mem, Fit}
use Rattle.nbt_siblings.specs.Lists.{Least, Family}
use Rattle.nbt_siblings.proofs.Walks.{mem-cases, mem-head, mem-tail}
use Rattle.nbt_siblings.proofs.Rows.{Beside, Repeats, siblings-on, siblings-low, siblings-below}

pub family-low : {doc t : List ℕ} {first stop : ℕ} → Family doc t first stop → (z : ℕ) → Beside t first stop z → first ≤ z
family-low {t = t} {first = first} {stop = stop} fam = siblings-low t stop stop first fam.on

-- the records before j are told from the others
pub record Place (t : List ℕ) (first stop j : ℕ) : Type 0 where
  pub fuel : ℕ
  pub enough : stop ≤ fuel + j
  pub sub : (z : ℕ) → Mem z (siblings t stop fuel j) → Beside t first stop z
  pub parts : (z : ℕ) → Beside t first stop z → (z < j) ⊎ Mem z (siblings t stop fuel j)

pub place-start : (t : List ℕ) (first stop : ℕ) → Place t first stop first
place-start t first stop = record { fuel = stop; enough = omega arith; sub = λ z m. m; parts = λ z m. inr m }

module _ {doc t : List ℕ} {first stop : ℕ} (fam : Family doc t first stop) {j : ℕ} (p : Place t first stop j) (h : j < stop) where
  cons : siblings t stop p.fuel j ≡ j ∷ siblings t stop (p.fuel - 1) (end_of t j)
  cons = siblings-on t stop p.fuel j (omega (arith, p.enough)) h

  pub place_here : Beside t first stop j
  place_here = p.sub j (rw cons (mem-head j j (siblings t stop (p.fuel - 1) (end_of t j)) refl))

  pub place-fit : Fit doc t j
  place-fit = fam.fit j place_here

  pub place-on : j < end_of t j
  place-on = fam.on j place_here

  back : (z : ℕ) → Mem z (siblings t stop (p.fuel - 1) (end_of t j)) → Beside t first stop z
  back z m = p.sub z (rw cons (mem-tail z j (siblings t stop (p.fuel - 1) (end_of t j)) m))

  parts-by : (P : Type 0) (z : ℕ) → Beside t first stop z → (z < j → P) → (z ≡ j → P) → (Mem z (siblings t stop (p.fuel - 1) (end_of t j)) → P) → P
  parts-by P z m less is more = ⊎_elim less (λ b. mem-cases P z j (siblings t stop (p.fuel - 1) (end_of t j)) is more (rw cons at b)) (p.parts z m)

  -- a record stands before j, or is j, or stands after it
  pub place-by : (P : Type 0) (z : ℕ) → Beside t first stop z → (z < j → P) → (z ≡ j → P) → (end_of t j ≤ z → P) → P
  place-by P z m less is more =
      parts-by P z m less is (λ k. more (siblings-low t stop (p.fuel - 1) (end_of t j) (λ w l. fam.on w (back w l)) z k))

  pub place-next : Place t first stop (end_of t j)
  place-next = record {
    fuel = p.fuel - 1;
    enough = omega (arith, p.enough, place-on);
    sub = back;
    parts = λ z m. parts-by ((z < end_of t j) ⊎ Mem z (siblings t stop (p.fuel - 1) (end_of t j))) z m
        (λ l. inl (omega (arith, l, place-on))) (λ e. inl (omega (arith, e, place-on))) (λ k. inr k);
  }

  -- what holds of none before j, nor of j, holds of none before the next
  pub place-later : (Q : ℕ → Type 0) → ((z : ℕ) → Q z → j ≤ z) → (Q j → ⊥) → (z : ℕ) → Beside t first stop z → Q z → end_of t j ≤ z
  place-later Q none not z m q =
      place-by (end_of t j ≤ z) z m (λ l. absurd (omega (arith, l, none z q))) (λ e. absurd (not (subst Q e q))) (λ l. l)

-- those before j do not have the name of record i
pub record Asking (doc t : List ℕ) (first stop i j : ℕ) : Type 0 where
  pub place : Place t first stop j
  pub none : (w : ℕ) → Beside t first stop w → w < j → num (name_of doc t w) ≡ num (name_of doc t i) → ⊥

pub asking-end : {doc t : List ℕ} {first stop i j : ℕ} → Asking doc t first stop i j → i ≤ j → Repeats doc t first stop i → ⊥
asking-end a h b = a.none b.w b.there (omega (arith, h, b.earlier)) b.twins

module _ {doc t : List ℕ} {first stop : ℕ} (fam : Family doc t first stop) where
  pub asking-start : (i : ℕ) → Asking doc t first stop i first
  asking-start i = record { place = place-start t first stop; none = λ w m l e. omega (arith, l, family-low fam w m) }

  module _ {i j : ℕ} (a : Asking doc t first stop i j) (m : Beside t first stop i) (h : j < i) where
    within : j < stop
    within = omega (arith, h, siblings-below t stop stop first i m)

    pub asking-fit : Fit doc t j
    asking-fit = place-fit fam a.place within

    pub asking-on : j < end_of t j
    asking-on = place-on fam a.place within

    pub asking-hit : num (name_of doc t j) ≡ num (name_of doc t i) → Repeats doc t first stop i
    asking-hit e = record { here = m; w = j; there = place_here fam a.place within; earlier = h; twins = e }

    pub asking-next : (num (name_of doc t j) ≡ num (name_of doc t i) → ⊥) → (k : ℕ) → k ≡ end_of t j → Asking doc t first stop i k
    asking-next n k q = rw q (record {
      place = place-next fam a.place within;
      none = λ w u l e. place-by fam a.place within ⊥ w u
          (λ b. a.none w u b e) (λ c. n (ap (λ x. num (name_of doc t x)) (sym c) ∙ e)) (λ c. omega (arith, c, l));
    })

-- those before i have no earlier twin
pub record Trying (doc t : List ℕ) (first stop i : ℕ) : Type 0 where
  pub place : Place t first stop i
  pub none : (z : ℕ) → Repeats doc t first stop z → i ≤ z

pub trying-hit : {doc t : List ℕ} {first stop i : ℕ} → Trying doc t first stop i → Repeats doc t first stop i → Least doc t (λ z. Beside t first stop z) stop i
trying-hit y b = record { is = inr b; least = y.none }

pub trying-end : {doc t : List ℕ} {first stop i : ℕ} → Trying doc t first stop i → stop ≤ i → Least doc t (λ z. Beside t first stop z) stop stop
trying-end y h = record { is = inl refl; least = λ z b. omega (arith, h, y.none z b) }

module _ {doc t : List ℕ} {first stop : ℕ} (fam : Family doc t first stop) where
  pub trying_start : Trying doc t first stop first
  trying_start = record { place = place-start t first stop; none = λ z b. family-low fam z b.here }

  pub trying-next : {i : ℕ} → Trying doc t first stop i → i < stop → (Repeats doc t first stop i → ⊥) → (k : ℕ) → k ≡ end_of t i → Trying doc t first stop k
  trying-next y h n k q = rw q (record {
    place = place-next fam y.place h;
    none = λ z b. place-later fam y.place h (λ w. Repeats doc t first stop w) y.none n z b.here b;
  })
