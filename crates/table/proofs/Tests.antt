-- What the tests of rule 7's check say, case by case.
-- Assumes nothing.
use Prim.Native.Nat.{ℕ, ◌+◌, ◌≤◌, ◌<◌}
use mathlib.Core.Path.{◌≡◌, sym, subst, ◌∙◌}
use mathlib.Core.Logic.{inl, inr, ⊎_elim}
use mathlib.Core.Bool.{Bool, true, false}
use native.Mathlib.Omega.{arith}
use lib.Dec.{eqb, leb}
use borrow.Author.Tests.{eqb-true, eqb-false, leb-true, leb-false}
use Rattle.form.specs.Table.{holds}
use Rattle.form.specs.Rows.{Chain, LeafRow, list_kind_at, ContainerRow, RowIs}
use Rattle.form.proofs.Rows.{chain-le, chain-one}
use Rattle.form.proofs.Leaves.{fits-held}
use Rattle.table.specs.Check.{Says, HopsAre}
use Rattle.std.specs.Prelude.{Option, Some, None}

-- Two answers differ.
pub apart : (b : Bool) → b ≡ true → b ≡ false → ⊥
apart b p q = let z : ◌≡◌ {A = ℕ} 0 1 = cc in omega arith

-- Yes, and it holds.
pub says-yes : {P : Type 0} → P → Says true P
says-yes p = record { yes = λ _. p; no = λ e _. apart true (λ i. true) e }

-- No, and it does not hold.
pub says-no : {P : Type 0} → (P → ⊥) → Says false P
says-no f = record { yes = λ e. absurd (apart false e (λ i. false)); no = λ _ p. f p }

-- What a test says of P it says of what is as good.
pub says-as : {P Q : Type 0} (r : Bool) → Says r P → (P → Q) → (Q → P) → Says r Q
says-as r s f g = record { yes = λ e. f (s.yes e); no = λ e q. s.no e (g q) }

-- A test of equality.
pub says-eqb : {P : Type 0} (a b : ℕ) → (a ≡ b → P) → (P → a ≡ b) → Says (eqb a b) P
says-eqb a b f g = record { yes = λ e. f (eqb-true a b e); no = λ e p. eqb-false a b e (g p) }

-- A test of order.
pub says-leb : {P : Type 0} (a b : ℕ) → (a ≤ b → P) → (P → a ≤ b) → Says (leb a b) P
says-leb a b f g = record { yes = λ e. f (leb-true a b e); no = λ e p. let l = leb-false a b e in let m = g p in omega arith }

-- ---- containers

module _ (get : ℕ → ℕ → ℕ) (up : Bool) (n i : ℕ) where
  -- The hops through record i's children, by its kind and its end.
  hops-here : (k e : ℕ) → k ≡ get i 0 → e ≡ get i 7 → (h r : Option ℕ) → HopsAre get up (eqb k 9) i e (i + 1) h → h ≡ r
      → HopsAre get up (eqb (get i 0) 9) i (get i 7) (i + 1) r
  hops-here k e p q h r hops o =
      subst (λ (y : Option ℕ). HopsAre get up (eqb (get i 0) 9) i (get i 7) (i + 1) y) o
      (subst (λ (x : ℕ). HopsAre get up (eqb x 9) i (get i 7) (i + 1) h) p (subst (λ (x : ℕ). HopsAre get up (eqb k 9) i x (i + 1) h) q hops))

  module _ (k e : ℕ) (p : k ≡ get i 0) (q : e ≡ get i 7) (h : Option ℕ) (hops : HopsAre get up (eqb k 9) i e (i + 1) h) where
    -- The children tile the container: their number is left to compare.
    pub container-all : holds (get i 0) ≡ true → get i 3 ≡ 0 → get i 4 ≡ 0 → get i 6 ≡ list_kind_at get i → get i 7 ≤ n
        → (c : ℕ) → h ≡ Some c → (m : ℕ) → m ≡ get i 5 → Says (eqb c m) (ContainerRow get up n i)
    container-all kind start long listed within c o m r =
        let ch : Chain get up (eqb (get i 0) 9) i (get i 7) (i + 1) c = hops-here k e p q h (Some c) hops o in
        says-eqb c m
        (λ x. record {
          kind = kind;
          start = start;
          long = long;
          listed = listed;
          within = within;
          tiled = subst (λ (y : ℕ). Chain get up (eqb (get i 0) 9) i (get i 7) (i + 1) y) (x ∙ r) ch;
        })
        (λ is. chain-one get up (eqb (get i 0) 9) i (get i 7) ch is.tiled ∙ sym r)

    -- They do not tile it.
    pub container-broken : h ≡ None → Says false (ContainerRow get up n i)
    container-broken o = says-no (λ is. hops-here k e p q h None hops o (get i 5) is.tiled)

  -- A container ends after itself.
  pub container-on : ContainerRow get up n i → i < get i 7
  container-on is = let l = chain-le get up (eqb (get i 0) 9) i (get i 7) is.tiled in omega arith

-- ---- records by their kind

module _ (d : ℕ) (get : ℕ → ℕ → ℕ) (up : Bool) (n i : ℕ) (name : get i 1 + get i 2 ≤ d) where
  -- A list or a compound.
  pub row-container : holds (get i 0) ≡ true → (r : Bool) → Says r (ContainerRow get up n i) → Says r (RowIs d get up n i)
  row-container h r s = says-as r s (λ is. record { name = name; rest = inr is })
      (λ row. ⊎_elim (λ l. absurd (apart _ l.fits (fits-held (get i 0) (get i 4) (get i 5) h))) (λ c. c) row.rest)

  -- What holds no records.
  pub row-leaf : holds (get i 0) ≡ false → (r : Bool) → Says r (LeafRow d get i) → Says r (RowIs d get up n i)
  row-leaf h r s = says-as r s (λ is. record { name = name; rest = inl is })
      (λ row. ⊎_elim (λ l. l) (λ c. absurd (apart _ c.kind h)) row.rest)
