-- The loop through a container's children: what holds at each hop.
-- Assumes nothing.
use Prim.Native.Nat.{ℕ, suc, ◌+◌, ◌≤◌, ◌<◌}
use mathlib.Core.Path.{◌≡◌, sym, subst}
use mathlib.Core.Bool.{Bool}
use native.Mathlib.Omega.{arith}
use Rattle.form.specs.Rows.{ChildIs, Chain, stop, hop}

-- A chain from a record that is a child.
record Unhopped (get : ℕ → ℕ → ℕ) (up l : Bool) (q e j : ℕ) : Type 0 where
  child : ChildIs get up l q e j
  left : ℕ
  rest : Chain get up l q e (get j 7) left

-- A chain that is not at its end begins with a child.
unhop : (get : ℕ → ℕ → ℕ) (up l : Bool) (q e : ℕ) {j m : ℕ} → Chain get up l q e j m → j < e → Unhopped get up l q e j
unhop get up l q e stop h = absurd (omega arith)
unhop get up l q e (hop {c = c} child ch) h = record { child = child; left = c; rest = ch }

-- After c hops, at record j: a chain from here on is one from the start with c children more, and a chain from the start comes here.
pub record Hopped (get : ℕ → ℕ → ℕ) (up l : Bool) (q e from j c : ℕ) : Type 0 where
  pub high : j ≤ e
  pub few : from + c ≤ j
  pub ahead : (m : ℕ) → Chain get up l q e j m → Chain get up l q e from (c + m)
  pub back : (m : ℕ) → Chain get up l q e from m → (k : ℕ) × Chain get up l q e j k

module _ (get : ℕ → ℕ → ℕ) (up l : Bool) (q e from : ℕ) where
  -- At the start.
  pub hop-none : from ≤ e → Hopped get up l q e from from 0
  hop-none h = record {
    high = h;
    few = omega arith;
    ahead = λ m ch. (let z : 0 + m ≡ m = omega arith in subst (λ (x : ℕ). Chain get up l q e from x) (sym z) ch);
    back = λ m ch. (m, ch);
  }

  module _ (j c : ℕ) (inv : Hopped get up l q e from j c) where
    -- One hop on.
    pub hop-more : j < e → ChildIs get up l q e j → (n : ℕ) → n ≡ get j 7 → Hopped get up l q e from n (c + 1)
    hop-more h child n p =
        let few = inv.few in
        let on = child.on in
        let within = child.within in
        record {
          high = omega arith;
          few = omega arith;
          ahead = λ m ch.
              (let z : c + suc m ≡ c + 1 + m = omega arith in
              subst (λ (x : ℕ). Chain get up l q e from x) z (inv.ahead (suc m) (hop {j = j} child (subst (λ (x : ℕ). Chain get up l q e x m) p ch))));
          back = λ m ch.
              (let k = inv.back m ch in
              let u = unhop get up l q e k.1 h in
              (u.left, subst (λ (x : ℕ). Chain get up l q e x u.left) (sym p) u.rest));
        }

    -- At the end.
    pub hop-done : e ≤ j → Chain get up l q e from c
    hop-done h =
        let high = inv.high in
        let p : e ≡ j = omega arith in
        let z : c + 0 ≡ c = omega arith in
        subst (λ (x : ℕ). Chain get up l q e from x) z (inv.ahead 0 (subst (λ (x : ℕ). Chain get up l q e x 0) p stop))

    -- At a record that is no child.
    pub hop-broken : j < e → (ChildIs get up l q e j → ⊥) → (m : ℕ) → Chain get up l q e from m → ⊥
    hop-broken h f m ch = let k = inv.back m ch in f (unhop get up l q e k.1 h).child
