-- A payload that is accepted or refused with 1: its parts are so too, there was room for its record, and its depth was not the last.
-- Assumes nothing.
use Prim.Native.Nat.{ℕ, zero, suc, ◌+◌, ◌-◌, ◌<◌, ◌^◌}
use mathlib.Core.Bool.{Bool, true, false, not, ◌||◌, ◌&&◌}
use mathlib.Core.List.{List}
use mathlib.Core.Path.{◌≡◌, refl, ◌∙◌}
use native.Mathlib.Omega.{arith}
use borrow.Author.Tests.{ltb-true, eqb-true, eqb-false}
use lib.ListN.{length}
use lib.Dec.{ltb, leb, eqb}
use Rattle.form.specs.Form.{Form}
use Rattle.form.specs.Answer.{Out, got, no, ◌>>=◌, ◌>>◌, guard}
use Rattle.form.specs.Table.{none, holds}
use Rattle.form.specs.Reading.{Inside, ListHead, Reader, byte_at, number_at, list_head_at, elements, entries, payload_by, inside_at}
use Rattle.form.proofs.Answer.{bind-got, guard-got}
use Rattle.form.proofs.Payloads.{payload-no, inside-deep, inside-list, inside-compound, compound-no, list-head-no, list-no}
use Rattle.nbt_gather.specs.Steps.{OnlyCut}
use Rattle.nbt_gather.proofs.Only.{only-guard, only-not}

-- A part whose refusals are those of the whole.
only-by : {A B : Type 0} (o : Out A) {q : Out B} → OnlyCut q → ((m p : ℕ) → o ≡ no m p → q ≡ no m p) → OnlyCut o
only-by (got a) h f = tt
only-by (no m p) h f = rw (f m p refl) at h

module _ (form : Form) (doc : List ℕ) where
  module _ (room : ℕ) (inside : ℕ → ℕ → ℕ → Out Inside) (kind name len at n : ℕ) (h : OnlyCut (payload_by form doc room inside kind name len at n)) where
    -- There is room for its record.
    pub only-room : n < room
    unfolding payload_by
    only-room = ltb-true n room (only-guard (ltb n room) 8 at _ (λ z. omega arith) h).0

    pub only-inside : holds kind ≡ true → OnlyCut (inside kind at (n + 1))
    only-inside e = only-by (inside kind at (n + 1)) h (λ m p z. payload-no form doc room inside kind name len at n only-room e z)

  module _ (room depth kind at n : ℕ) (h : OnlyCut (inside_at form doc room depth kind at n)) where
    abbrev read : Reader
    read = payload_by form doc room (inside_at form doc room (depth - 1))

    -- Another container may stand in it, or it would be refused with 7.
    pub only-deep : depth ≡ 0 → ⊥
    only-deep e = only-not (inside-deep form doc room kind at n depth e) (λ z. omega arith) h

    pub only-entries : (kind ≡ 9 → ⊥) → OnlyCut (entries form doc read (suc (length doc)) none at n)
    only-entries e = only-by (entries form doc read (suc (length doc)) none at n) h (λ m p z. inside-compound form doc room kind at n depth only-deep e ∙ compound-no form doc read at n z)

    module _ (e : kind ≡ 9) where
      pub only-head : OnlyCut (list_head_at form doc at)
      only-head = only-by (list_head_at form doc at) h (λ m p z. inside-list form doc room kind at n depth only-deep e ∙ list-head-no form doc read at n z)

      pub only-elements : {l : ListHead} → list_head_at form doc at ≡ got l → OnlyCut (elements form doc read l.count l.kind (at + 5) n)
      only-elements {l} f =
          only-by (elements form doc read l.count l.kind (at + 5) n) h (λ m p z. inside-list form doc room kind at n depth only-deep e ∙ list-no form doc read at n f z)

pub positive : (k : ℕ) → (k ≡ 0 → ⊥) → 0 < k
positive zero d = absurd (d refl)
positive (suc k) d = omega arith

-- The kind of a list that counts elements is not 0.
pub list-kind-some : (form : Form) (doc : List ℕ) (at : ℕ) {h : ListHead} → list_head_at form doc at ≡ got h → 0 < h.count → 0 < h.kind
unfolding list_head_at
list-kind-some form doc at {h} e c =
    let b = bind-got (byte_at doc at) (λ k. number_at form doc 4 (at + 1) >>= after k) e in
    let n = bind-got (number_at form doc 4 (at + 1)) (after b.0) b.2 in
    let g = guard-got (known b.0 n.0) 3 at (guard (ltb n.0 (2 ^ 31)) 5 (at + 1) >> got (head b.0 n.0)) n.2 in
    let f = guard-got (ltb n.0 (2 ^ 31)) 5 (at + 1) (got (head b.0 n.0)) g.1 in
    let is : head b.0 n.0 ≡ h = cc f.1 in
    rw (← is) (some b.0 n.0 (leb b.0 12) (eqb b.0 0) (eqb n.0 0) refl refl g.0 (rw (← is) at c))
  where
    known : ℕ → ℕ → Bool
    known k n = leb k 12 && (not (eqb k 0) || eqb n 0)

    head : ℕ → ℕ → ListHead
    head k n = record { kind = elim (eqb n 0) [ true ↦ 0 | false ↦ k ]; count = n }

    after : ℕ → ℕ → Out ListHead
    after k n = guard (known k n) 3 at >> (guard (ltb n (2 ^ 31)) 5 (at + 1) >> got (head k n))

    some : (k n : ℕ) (a b c : Bool) → eqb k 0 ≡ b → eqb n 0 ≡ c → (a && (not b || c)) ≡ true → 0 < n → 0 < elim c [ true ↦ 0 | false ↦ k ]
    some k n a b true e f g l = absurd (omega (arith, eqb-true n 0 f))
    some k n a false false e f g l = positive k (eqb-false k 0 e)
    some k n true true false e f g l = absurd (let z : ◌≡◌ {A = ℕ} 0 1 = cc in omega arith)
    some k n false true false e f g l = absurd (let z : ◌≡◌ {A = ℕ} 0 1 = cc in omega arith)
