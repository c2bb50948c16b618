-- The lines are those of the records kept: by recursion on the depth left, whatever the reader answers.
-- Assumes nothing.
use Prim.Native.Nat.{ℕ, zero, suc, ◌+◌, ◌≤◌}
use mathlib.Core.Bool.{Bool, true, false}
use mathlib.Core.Logic.{◌⊎◌, inl, inr}
use mathlib.Core.List.{List}
use mathlib.Core.Path.{◌≡◌, refl, sym, ap, subst, ◌∙◌}
use native.Mathlib.Omega.{arith}
use lib.Dec.{ltb}
use borrow.Author.Tests.{ltb-true, ltb-false}
use lib.ListN.{length}
use Rattle.form.specs.Form.{Form}
use Rattle.form.specs.Answer.{Out, got, no, depth_limit}
use Rattle.form.specs.Table.{size, width, holds}
use Rattle.form.specs.Reading.{One, Span, Entry, end, named, Reader, ListHead, entry_at, list_head_at, payload_by, inside_at}
use Rattle.form.specs.Cut.{Kept, Opener, nothing, whole, opened, kept_elements, kept_entries, begun_at}
use Rattle.form.proofs.Cut.{kept-element, begun-element, no-element, no-entry, kept_entry, begun-entry, begun-list, no-list, begun-compound, begun-leaf, kept-is}
use Rattle.form.proofs.Leaves.{held-kind}
use Rattle.demands.specs.Rescue.{Lined, IsRescuedLined}

-- What is kept of elements or entries: the lines fit, and are at most so many; there are at most so many records side by side.
record Fit (d n : ℕ) (k : Kept) : Type 0 where
  lined : Lined n k.forest k.lines
  few : length k.lines ≤ d

-- One record at most.
record FitOne (d n : ℕ) (k : Kept) : Type 0 where
  fit : Fit d n k
  one : width k.forest ≤ 1

fit_none : (d n : ℕ) → FitOne d n nothing
unfolding Lined width
fit_none d n = record { fit = record { lined = refl; few = omega arith }; one = omega arith }

fit-whole : (d n : ℕ) (x : One) (k : Kept) → Fit d (n + 1 + size x.inner) k → Fit d n (whole x k)
unfolding Lined
fit-whole d n x k f = record { lined = inr f.lined; few = f.few }

fit-open : (d kind name len n promised : ℕ) (k : Kept) → ((kind ≡ 9) × (width k.forest ≤ promised)) ⊎ ((kind ≡ 10) × (promised ≡ 0)) → Fit d (n + 1) k
    → FitOne (suc d) n (opened kind name len n promised k)
unfolding Lined width
fit-open d kind name len n promised k p f = record {
  fit = record { lined = inl (_, _, refl, refl, refl, refl, p, f.lined); few = omega (arith, f.few) };
  one = omega arith;
}

module _ (form : Form) (doc : List ℕ) (d : ℕ) (read : Reader) (begun : Opener) (B : (kind name len at n : ℕ) → FitOne d n (begun kind name len at n)) where
  record FitSome (c n : ℕ) (k : Kept) : Type 0 where
    fit : Fit d n k
    some : width k.forest ≤ c

  elements-fit : (c k at n : ℕ) → FitSome c n (kept_elements form doc read begun c k at n)
  unfolding kept_elements width
  elements-fit zero k at n = let z = fit_none d n in record { fit = z.fit; some = omega arith }
  elements-fit (suc c) k at n = go (elements-fit c) (read k 0 0 at n) refl
    where
      kept : Kept
      kept = kept_elements form doc read begun (suc c) k at n

      first : (m p : ℕ) → read k 0 0 at n ≡ no m p → (t : Bool) → ltb at (length doc) ≡ t → FitSome (suc c) n kept
      first m p e true t =
          let b = B k 0 0 at n in
          subst (FitSome (suc c) n) (sym (begun-element form doc read begun c k at n e (ltb-true at (length doc) t))) (record { fit = b.fit; some = omega (arith, b.one) })
      first m p e false t =
          subst (FitSome (suc c) n) (sym (no-element form doc read begun c k at n e (ltb-false at (length doc) t))) (record { fit = (fit_none d n).fit; some = omega arith })

      go : ((k at n : ℕ) → FitSome c n (kept_elements form doc read begun c k at n)) → (o : Out One) → read k 0 0 at n ≡ o → FitSome (suc c) n kept
      go ih (got x) e =
          let i = ih k x.next (n + 1 + size x.inner) in
          subst (FitSome (suc c) n) (sym (kept-element form doc read begun c k at n e)) (record { fit = fit-whole d n x _ i.fit; some = omega (arith, i.some) })
      go ih (no m p) e = first m p e (ltb at (length doc)) refl

  entries_fit : (fuel at n : ℕ) → Fit d n (kept_entries form doc read begun fuel at n)
  unfolding kept_entries
  entries_fit zero at n = (fit_none d n).fit
  entries_fit (suc fuel) at n = go (entries_fit fuel) (entry_at form doc at) refl
    where
      kept : Kept
      kept = kept_entries form doc read begun (suc fuel) at n

      payload : ((at n : ℕ) → Fit d n (kept_entries form doc read begun fuel at n)) → (kind : ℕ) (s : Span) → entry_at form doc at ≡ got (named kind s) → (o : Out One)
          → read kind s.start s.size s.next n ≡ o → Fit d n kept
      payload ih kind s a (got x) e = subst (Fit d n) (sym (kept_entry form doc read begun fuel at n a e)) (fit-whole d n x _ (ih x.next (n + 1 + size x.inner)))
      payload ih kind s a (no m p) e = subst (Fit d n) (sym (begun-entry form doc read begun fuel at n a e)) (B kind s.start s.size s.next n).fit

      go : ((at n : ℕ) → Fit d n (kept_entries form doc read begun fuel at n)) → (o : Out Entry) → entry_at form doc at ≡ o → Fit d n kept
      go ih (no m p) a = subst (Fit d n) (sym (no-entry form doc read begun fuel at n a)) (fit_none d n).fit
      go ih (got end) a = subst (Fit d n) (sym (ended a)) (fit_none d n).fit
        where
          ended : entry_at form doc at ≡ got end → kept ≡ nothing
          ended a = ap (λ (o : Out Entry). elim o [
            | no m p ↦ nothing
            | got e ↦ elim e [
              | end ↦ nothing
              | named kind s ↦ elim (read kind s.start s.size s.next n) [
                | got x ↦ whole x (kept_entries form doc read begun fuel x.next (n + 1 + size x.inner))
                | no m p ↦ begun kind s.start s.size s.next n
              ]
            ]
          ]) a
      go ih (got (named kind s)) a = payload ih kind s a (read kind s.start s.size s.next n) refl

module _ (form : Form) (doc : List ℕ) (room : ℕ) where
  begun-fit : (d kind name len at n : ℕ) → FitOne d n (begun_at form doc room d kind name len at n)
  unfolding begun_at
  begun-fit zero kind name len at n = fit_none 0 n
  begun-fit (suc d) kind name len at n = go (begun-fit d) (holds kind) refl
    where
      list : ((kind name len at n : ℕ) → FitOne d n (begun_at form doc room d kind name len at n)) → (o : Out ListHead)
          → list_head_at form doc at ≡ o → FitOne (suc d) n (begun_at form doc room (suc d) 9 name len at n)
      list ih (no m p) e = subst (FitOne (suc d) n) (sym (no-list form doc room d at n name len e)) (fit_none (suc d) n)
      list ih (got h) e =
          let i = elements-fit form doc d (payload_by form doc room (inside_at form doc room d)) (begun_at form doc room d) ih h.count h.kind (at + 5) (n + 1) in
          subst (FitOne (suc d) n) (sym (begun-list form doc room d at n name len e)) (fit-open d 9 name len n h.count _ (inl (refl, i.some)) i.fit)

      kinds : ((kind name len at n : ℕ) → FitOne d n (begun_at form doc room d kind name len at n)) → (kind ≡ 9) ⊎ (kind ≡ 10) → FitOne (suc d) n (begun_at form doc room (suc d) kind name len at n)
      kinds ih (inl k) = subst (λ k. FitOne (suc d) n (begun_at form doc room (suc d) k name len at n)) (sym k) (list ih (list_head_at form doc at) refl)
      kinds ih (inr k) = subst (λ k. FitOne (suc d) n (begun_at form doc room (suc d) k name len at n)) (sym k)
          (subst (FitOne (suc d) n) (sym (begun-compound form doc room d at n name len))
          (fit-open d 10 name len n 0 _ (inr (refl, refl)) (entries_fit form doc d (payload_by form doc room (inside_at form doc room d)) (begun_at form doc room d) ih (suc (length doc)) at (n + 1))))

      go : ((kind name len at n : ℕ) → FitOne d n (begun_at form doc room d kind name len at n)) → (t : Bool) → holds kind ≡ t → FitOne (suc d) n (begun_at form doc room (suc d) kind name len at n)
      go ih true h = kinds ih (held-kind kind h)
      go ih false h = subst (FitOne (suc d) n) (sym (begun-leaf form doc room (suc d) kind name len at n h)) (fit_none (suc d) n)

-- The lines of a document that is cut.
pub document-lined : (form : Form) → IsRescuedLined form
document-lined form doc room k e =
    let i = kept-is form doc room e in
    let s = i.s in
    let f = subst (FitOne depth_limit 0) (sym i.is) (begun-fit form doc room depth_limit 10 s.start s.size s.next 0) in
    (f.fit.lined, (_, _, ap (λ (k : Kept). k.lines) (i.is ∙ begun-compound form doc room 511 s.next 0 s.start s.size), refl), f.fit.few)
