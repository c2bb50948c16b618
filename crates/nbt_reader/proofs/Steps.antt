-- Steps of the proofs that are about plain values: they stand here, over variables, since `rw` at the terms of a place is slow or refused.
-- Assumes nothing.
use Prim.Native.Nat.{ℕ, ◌+◌, ◌*◌, ◌≤◌, ◌<◌}
use mathlib.Core.List.{List}
use mathlib.Core.Path.{◌≡◌, refl, sym, ap, ◌∙◌}
use lib.ListN.{length}
use lib.Dec.{eqb}
use mathlib.Core.Bool.{Bool, true, false, not, ◌||◌}
use Rattle.form.specs.Form.{Form}
use Rattle.form.specs.Answer.{Out, got, no, ◌>>◌, guard}
use Rattle.form.specs.Table.{Forest, none, node, size, width, wrote, width_of, holds}
use Rattle.form.specs.Spans.{over}
use Rattle.form.specs.Reading.{Inside, One, Run, held_one, bytes_at, leaf_at}
use Rattle.form.proofs.Table.{wrote-head}
use Rattle.form.proofs.Fields.{bytes-got, bytes-no, leaf-fixed}
use Rattle.table.specs.declared.Record.{Record}
use Rattle.table.specs.Records.{record_words, container_of}
use Rattle.std.specs.Prelude.{Some, Result, Ok, Err}
use Rattle.nbt_siblings.specs.Forests.{place_out}
use Rattle.form.specs.declared.refusals.Refused.{Refused}
use Rattle.nbt_reader.specs.declared.bodies.Step.{Step}
use Rattle.nbt_reader.specs.declared.settling.Ran.{Ran}
use Rattle.nbt_reader.specs.Steps.{Filled, Stepped, Went, Kept, Settled, Finished, EntrySettled}
use native.Mathlib.Omega.{arith}
use borrow.Author.Tests.{eq-eqb, ne_eqb, eqb-false}

-- lists and compounds hold records, and no other kind does
pub holds_not : (k : ℕ) → (k ≡ 9 → ⊥) → (k ≡ 10 → ⊥) → holds k ≡ false
holds_not k d e = simp (ne_eqb k 9 d, ne_eqb k 10 e)

pub holds-below : (k : ℕ) → k < 9 → holds k ≡ false
holds-below k h = holds_not k (λ e. omega (arith, e, h)) (λ e. omega (arith, e, h))

pub holds-between : (k : ℕ) → 9 ≤ k → k ≤ 10 → holds k ≡ true
holds-between k h l = go (eqb k 9) refl
  where
    go : (b : Bool) → eqb k 9 ≡ b → (eqb k 9 || eqb k 10) ≡ true
    go true e = rw e refl
    go false e = rw (e, eq-eqb k 10 (omega (arith, eqb-false k 9 e, h, l))) refl

-- kinds 1 to 6, whose width is known
pub fixed-got : (form : Form) (doc : List ℕ) (kind at w : ℕ) → kind < 7 → w ≡ width_of kind → at + w ≤ length doc
    → leaf_at form doc kind at ≡ got (record { start = at; size = w; count = 0; next = at + w })
fixed-got form doc kind at w h e l = leaf-fixed form doc kind at h ∙ ap (λ x. bytes_at doc x 0 at) (sym e) ∙ bytes-got doc w 0 at l

pub fixed_no : (form : Form) (doc : List ℕ) (kind at w : ℕ) → kind < 7 → w ≡ width_of kind → length doc < at + w → leaf_at form doc kind at ≡ no 1 at
fixed_no form doc kind at w h e l = leaf-fixed form doc kind at h ∙ ap (λ x. bytes_at doc x 0 at) (sym e) ∙ bytes-no doc w 0 at l

-- a container's own record, written before those in it
pub held-table : (above n : ℕ) {doc : List ℕ} {cap : ℕ} {o : Out Inside} {at' n' count inner at : ℕ} {t t₁ : List ℕ}
    (s : Filled doc cap o at' n' count inner at n (n + 1) t t₁)
    {r : Record} {kind name len : ℕ} {t₂ : List ℕ}
    → r ≡ container_of kind name len count inner n' above
    → t₂ ≡ over t₁ (9 * n) (record_words r)
    → 9 * n + 9 ≤ length t
    → t₂ ≡ wrote t above n (node (held_one kind name len s.x).head s.x.forest none)
held-table above n {t} s {kind} {name} {len} e f l =
    f ∙ rw (e, s.table, s.count_is, s.kind_is, s.n_is) (wrote-head t above n (held_one kind name len s.x).head s.x.forest l)

-- a step that goes on from a place goes on from 0
pub stepped-from : (r : Result Step Refused) (doc : List ℕ) (cap : ℕ) (o : Out One) (at above n : ℕ) (t t' : List ℕ)
    → Stepped doc cap o at above n t t' r → Stepped doc cap o 0 above n t t' r
stepped-from (Ok x) doc cap o at above n t t' s =
    record { x = s.x; is = s.is; at_is = s.at_is; n_is = s.n_is; table = s.table; on = omega arith; at_le = s.at_le; n_le = s.n_le }
stepped-from (Err e) doc cap o at above n t t' s = s

-- ---- a refusal, unless a name is repeated before it

pub settled_at : (o : Out (Unit {0})) (n p q : ℕ) → place_out (Some q) ≡ o → ◌>>◌ {A = Unit {0}} {B = Run} o (no n p) ≡ no 6 q
settled_at o n p q e = rw (← e) refl

pub settled-went : (r : Refused) (doc : List ℕ) (cap : ℕ) (whole : Out Run) (at above n : ℕ) (t t' : List ℕ) (o o' : Out (Unit {0})) (m p : ℕ)
    → Settled o m p r → whole ≡ (o' >> no m p) → o' ≡ o → Kept n t t' → Went doc cap whole at above n t t' (Err r)
settled-went r doc cap whole at above n t t' o o' m p h w e g = (w ∙ ap (λ u. ◌>>◌ {A = Unit {0}} {B = Run} u (no m p)) e ∙ h, g)

pub entry-settled-went : (r : Refused) (doc : List ℕ) (cap : ℕ) (whole : Out Run) (at above n : ℕ) (t t' : List ℕ) (o o' : Out (Unit {0})) (b b' : Bool) (here m p : ℕ)
    → EntrySettled o b here m p r → whole ≡ (o' >> (guard (not b') 6 here >> no m p)) → o' ≡ o → b' ≡ b → Kept n t t' → Went doc cap whole at above n t t' (Err r)
entry-settled-went r doc cap whole at above n t t' o o' b b' here m p h w e f g =
    (w ∙ (λ i. ◌>>◌ {A = Unit {0}} {B = Run} (e i) (guard (not (f i)) 6 here >> no m p)) ∙ h, g)

pub finished-went : (r : Result Ran Refused) (doc : List ℕ) (cap : ℕ) (whole : Out Run) (from above n : ℕ) (t t' : List ℕ) (o o' : Out (Unit {0})) (at next count : ℕ) (acc : Forest)
    → Finished o at next count r → whole ≡ (o' >> got (record { forest = acc; next = at })) → o' ≡ o → Kept n t t'
    → next ≡ n + size acc → count ≡ width acc → t' ≡ wrote t above n acc → from ≤ at → at ≤ length doc → next ≤ cap → Went doc cap whole from above n t t' r
finished-went (Err r) doc cap whole from above n t t' o o' at next count acc h w e g ni ci ti on al nl =
    (w ∙ ap (λ u. ◌>>◌ {A = Unit {0}} {B = Run} u (got (record { forest = acc; next = at }))) (e ∙ h), g)
finished-went (Ok r) doc cap whole from above n t t' o o' at next count acc h w e g ni ci ti on al nl = record {
  x = record { forest = acc; next = at };
  is = w ∙ ap (λ u. ◌>>◌ {A = Unit {0}} {B = Run} u (got (record { forest = acc; next = at }))) (e ∙ h.0);
  at_is = h.1;
  n_is = h.2 ∙ ni;
  count_is = h.3 ∙ ci;
  table = ti;
  on = omega (arith, on, h.1);
  at_le = omega (arith, al, h.1);
  n_le = omega (arith, nl, h.2);
}
