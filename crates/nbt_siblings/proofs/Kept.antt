-- What a reader keeps: the words before its own first record, and with them the records that stand there; and that the words for links are 0.
-- Assumes nothing.
use Prim.Native.Nat.{ℕ, ◌+◌, ◌*◌, ◌≤◌}
use mathlib.Core.Bool.{Bool, true, false}
use mathlib.Core.List.{List, ◌++◌, append_assoc}
use mathlib.Core.Path.{◌≡◌, refl, sym, ap, subst, ◌∙◌}
use native.Mathlib.Omega.{arith}
use lib.ListN.{length, take, drop, take-append-drop, length-append}
use lib.Seq.{take_at, take-take, length-take-le}
use Rattle.form.specs.Answer.{Out, got, ◌>>=◌}
use Rattle.form.specs.Table.{Head, Forest, none, node, size, ◌⊕◌, flat, wrote, holds}
use Rattle.form.specs.Spans.{over}
use lib.Dec.{ltb}
use Rattle.form.specs.Form.{Form}
use Rattle.form.specs.Reading.{One, Inside, Span, one, leaf_at, leaf_one, held_one, payload_by}
use Rattle.form.proofs.Table.{flat-length}
use Rattle.form.proofs.Answer.{bind-got, guard-got}
use Rattle.nbt_siblings.specs.Forests.{spare, Free}

-- the words before the records written
pub wrote_kept : (t : List ℕ) (p n : ℕ) (f : Forest) → 9 * n ≤ length t → take (9 * n) (wrote t p n f) ≡ take (9 * n) t
unfolding wrote over
wrote_kept t p n f h = take_at (take (9 * n) t) (flat p n f ++ drop (9 * n + length (flat p n f)) t) (9 * n) (length-take-le (9 * n) t h)

-- and so the words before those
pub kept_less : (t t' : List ℕ) (m n : ℕ) → m ≤ n → take (9 * n) t' ≡ take (9 * n) t → take (9 * m) t' ≡ take (9 * m) t
kept_less t t' m n h e = sym (take-take (9 * m) (9 * n) t' (omega arith)) ∙ ap (take (9 * m)) e ∙ take-take (9 * m) (9 * n) t (omega arith)

-- records were written from record n on, and then the words before record n' kept: those before n are
pub kept_from : (t t₁ t₂ : List ℕ) (p n n' : ℕ) (f : Forest) → t₁ ≡ wrote t p n f → n' ≡ n + size f → 9 * n ≤ length t → take (9 * n') t₂ ≡ take (9 * n') t₁ → take (9 * n) t₂ ≡ take (9 * n) t
kept_from t t₁ t₂ p n n' f w i h e = kept_less t₁ t₂ n n' (omega arith) e ∙ ap (take (9 * n)) w ∙ wrote_kept t p n f h

-- a list whose front is that of one written over is written over itself
over-at : (t t' base : List ℕ) (i j : ℕ) (ws : List ℕ) → t ≡ over base i ws → j ≡ i + length ws → j ≤ length base → take j t' ≡ take j t → t' ≡ over t' i ws
unfolding over
over-at t t' base i j ws w p h e =
    sym (take-append-drop j t')
    ∙ ap (λ l. l ++ drop j t') front
    ∙ append_assoc (take i base) ws (drop j t')
    ∙ ap (λ l. l ++ (ws ++ drop j t')) (sym head)
    ∙ ap (λ k. take i t' ++ (ws ++ drop k t')) p
  where
    la : length (take i base) ≡ i
    la = length-take-le i base (omega arith)

    lw : length (take i base ++ ws) ≡ j
    lw = length-append (take i base) ws ∙ ap (λ k. k + length ws) la ∙ sym p

    front : take j t' ≡ take i base ++ ws
    front =
        e
        ∙ ap (take j) (w ∙ sym (append_assoc (take i base) ws (drop (i + length ws) base)))
        ∙ take_at (take i base ++ ws) (drop (i + length ws) base) j lw

    head : take i t' ≡ take i base
    head = sym (take-take i j t' (omega arith)) ∙ ap (take i) front ∙ take_at (take i base) ws i la

pub kept-wrote : (t t' base : List ℕ) (p n n' : ℕ) (f : Forest) → t ≡ wrote base p n f → n' ≡ n + size f → 9 * n' ≤ length base → take (9 * n') t' ≡ take (9 * n') t → t' ≡ wrote t' p n f
unfolding wrote
kept-wrote t t' base p n n' f w i h e = over-at t t' base (9 * n) (9 * n') (flat p n f) w (omega (arith, i, flat-length p n f)) h e

-- ---- the words for links

pub free-none : Free none
unfolding Free
free-none = tt

pub free_more : (f : Forest) (h : Head) (inner : Forest) → Free f → spare h ≡ 0 → Free (f ⊕ node h inner none)
unfolding Free ◌⊕◌
free_more none h inner r e = (e, tt)
free_more (node g i later) h inner r e = (r.0, free_more later h inner r.1 e)

-- a record that was read has the word free
pub payload-free : (form : Form) (doc : List ℕ) (room : ℕ) (inside : ℕ → ℕ → ℕ → Out Inside) (kind name len at n : ℕ) {x : One}
    → payload_by form doc room inside kind name len at n ≡ got x → spare x.head ≡ 0
unfolding payload_by leaf_one
payload-free form doc room inside kind name len at n {x} e =
    go (holds kind) refl (guard-got (ltb n room) 8 at (rest (holds kind)) e).1
  where
    leaf : Span → One
    leaf s = one (record { kind = kind; name = name; name_length = len; start = s.start; size = s.size; count = s.count; list_kind = 0 }) none s.next

    rest : Bool → Out One
    rest t = elim t [ true ↦ inside kind at (n + 1) >>= (λ y. got (held_one kind name len y)) | false ↦ leaf_at form doc kind at >>= (λ s. got (leaf s)) ]

    pick : (a b : ℕ) (t : Bool) → holds kind ≡ t → ◌≡◌ {A = ℕ} (elim t [ true ↦ a | false ↦ b ]) 0 → ◌≡◌ {A = ℕ} (elim (holds kind) [ true ↦ a | false ↦ b ]) 0
    pick a b t q z = rw q z

    go : (t : Bool) → holds kind ≡ t → rest t ≡ got x → spare x.head ≡ 0
    go true q f =
        let b = bind-got (inside kind at (n + 1)) (λ y. got (held_one kind name len y)) f in
        let i : held_one kind name len b.0 ≡ x = cc b.2 in
        subst (λ y. spare y.head ≡ 0) i (pick 0 b.0.kind true q refl)
    go false q f =
        let b = bind-got (leaf_at form doc kind at) (λ s. got (leaf s)) f in
        let i : leaf b.0 ≡ x = cc b.2 in
        subst (λ y. spare y.head ≡ 0) i (pick b.0.start 0 false q refl)
