-- Names in a compound: none of the entries read later has the name of an earlier one.
-- Assumes nothing.
use Prim.Native.Nat.{ℕ}
use mathlib.Core.List.{List, [], ◌∷◌}
use mathlib.Core.Bool.{Bool, true, false, ◌||◌}
use mathlib.Core.Path.{◌≡◌, refl, sym, ap, ◌∙◌}
use borrow.Author.Tests.{eq-eqb}
use Rattle.form.specs.Spans.{part, same}
use Rattle.form.specs.Tree.{Tag, Entries, entry, has_entry}
use Rattle.form.specs.Table.{Head, Forest, none, node, ◌⊕◌}
use Rattle.form.specs.Reading.{has_name}
use Rattle.form.proofs.Spans.{same_true}
use Rattle.form.proofs.Picks.{differ, or_assoc}

pub same_self : (xs : List ℕ) → same xs xs ≡ true
unfolding same
same_self [] = refl
same_self (x ∷ xs) = rw (eq-eqb x x refl) (same_self xs)

module _ (doc : List ℕ) where
  -- no entry of es has the name of an earlier record
  abbrev pub Apart : Forest → Entries → Type 0
  Apart earlier es = (x : List ℕ) → has_name doc x earlier ≡ true → has_entry x es ≡ false

  pub apart_none : (es : Entries) → Apart none es
  unfolding has_name
  apart_none es x e = differ (sym e)

  has_more : (x : List ℕ) (f : Forest) (h : Head) (i : Forest) → has_name doc x (f ⊕ node h i none) ≡ (has_name doc x f || same (part doc h.name h.name_length) x)
  unfolding has_name ◌⊕◌
  has_more x none h i = or-false (same (part doc h.name h.name_length) x)
    where
      or-false : (a : Bool) → (a || false) ≡ a
      or-false true = refl
      or-false false = refl
  has_more x (node g j later) h i = ap (λ b. same (part doc g.name g.name_length) x || b) (has_more x later h i)
      ∙ sym (or_assoc (same (part doc g.name g.name_length) x) (has_name doc x later) (same (part doc h.name h.name_length) x))

  or_right : (a b : Bool) → (a || b) ≡ false → b ≡ false
  or_right true b e = differ e
  or_right false b e = e

  or-true : (a b : Bool) → b ≡ true → (a || b) ≡ true
  or-true true b e = refl
  or-true false b e = e

  -- an entry that stands apart is new
  pub apart-new : (earlier : Forest) (name : List ℕ) (t : Tag) (es : Entries) → Apart earlier (entry name t es) → has_name doc name earlier ≡ false
  unfolding has_entry
  apart-new earlier name t es a = go (has_name doc name earlier) refl
    where
      go : (b : Bool) → has_name doc name earlier ≡ b → b ≡ false
      go false p = refl
      go true p = differ (sym (rw (same_self name) refl) ∙ a name p)

  module _ (earlier : Forest) (h : Head) (i : Forest) (name : List ℕ) (is : part doc h.name h.name_length ≡ name) (t : Tag) (es : Entries) where
    -- those after it stand apart from it too
    pub apart_more : has_entry name es ≡ false → Apart earlier (entry name t es) → Apart (earlier ⊕ node h i none) es
    unfolding has_entry
    apart_more new a x e = go (has_name doc x earlier) refl (sym (has_more x earlier h i) ∙ e)
      where
        go : (b : Bool) → has_name doc x earlier ≡ b → (b || same (part doc h.name h.name_length) x) ≡ true → has_entry x es ≡ false
        go true p f = or_right (same name x) (has_entry x es) (a x p)
        go false p f = let q = sym is ∙ same_true _ x f in rw (← q) new

    -- and back, from the entries after it
    pub apart-back : has_name doc name earlier ≡ false → Apart (earlier ⊕ node h i none) es → Apart earlier (entry name t es) × (has_entry name es ≡ false)
    unfolding has_entry
    apart-back new a = (λ x p. go x p (same name x) refl, a name (has_more name earlier h i ∙ or-true (has_name doc name earlier) _ (rw is (same_self name))))
      where
        go : (x : List ℕ) → has_name doc x earlier ≡ true → (b : Bool) → same name x ≡ b → (b || has_entry x es) ≡ false
        go x p true q = let n = same_true name x q in differ (sym p ∙ rw (← n) new)
        go x p false q = a x (has_more x earlier h i ∙ rw p refl)
