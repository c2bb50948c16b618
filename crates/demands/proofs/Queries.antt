-- The claims of queries: what a read wrote can be asked, the answer is the document's matches, and the matches are those that fit.
-- Assumes nothing.
use Prim.Native.Nat.{ℕ, zero, suc, ◌+◌, ◌-◌, ◌≤◌}
use mathlib.Core.Path.{◌≡◌, refl, ap, subst, ◌∙◌}
use mathlib.Core.Logic.{inl, inr}
use mathlib.Core.List.{List, [], ◌∷◌}
use mathlib.Core.Bool.{Bool, true, false}
use native.Mathlib.Omega.{arith}
use lib.ListN.{length}
use Rattle.form.specs.Form.{Form}
use Rattle.form.specs.Answer.{Out, got, record_limit}
use Rattle.form.specs.Table.{none, node, value_of}
use Rattle.form.specs.Reading.{One, document_at}
use Rattle.form.specs.Paths.{Hop, Step, fits, paths, which, matches}
use Rattle.form.specs.Query.{spelt, asked, within, Finds}
use Rattle.form.proofs.Table.{flat-length, size-one}
use Rattle.demands.specs.Reading.{Bytes}
use Rattle.demands.specs.Writing.{table_value}
use Rattle.demands.specs.Queries.{words_of, IsTabled, IsAnswered, Ascends, IsAscending, Among, PathAt, IsExact}
use Rattle.form.proofs.Answers.{of-got}
use Rattle.demands.proofs.Tabled.{root_is}
use Rattle.demands.proofs.Reading.{sound}

-- ---- what a read wrote

pub tabled : (form : Form) → IsTabled form
tabled form doc bytes room x le e =
    let r = of-got e (root_is form doc room) in
    let s = sound form doc bytes room x e in
    let n = s.records in
    let f = s.fits in (
      record { head = x.head; inner = x.inner; compound = r.compound; fair = r.fair; these = refl },
      record { bytes = s.small; words = omega (arith, flat-length 0 0 (node x.head x.inner none), size-one x.head x.inner) },
    )

-- It stands for the document that was read.
pub tabled-value : (form : Form) (doc : List ℕ) (bytes : Bytes doc) (room : ℕ) (x : One) (le : room ≤ record_limit) (e : document_at form doc room ≡ got x)
    → table_value form doc (words_of x) (tabled form doc bytes room x le e).0 ≡ value_of form doc x.head x.inner
unfolding tabled
tabled-value form doc bytes room x le e = refl

-- Asking a document that was read gives no refusal but 14, which the steps rule out.
asks : (form : Form) (doc : List ℕ) (room : ℕ) (x : One) → document_at form doc room ≡ got x → (q : List ℕ) (ss : List Step) → spelt form q ≡ got ss
    → asked form doc q x.head x.inner ≡ got (matches (value_of form doc x.head x.inner) ss)
unfolding asked
asks form doc room x e q ss sp = rw ((of-got e (root_is form doc room)).deep, sp)

pub answered : (form : Form) → IsAnswered form
unfolding tabled
answered form doc bytes room x le e q ss sp l answer l' h =
    let t = tabled form doc bytes room x le e in
    subst (λ (o : Out (List ℕ)). Finds (within (length l) o) l answer l') (asks form doc room x e q ss sp) (h.fit t.1 t.0)

-- ---- the matches

-- A list begins at n or later.
abbrev From : ℕ → List ℕ → Type 0
From n [] = Unit {0}
From n (m ∷ ms) = n ≤ m

from-later : (n : ℕ) (ms : List ℕ) → From (suc n) ms → From n ms
from-later n [] h = tt
from-later n (m ∷ ms) h = omega arith

-- A number before a list that begins later.
ascends-on : (n : ℕ) (ms : List ℕ) → From (suc n) ms → Ascends ms → Ascends (n ∷ ms)
ascends-on n [] h a = tt
ascends-on n (m ∷ ms) h a = (omega arith, a)

module _ (f : List Hop → Bool) where
  which-from : (n : ℕ) (ps : List (List Hop)) → From n (which f n ps)
  unfolding which
  which-from n [] = tt
  which-from n (p ∷ ps) = go (f p) (which-from (suc n) ps)
    where
      go : (b : Bool) → From (suc n) (which f (suc n) ps) → From n (elim b [ true ↦ n ∷ which f (suc n) ps | false ↦ which f (suc n) ps ])
      go true h = omega arith
      go false h = from-later n (which f (suc n) ps) h

  which-ascends : (n : ℕ) (ps : List (List Hop)) → Ascends (which f n ps)
  unfolding which
  which-ascends n [] = tt
  which-ascends n (p ∷ ps) = go (f p) (which-ascends (suc n) ps)
    where
      go : (b : Bool) → Ascends (which f (suc n) ps) → Ascends (elim b [ true ↦ n ∷ which f (suc n) ps | false ↦ which f (suc n) ps ])
      go true h = ascends-on n (which f (suc n) ps) (which-from (suc n) ps) h
      go false h = h

  -- A number that is listed is that of a path of which f holds.
  abbrev Listed : ℕ → ℕ → List (List Hop) → Type 0
  Listed k n ps = (n ≤ k) × ((p : List Hop) × PathAt ps (k - n) p × (f p ≡ true))

  listed-fits : (k n : ℕ) (ps : List (List Hop)) → Among k (which f n ps) → Listed k n ps
  unfolding which
  listed-fits k n [] a = absurd a
  listed-fits k n (x ∷ xs) a = go (f x) refl (λ b. later (listed-fits k (suc n) xs b)) a
    where
      later : Listed k (suc n) xs → Listed k n (x ∷ xs)
      later r =
          let le = r.0 in
          let e : suc (k - suc n) ≡ k - n = omega arith in
          (omega arith, (r.1.0, subst (λ (j : ℕ). PathAt (x ∷ xs) j r.1.0) e r.1.1, r.1.2))

      go : (b : Bool) → f x ≡ b → (Among k (which f (suc n) xs) → Listed k n (x ∷ xs))
          → Among k (elim b [ true ↦ n ∷ which f (suc n) xs | false ↦ which f (suc n) xs ]) → Listed k n (x ∷ xs)
      go true h ih (inl e) = let z : 0 ≡ k - n = omega arith in (omega arith, (x, subst (λ (j : ℕ). PathAt (x ∷ xs) j x) z refl, h))
      go true h ih (inr b) = ih b
      go false h ih b = ih b

  -- The number of a path of which f holds is listed.
  fits-listed : (j n : ℕ) (ps : List (List Hop)) (p : List Hop) → PathAt ps j p → f p ≡ true → Among (n + j) (which f n ps)
  unfolding which
  fits-listed j n [] p a h = absurd a
  fits-listed zero n (x ∷ xs) p a h = let z : n + 0 ≡ n = omega arith in rw (which, ap f a ∙ h) (inl z)
  fits-listed (suc j) n (x ∷ xs) p a h =
      let z : n + suc j ≡ suc n + j = omega arith in
      rw z (go (f x) (fits-listed j (suc n) xs p a h))
    where
      go : (b : Bool) → Among (suc n + j) (which f (suc n) xs) → Among (suc n + j) (elim b [ true ↦ n ∷ which f (suc n) xs | false ↦ which f (suc n) xs ])
      go true r = inr r
      go false r = r

pub ascending : IsAscending
unfolding matches
ascending d ss = which-ascends (fits ss) 0 (paths d)

pub exact : IsExact
unfolding matches
exact d ss n = (there, back)
  where
    there : Among n (which (fits ss) 0 (paths d)) → (p : List Hop) × PathAt (paths d) n p × (fits ss p ≡ true)
    there a =
        let r = listed-fits (fits ss) n 0 (paths d) a in
        let z : n - 0 ≡ n = omega arith in
        (r.1.0, subst (λ (j : ℕ). PathAt (paths d) j r.1.0) z r.1.1, r.1.2)

    back : ((p : List Hop) × PathAt (paths d) n p × (fits ss p ≡ true)) → Among n (which (fits ss) 0 (paths d))
    back r =
        let z : 0 + n ≡ n = omega arith in
        subst (λ (j : ℕ). Among j (which (fits ss) 0 (paths d))) z (fits-listed (fits ss) n 0 (paths d) r.0 r.1 r.2)
