-- Laws of paths (rule 9): those of the values that records stand for, told from the records; and the numbers of the paths that fit.
-- Assumes nothing.
use Prim.Native.Nat.{ℕ, suc, ◌+◌, ◌≤◌}
use mathlib.Core.Path.{◌≡◌, refl, sym, ap, ◌∙◌}
use mathlib.Core.Logic.{◌⊎◌, inl, inr}
use mathlib.Core.List.{List, [], ◌∷◌, ◌++◌, append_assoc}
use mathlib.Core.Bool.{Bool, true, false}
use native.Mathlib.Omega.{arith}
use lib.IntN.{ℤ}
use lib.ListN.{length, length-append}
use lib.Dec.{eqb}
use borrow.Author.Tests.{ne_eqb}
use Rattle.form.specs.Form.{Form}
use Rattle.form.specs.Answer.{pick}
use Rattle.form.specs.Spans.{part}
use Rattle.form.specs.Tree.{Tags, Entries, byte, short, int, long, float, double, byte_array, string, int_array, long_array}
use Rattle.form.specs.Table.{Head, Forest, none, node, size, value_by, tags_of, entries_of, value_of}
use Rattle.form.specs.Tables.{LeafIs, ContainerIs, Fair, leaf_fits}
use Rattle.form.specs.Records.{hop_of, record_paths}
use Rattle.form.specs.Paths.{Hop, named, item, tag_paths, item_paths, entry_paths, paths, which}
use Rattle.form.proofs.Picks.{differ}
use Rattle.form.proofs.Leaves.{held-kind}
use Rattle.form.proofs.Tables.{fair-first, fair-inner, fair-later}

-- ---- the paths of records

module _ (doc : List ℕ) where
  -- One path to a record.
  pub paths-length : (k i : ℕ) (p : List Hop) (f : Forest) → length (record_paths doc k i p f) ≡ size f
  unfolding record_paths size
  paths-length k i p none = refl
  paths-length k i p (node h inner later) =
      let q = p ++ (hop_of k i (part doc h.name h.name_length) ∷ []) in
      omega (
        arith,
        length-append (record_paths doc h.kind 0 q inner) (record_paths doc k (suc i) p later),
        paths-length h.kind 0 q inner,
        paths-length k (suc i) p later,
      )

-- ---- the paths of the values that records stand for

module _ (form : Form) (doc : List ℕ) where
  module _ (h : Head) (ts : Tags) (es : Entries) (p : List Hop) where
    list-paths : h.kind ≡ 9 → tag_paths p (value_by form doc h ts es) ≡ p ∷ item_paths p 0 ts
    unfolding value_by tag_paths
    list-paths e = rw e

    compound-paths : h.kind ≡ 10 → tag_paths p (value_by form doc h ts es) ≡ p ∷ entry_paths p es
    unfolding value_by tag_paths
    compound-paths e = rw e

    -- A tag of any other kind has its own path alone.
    alone : (a b c d e f g i j : Bool) (v₁ v₂ v₃ v₄ : ℤ) (v₅ v₆ : ℕ) (v₇ : List ℤ) (v₈ : List ℕ) (v₉ v₁₀ : List ℤ)
        → tag_paths p (pick a (byte v₁) (pick b (short v₂) (pick c (int v₃) (pick d (long v₄) (pick e (float v₅) (pick f (double v₆)
        (pick g (byte_array v₇) (pick i (string v₈) (pick j (int_array v₉) (long_array v₁₀))))))))))
        ≡ p ∷ []
    unfolding tag_paths
    alone true b c d e f g i j v₁ v₂ v₃ v₄ v₅ v₆ v₇ v₈ v₉ v₁₀ = refl
    alone false true c d e f g i j v₁ v₂ v₃ v₄ v₅ v₆ v₇ v₈ v₉ v₁₀ = refl
    alone false false true d e f g i j v₁ v₂ v₃ v₄ v₅ v₆ v₇ v₈ v₉ v₁₀ = refl
    alone false false false true e f g i j v₁ v₂ v₃ v₄ v₅ v₆ v₇ v₈ v₉ v₁₀ = refl
    alone false false false false true f g i j v₁ v₂ v₃ v₄ v₅ v₆ v₇ v₈ v₉ v₁₀ = refl
    alone false false false false false true g i j v₁ v₂ v₃ v₄ v₅ v₆ v₇ v₈ v₉ v₁₀ = refl
    alone false false false false false false true i j v₁ v₂ v₃ v₄ v₅ v₆ v₇ v₈ v₉ v₁₀ = refl
    alone false false false false false false false true j v₁ v₂ v₃ v₄ v₅ v₆ v₇ v₈ v₉ v₁₀ = refl
    alone false false false false false false false false true v₁ v₂ v₃ v₄ v₅ v₆ v₇ v₈ v₉ v₁₀ = refl
    alone false false false false false false false false false v₁ v₂ v₃ v₄ v₅ v₆ v₇ v₈ v₉ v₁₀ = refl

    leaf-paths : eqb h.kind 9 ≡ false → eqb h.kind 10 ≡ false → tag_paths p (value_by form doc h ts es) ≡ p ∷ []
    unfolding value_by
    leaf-paths e f = rw (e, f) (alone (is 1) (is 2) (is 3) (is 4) (is 5) (is 6) (is 7) (is 8) (is 11) _ _ _ _ _ _ _ _ _ _)
      where
        is : ℕ → Bool
        is k = eqb h.kind k

  -- What holds no records is of none of the two kinds that do.
  leaf-kind : (d : ℕ) (h : Head) (inner : Forest) → LeafIs d h inner → (k : ℕ) → (k ≡ 9) ⊎ (k ≡ 10) → h.kind ≡ k → ⊥
  unfolding leaf_fits
  leaf-kind d h inner l k (inl a) e = differ (sym (rw (e, a) at l.fits))
  leaf-kind d h inner l k (inr a) e = differ (sym (rw (e, a) at l.fits))

  -- The paths of a record's value are its own and those of the records in it.
  value-paths : (d : ℕ) (h : Head) (inner : Forest) → LeafIs d h inner ⊎ ContainerIs h inner
      → ((p : List Hop) → (item_paths p 0 (tags_of form doc inner) ≡ record_paths doc 9 0 p inner) × (entry_paths p (entries_of form doc inner) ≡ record_paths doc 10 0 p inner))
      → (p : List Hop) → tag_paths p (value_by form doc h (tags_of form doc inner) (entries_of form doc inner)) ≡ p ∷ record_paths doc h.kind 0 p inner
  unfolding record_paths
  value-paths d h inner (inl l) ih p =
      rw l.bare
      (leaf-paths h _ _ p (ne_eqb h.kind 9 (leaf-kind d h inner l 9 (inl refl))) (ne_eqb h.kind 10 (leaf-kind d h inner l 10 (inr refl))))
  value-paths d h inner (inr c) ih p = go (held-kind h.kind c.kind)
    where
      go : (h.kind ≡ 9) ⊎ (h.kind ≡ 10) → tag_paths p (value_by form doc h (tags_of form doc inner) (entries_of form doc inner)) ≡ p ∷ record_paths doc h.kind 0 p inner
      go (inl e) = list-paths h _ _ p e ∙ rw (e, (ih p).0)
      go (inr e) = compound-paths h _ _ p e ∙ rw (e, (ih p).1)

  -- The paths of the values that records stand for, as elements and as entries, are the records' own.
  pub side-paths : (d : ℕ) (l : Bool) (f : Forest) → Fair d l f → (i : ℕ) (p : List Hop)
      → (item_paths p i (tags_of form doc f) ≡ record_paths doc 9 i p f) × (entry_paths p (entries_of form doc f) ≡ record_paths doc 10 i p f)
  unfolding tag_paths item_paths entry_paths tags_of entries_of record_paths hop_of
  side-paths d l none g i p = (refl, refl)
  side-paths d l (node h inner later) g i p =
      let v = value-paths d h inner (fair-first d l h inner later g) (side-paths d (eqb h.kind 9) inner (fair-inner d l h inner later g) 0) in
      let r = side-paths d l later (fair-later d l h inner later g) (suc i) p in
      let a = v (p ++ (item i ∷ [])) in
      let b = v (p ++ (named (part doc h.name h.name_length) ∷ [])) in
      let x = r.0 in
      let y = r.1 in
      (rw (a, x), rw (b, y))

  -- The paths of a document's tags are those of its records: the tag at place k of the file is record k.
  pub tree-paths : (d : ℕ) (h : Head) (inner : Forest) → Fair d false inner → paths (value_of form doc h inner) ≡ [] ∷ record_paths doc 10 0 [] inner
  unfolding paths tag_paths
  tree-paths d h inner g = ap (λ ps. [] ∷ ps) (side-paths d false inner g 0 []).1

-- ---- the numbers of the paths that fit

module _ (f : List Hop → Bool) where
  -- Those of paths one after the other.
  pub which-append : (n : ℕ) (ps qs : List (List Hop)) → which f n (ps ++ qs) ≡ which f n ps ++ which f (n + length ps) qs
  unfolding which
  which-append n [] qs = let z : n + 0 ≡ n = omega arith in rw z
  which-append n (p ∷ ps) qs =
      let z : n + suc (length ps) ≡ suc n + length ps = omega arith in
      rw z (go (f p) (which-append (suc n) ps qs))
    where
      go : (b : Bool) → which f (suc n) (ps ++ qs) ≡ which f (suc n) ps ++ which f (suc n + length ps) qs
          → elim b [ true ↦ n ∷ which f (suc n) (ps ++ qs) | false ↦ which f (suc n) (ps ++ qs) ]
          ≡ elim b [ true ↦ n ∷ which f (suc n) ps | false ↦ which f (suc n) ps ] ++ which f (suc n + length ps) qs
      go true e = ap (λ l. n ∷ l) e
      go false e = e

  -- At most as many as there are paths.
  pub which-length : (n : ℕ) (ps : List (List Hop)) → length (which f n ps) ≤ length ps
  unfolding which
  which-length n [] = omega arith
  which-length n (p ∷ ps) = go (f p) (which-length (suc n) ps)
    where
      go : (b : Bool) → length (which f (suc n) ps) ≤ length ps → length {A = ℕ} (elim b [ true ↦ n ∷ which f (suc n) ps | false ↦ which f (suc n) ps ]) ≤ suc (length ps)
      go true e = omega arith
      go false e = omega arith

  -- Where a path goes on below p and none such fits, none is found.
  pub which-below : (doc : List ℕ) (k i n : ℕ) (p : List Hop) (g : Forest) → ((h : Hop) (hs : List Hop) → f (p ++ (h ∷ hs)) ≡ false) → which f n (record_paths doc k i p g) ≡ []
  unfolding which record_paths
  which-below doc k i n p none e = refl
  which-below doc k i n p (node h inner later) e =
      let q = hop_of k i (part doc h.name h.name_length) in
      let here : f (p ++ (q ∷ [])) ≡ false = e q [] in
      let a = which-below doc h.kind 0 (suc n) (p ++ (q ∷ [])) inner (λ x xs. ap f (append_assoc p (q ∷ []) (x ∷ xs)) ∙ e q (x ∷ xs)) in
      let b = which-below doc k (suc i) (suc n + length (record_paths doc h.kind 0 (p ++ (q ∷ [])) inner)) p later e in
      rw here (which-append (suc n) (record_paths doc h.kind 0 (p ++ (q ∷ [])) inner) (record_paths doc k (suc i) p later) ∙ rw (a, b))
