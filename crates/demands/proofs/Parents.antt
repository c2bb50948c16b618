-- The ninth word of a record numbers the tag that it sits in: proved for records side by side and those in them, by their paths.
-- Assumes nothing.
use Prim.Native.Nat.{ℕ, zero, suc, ◌+◌, ◌-◌, ◌<◌}
use mathlib.Core.Path.{◌≡◌, refl, sym, ap, subst, ◌∙◌}
use mathlib.Core.Logic.{⊎_elim}
use mathlib.Core.List.{List, [], ◌∷◌, ◌++◌}
use native.Mathlib.Omega.{arith}
use lib.ListN.{length, take, length-append}
use lib.Seq.{take-append_seam}
use Rattle.form.specs.Form.{Form}
use Rattle.form.specs.Spans.{part}
use Rattle.form.specs.Table.{Forest, none, node, size, word}
use Rattle.form.specs.Paths.{Hop}
use Rattle.form.specs.Records.{Under, hop_of, record_paths}
use Rattle.form.proofs.Paths.{paths-length}
use Rattle.form.proofs.Tables.{under_first, under-inner, under-later, table-under}
use Rattle.demands.specs.Queries.{PathAt}
use Rattle.demands.specs.Parents.{IsRootParent, IsClimbs}
use Rattle.demands.proofs.Numbered.{path-split, table-paths}

-- Paths that are the same with a last level each are the same without it.
same-front : (p q : List Hop) (g h : Hop) → p ++ (g ∷ []) ≡ q ++ (h ∷ []) → p ≡ q
same-front p q g h e =
    let long : length p ≡ length q = omega (arith, ap length e, length-append p (g ∷ []), length-append q (h ∷ [])) in
    sym (take-append_seam p (g ∷ [])) ∙ ap (take (length p)) e ∙ ap (λ (k : ℕ). take k (q ++ (h ∷ []))) long ∙ take-append_seam q (h ∷ [])

-- A place in a list of paths is the same place where others follow.
path-before : (ps qs : List (List Hop)) (j : ℕ) (r : List Hop) → PathAt ps j r → PathAt (ps ++ qs) j r
path-before [] qs j r a = absurd a
path-before (p ∷ ps) qs zero r a = a
path-before (p ∷ ps) qs (suc j) r a = path-before ps qs j r a

-- A place in a list of paths moves on by the length of one put before it.
path-behind : (ps qs : List (List Hop)) (j : ℕ) (r : List Hop) → PathAt qs j r → PathAt (ps ++ qs) (length ps + j) r
path-behind [] qs j r a = let z : j ≡ 0 + j = omega arith in subst (λ (k : ℕ). PathAt qs k r) z a
path-behind (p ∷ ps) qs j r a =
    let z : suc (length ps + j) ≡ suc (length ps) + j = omega arith in
    subst (λ (k : ℕ). PathAt (p ∷ (ps ++ qs)) k r) z (path-behind ps qs j r a)

module _ (all : List (List Hop)) where
  -- Some paths stand among all of them from place n on.
  abbrev From : ℕ → List (List Hop) → Type 0
  From n ps = (j : ℕ) (r : List Hop) → PathAt ps j r → PathAt all (n + j) r

  -- The first of paths that stand from n on stands at n.
  from_first : (n : ℕ) (p : List Hop) (ps : List (List Hop)) → From n (p ∷ ps) → PathAt all n p
  from_first n p ps f = let z : n + 0 ≡ n = omega arith in subst (λ (k : ℕ). PathAt all k p) z (f 0 p refl)

  -- Those right after it stand from the next place on.
  from_inner : (n : ℕ) (p : List Hop) (ps qs : List (List Hop)) → From n (p ∷ (ps ++ qs)) → From (n + 1) ps
  from_inner n p ps qs f j r a =
      let z : n + suc j ≡ n + 1 + j = omega arith in
      subst (λ (k : ℕ). PathAt all k r) z (f (suc j) r (path-before ps qs j r a))

  -- Those after these stand as many places on.
  from-later : (n m : ℕ) (p : List Hop) (ps qs : List (List Hop)) → length ps ≡ m → From n (p ∷ (ps ++ qs)) → From (n + 1 + m) qs
  from-later n m p ps qs long f j r a =
      let z : n + suc (length ps + j) ≡ n + 1 + m + j = omega arith in
      subst (λ (k : ℕ). PathAt all k r) z (f (suc (length ps + j)) r (path-behind ps qs j r a))

module _ (form : Form) (w : List ℕ) (all : List (List Hop)) where
  -- Record n's ninth word is a smaller number, and q is the path at that number.
  abbrev Climbs : ℕ → List Hop → Type 0
  Climbs n q = (word w n 8 < n) × PathAt all (word w n 8) q

  -- Where records stand from n on, in record m, whose path is p, the ninth word of each leads to its path without the last level.
  climb : (doc : List ℕ) (f : Forest) (m n k i : ℕ) (p : List Hop) → Under w m n f → m < n → PathAt all m p → From all n (record_paths doc k i p f)
      → (j : ℕ) (q : List Hop) (h : Hop) → PathAt (record_paths doc k i p f) j (q ++ (h ∷ [])) → Climbs (n + j) q
  unfolding record_paths
  climb doc none m n k i p u l a from j q h b = absurd b
  climb doc (node x inner later) m n k i p u l a from zero q h b =
      let z : n ≡ n + 0 = omega arith in
      let parent : word w n 8 ≡ m = under_first w m n x inner later u in
      let front : p ≡ q = same-front p q (hop_of k i (part doc x.name x.name_length)) h b in
      subst (λ (v : ℕ). Climbs v q) z (omega arith, rw (parent, ← front) a)
  climb doc (node x inner later) m n k i p u l a from (suc j) q h b =
      let r = p ++ (hop_of k i (part doc x.name x.name_length) ∷ []) in
      let ps = record_paths doc x.kind 0 r inner in
      let qs = record_paths doc k (suc i) p later in
      let long = paths-length doc x.kind 0 r inner in
      ⊎_elim
      (λ c.
      let z : n + 1 + j ≡ n + suc j = omega arith in
      let below = climb doc inner n (n + 1) x.kind 0 r (under-inner w m n x inner later u) (omega arith) (from_first all n r (ps ++ qs) from) (from_inner all n r ps qs from) in
      subst (λ (v : ℕ). Climbs v q) z (below j q h c))
      (λ c.
      let le = c.0 in
      let z : n + 1 + size inner + (j - length ps) ≡ n + suc j = omega arith in
      let after = climb doc later m (n + 1 + size inner) k (suc i) p (under-later w m n x inner later u) (omega arith) a (from-later all n (size inner) r ps qs long from) in
      subst (λ (v : ℕ). Climbs v q) z (after (j - length ps) q h c.1))
      (path-split ps qs j (q ++ (h ∷ [])) b)

-- The root's ninth word is 0.
pub root-parent : IsRootParent
root-parent d w t = under_first w 0 0 t.head t.inner none (table-under d w t)

-- The ninth word of a record is the number of the tag whose path is the record's without its last level.
pub climbs : (form : Form) → IsClimbs form
climbs form doc w t n p h a = rw (table-paths form doc w t) (go n (rw (table-paths form doc w t) at a))
  where
    all : List (List Hop)
    all = [] ∷ record_paths doc 10 0 [] t.inner

    from : From all 1 (record_paths doc 10 0 [] t.inner)
    from j r b = let z : suc j ≡ 1 + j = omega arith in subst (λ (k : ℕ). PathAt all k r) z b

    go : (n : ℕ) → PathAt all n (p ++ (h ∷ [])) → Climbs form w all n p
    go zero b = absurd (omega (arith, ap length b, length-append p (h ∷ [])))
    go (suc j) b =
        let z : 1 + j ≡ suc j = omega arith in
        let under = under-inner w 0 0 t.head t.inner none (table-under (length doc) w t) in
        subst (λ (v : ℕ). Climbs form w all v p) z (climb form w all doc t.inner 0 1 10 0 [] under (omega arith) refl from j p h b)
