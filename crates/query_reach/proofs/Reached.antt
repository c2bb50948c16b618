-- What `reached` says of rule 9's `fits`, and of a path that goes on: a path fits exactly where the end may come next after it; what may come
-- next after a longer path comes from what may after its beginning. And the set of a path in these terms.
-- Assumes nothing.
use Prim.Native.Nat.{ℕ, zero, suc, ◌-◌, ◌/◌, ◌≤◌}
use mathlib.Core.Path.{◌≡◌, refl, sym, ap, ap₂, subst, ◌∙◌}
use mathlib.Core.Logic.{◌⊎◌, inl, inr}
use mathlib.Core.List.{List, [], ◌∷◌, ◌++◌}
use mathlib.Core.Bool.{Bool, true, false, ◌||◌, ◌&&◌}
use native.Mathlib.Omega.{arith}
use lib.ListN.{length}
use lib.Dec.{eqb, eqb-zero-suc}
use borrow.Author.Tests.{eqb-true, eq-eqb, leb-true}
use Rattle.form.specs.Answer.{pick}
use Rattle.form.specs.Spans.{among}
use Rattle.form.specs.Paths.{Hop, named, item, Step, name, index, any, deep, takes, one_then, some_tail, fits}
use Rattle.form.proofs.Spans.{same_self}
use Rattle.query_reach.specs.Reached.{hop_then, deep_then, reached, last_of, is_deep, deep_at}
use Rattle.query_reach.specs.Sets.{has, goes_on}
use Rattle.query_reach.specs.Plans.{planned, Reaches}
use Rattle.query_reach.proofs.Bools.{no_way, or_left, or_right, or_cases, or-false, or-implied}
use Rattle.form.proofs.Picks.{or_assoc}
use Rattle.query_reach.proofs.Sets.{has-suc, some-bit, off-steps}

-- ---- what is among some numbers

pick-or : (a b : Bool) → pick a true b ≡ (a || b)
pick-or true b = refl
pick-or false b = refl

pub among-cons : (x : ℕ) (l : List ℕ) (k : ℕ) → among (x ∷ l) k ≡ (eqb k x || among l k)
unfolding among
among-cons x l k = pick-or (eqb k x) (among l k)

pub among-append : (l m : List ℕ) (k : ℕ) → among (l ++ m) k ≡ (among l k || among m k)
unfolding among
among-append [] m k = refl
among-append (x ∷ l) m k = among-cons x (l ++ m) k ∙ rw (among-append l m k) (sym (rw (among-cons x l k) (or_assoc (eqb k x) (among l k) (among m k))))

-- The one of one, and the first or another of more.
one-or-more : (x : ℕ) (l : List ℕ) (k : ℕ) → among (x ∷ l) k ≡ true → (k ≡ x) ⊎ (among l k ≡ true)
one-or-more x l k e = go (or_cases (eqb k x) (among l k) (sym (among-cons x l k) ∙ e))
  where
    go : (eqb k x ≡ true) ⊎ (among l k ≡ true) → (k ≡ x) ⊎ (among l k ≡ true)
    go (inl i) = inl (eqb-true k x i)
    go (inr i) = inr i

only_one : (x k : ℕ) → among (x ∷ []) k ≡ true → k ≡ x
unfolding among
only_one x k e = go (one-or-more x [] k e)
  where
    go : (k ≡ x) ⊎ (false ≡ true) → k ≡ x
    go (inl i) = i
    go (inr i) = no_way false i refl

picked : (b : Bool) (l : List ℕ) (k : ℕ) → among (pick b l []) k ≡ true → among l k ≡ true
unfolding among
picked true l k e = e
picked false l k e = no_way false e refl

-- Whether g holds of one of some numbers.
unfoldable pub some : (ℕ → Bool) → List ℕ → Bool
some g [] = false
some g (x ∷ l) = g x || some g l

some-append : (g : ℕ → Bool) (l m : List ℕ) → some g (l ++ m) ≡ (some g l || some g m)
unfolding some
some-append g [] m = refl
some-append g (x ∷ l) m = rw (some-append g l m) (sym (or_assoc (g x) (some g l) (some g m)))

some-none : (g : ℕ → Bool) (l : List ℕ) → ((j : ℕ) → among l j ≡ true → g j ≡ false) → some g l ≡ false
unfolding some
some-none g [] h = refl
some-none g (x ∷ l) h =
    rw (h x (among-cons x l x ∙ or_left (eqb x x) (among l x) (eq-eqb x x refl)))
    (some-none g l (λ j e. h j (among-cons x l j ∙ or_right (eqb j x) (among l j) e)))

pub some_in : (g : ℕ → Bool) (l : List ℕ) (j : ℕ) → among l j ≡ true → g j ≡ true → some g l ≡ true
unfolding some among
some_in g [] j a e = no_way true refl (sym a)
some_in g (x ∷ l) j a e = go (λ i. some_in g l j i e) (or_cases (eqb j x) (among l j) (sym (among-cons x l j) ∙ a))
  where
    go : (among l j ≡ true → some g l ≡ true) → (eqb j x ≡ true) ⊎ (among l j ≡ true) → (g x || some g l) ≡ true
    go ih (inl i) = or_left (g x) (some g l) (subst (λ (n : ℕ). g n ≡ true) (eqb-true j x i) e)
    go ih (inr i) = or_right (g x) (some g l) (ih i)

-- One of them of which it holds.
pub record OneOf (g : ℕ → Bool) (l : List ℕ) : Type 0 where
  pub number : ℕ
  pub is_in : among l number ≡ true
  pub holds : g number ≡ true

pub some_out : (g : ℕ → Bool) (l : List ℕ) → some g l ≡ true → OneOf g l
unfolding some
some_out g [] e = no_way false e refl
some_out g (x ∷ l) e = go (some_out g l) (or_cases (g x) (some g l) e)
  where
    go : (some g l ≡ true → OneOf g l) → (g x ≡ true) ⊎ (some g l ≡ true) → OneOf g (x ∷ l)
    go ih (inl i) = record { number = x; is_in = among-cons x l x ∙ or_left (eqb x x) (among l x) (eq-eqb x x refl); holds = i }
    go ih (inr i) = let v = ih i in record { number = v.number; is_in = among-cons x l v.number ∙ or_right (eqb v.number x) (among l v.number) v.is_in; holds = v.holds }

-- ---- the first step and the first hop

reached-one : (x : Step) (ss : List Step) (hs : List Hop) → is_deep x ≡ false → reached (x ∷ ss) hs ≡ hop_then x (suc (length ss)) (reached ss) hs
unfolding reached
reached-one (name n) ss hs e = refl
reached-one (index i) ss hs e = refl
reached-one any ss hs e = refl
reached-one deep ss hs e = no_way (is_deep deep) refl e

reached-deep : (x : Step) (ss : List Step) (hs : List Hop) → is_deep x ≡ true → reached (x ∷ ss) hs ≡ deep_then (suc (length ss)) (reached ss) hs
unfolding reached
reached-deep (name n) ss hs e = no_way (is_deep (name n)) e refl
reached-deep (index i) ss hs e = no_way (is_deep (index i)) e refl
reached-deep any ss hs e = no_way (is_deep any) e refl
reached-deep deep ss hs e = refl

fits_one : (x : Step) (ss : List Step) (hs : List Hop) → is_deep x ≡ false → fits (x ∷ ss) hs ≡ one_then x (fits ss) hs
unfolding fits
fits_one (name n) ss hs e = refl
fits_one (index i) ss hs e = refl
fits_one any ss hs e = refl
fits_one deep ss hs e = no_way (is_deep deep) refl e

fits-deep : (x : Step) (ss : List Step) (hs : List Hop) → is_deep x ≡ true → fits (x ∷ ss) hs ≡ some_tail (fits ss) hs
unfolding fits
fits-deep (name n) ss hs e = no_way (is_deep (name n)) e refl
fits-deep (index i) ss hs e = no_way (is_deep (index i)) e refl
fits-deep any ss hs e = no_way (is_deep any) e refl
fits-deep deep ss hs e = refl

module _ (f : ℕ → Step) where
  last-length : (s : ℕ) → length (last_of f s) ≡ s
  unfolding last_of
  last-length zero = refl
  last-length (suc s) = ap suc (last-length s)

  -- What may come next from step s on after a path.
  abbrev pub from : ℕ → List Hop → List ℕ
  from s hs = reached (last_of f s) hs

  -- No step is left.
  pub end-end : from 0 [] ≡ 0 ∷ []
  unfolding reached last_of
  end-end = refl

  pub end-hop : (h : Hop) (hs : List Hop) → from 0 (h ∷ hs) ≡ []
  unfolding reached last_of
  end-hop h hs = refl

  module _ (s : ℕ) where
    module _ (d : is_deep (f (suc s)) ≡ false) where
      -- A step that takes one level.
      pub one_end : from (suc s) [] ≡ suc s ∷ []
      unfolding last_of hop_then
      one_end = reached-one (f (suc s)) (last_of f s) [] d ∙ ap (λ (n : ℕ). suc n ∷ []) (last-length s)

      pub one-hop : (h : Hop) (hs : List Hop) → from (suc s) (h ∷ hs) ≡ pick (takes (f (suc s)) h) (from s hs) []
      unfolding last_of hop_then
      one-hop h hs = reached-one (f (suc s)) (last_of f s) (h ∷ hs) d

    module _ (d : is_deep (f (suc s)) ≡ true) where
      -- 04.
      pub deep-end : from (suc s) [] ≡ suc s ∷ from s []
      unfolding last_of deep_then
      deep-end = reached-deep (f (suc s)) (last_of f s) [] d ∙ ap (λ (n : ℕ). suc n ∷ from s []) (last-length s)

      pub deep-hop : (h : Hop) (hs : List Hop) → from (suc s) (h ∷ hs) ≡ from s (h ∷ hs) ++ from (suc s) hs
      unfolding last_of deep_then
      deep-hop h hs =
          reached-deep (f (suc s)) (last_of f s) (h ∷ hs) d
          ∙ ap (λ (l : List ℕ). from s (h ∷ hs) ++ l) (sym (reached-deep (f (suc s)) (last_of f s) hs d))

  -- ---- the end, and whether the path fits

  pub reached-fits : (s : ℕ) (hs : List Hop) → fits (last_of f s) hs ≡ among (from s hs) 0
  unfolding last_of one_then some_tail among
  reached-fits zero [] = unfold fits reached in refl
  reached-fits zero (h ∷ hs) = unfold fits reached in refl
  reached-fits (suc s) hs = go (reached-fits s) (is_deep (f (suc s))) refl hs
    where
      after : (b : Bool) (x : Bool) (l : List ℕ) → x ≡ among l 0 → (b && x) ≡ among (pick b l []) 0
      after true x l e = e
      after false x l e = refl

      -- The step itself is not the end.
      other : (l : List ℕ) → among (suc s ∷ l) 0 ≡ among l 0
      other l = among-cons (suc s) l 0 ∙ rw (eqb-zero-suc s)

      go : ((hs : List Hop) → fits (last_of f s) hs ≡ among (from s hs) 0) → (b : Bool) → is_deep (f (suc s)) ≡ b → (hs : List Hop) → fits (last_of f (suc s)) hs ≡ among (from (suc s) hs) 0
      go ih false d [] = fits_one (f (suc s)) (last_of f s) [] d ∙ sym (rw (one_end s d) (other []))
      go ih false d (h ∷ hs) =
          fits_one (f (suc s)) (last_of f s) (h ∷ hs) d
          ∙ rw (one-hop s d h hs) (after (takes (f (suc s)) h) (fits (last_of f s) hs) (from s hs) (ih hs))
      go ih true d [] = fits-deep (f (suc s)) (last_of f s) [] d ∙ ih [] ∙ sym (rw (deep-end s d) (other (from s [])))
      go ih true d (h ∷ hs) =
          fits-deep (f (suc s)) (last_of f s) (h ∷ hs) d
          ∙ rw (ih (h ∷ hs), ← fits-deep (f (suc s)) (last_of f s) hs d, go ih true d hs, deep-hop s d h hs) (sym (among-append (from s (h ∷ hs)) (from (suc s) hs) 0))

  -- ---- what is among them

  module _ (k s : ℕ) where
    -- After a hop: what 04 passes on to, or what it has once it took the hop; what a step that takes the hop goes on to.
    deep_in : (d : is_deep (f (suc s)) ≡ true) (h : Hop) (p : List Hop) → among (from (suc s) (h ∷ p)) k ≡ true → (among (from s (h ∷ p)) k ≡ true) ⊎ (among (from (suc s) p) k ≡ true)
    deep_in d h p e =
        or_cases (among (from s (h ∷ p)) k) (among (from (suc s) p) k)
        (sym (among-append (from s (h ∷ p)) (from (suc s) p) k) ∙ sym (ap (λ (l : List ℕ). among l k) (deep-hop s d h p)) ∙ e)

    pub in-passed : (d : is_deep (f (suc s)) ≡ true) (h : Hop) (p : List Hop) → among (from s (h ∷ p)) k ≡ true → among (from (suc s) (h ∷ p)) k ≡ true
    in-passed d h p e =
        rw (deep-hop s d h p, among-append (from s (h ∷ p)) (from (suc s) p) k) (or_left (among (from s (h ∷ p)) k) (among (from (suc s) p) k) e)

    in-stayed : (d : is_deep (f (suc s)) ≡ true) (h : Hop) (p : List Hop) → among (from (suc s) p) k ≡ true → among (from (suc s) (h ∷ p)) k ≡ true
    in-stayed d h p e =
        rw (deep-hop s d h p, among-append (from s (h ∷ p)) (from (suc s) p) k) (or_right (among (from s (h ∷ p)) k) (among (from (suc s) p) k) e)

    one_in : (d : is_deep (f (suc s)) ≡ false) (h : Hop) (p : List Hop) → among (from (suc s) (h ∷ p)) k ≡ true → among (from s p) k ≡ true
    one_in d h p e = picked (takes (f (suc s)) h) (from s p) k (sym (ap (λ (l : List ℕ). among l k) (one-hop s d h p)) ∙ e)

    -- At the end of the path: the step itself, and what 04 passes on to.
    pub deep-last : (d : is_deep (f (suc s)) ≡ true) → among (from (suc s) []) k ≡ true → (k ≡ suc s) ⊎ (among (from s []) k ≡ true)
    deep-last d e = one-or-more (suc s) (from s []) k (sym (ap (λ (l : List ℕ). among l k) (deep-end s d)) ∙ e)

    pub last-passed : (d : is_deep (f (suc s)) ≡ true) → among (from s []) k ≡ true → among (from (suc s) []) k ≡ true
    last-passed d e = rw (deep-end s d, among-cons (suc s) (from s []) k) (or_right (eqb k (suc s)) (among (from s []) k) e)

    pub one_last : (d : is_deep (f (suc s)) ≡ false) → among (from (suc s) []) k ≡ true → k ≡ suc s
    one_last d e = only_one (suc s) k (sym (ap (λ (l : List ℕ). among l k) (one_end s d)) ∙ e)

  -- ---- a path that goes on

  -- What may come next after p and then hs is what may after hs from a step that may come next after p.
  pub reached_then : (k s : ℕ) (p hs : List Hop) → among (from s (p ++ hs)) k ≡ some (λ j. among (from j hs) k) (from s p)
  unfolding some among
  reached_then k zero [] hs = rw end-end (sym (or-false (among (from 0 hs) k)))
  reached_then k zero (h ∷ p) hs = rw (end-hop h (p ++ hs), end-hop h p)
  reached_then k (suc s) p hs = go (reached_then k s) (is_deep (f (suc s))) refl p
    where
      G : ℕ → Bool
      G j = among (from j hs) k

      after : (b : Bool) (l m : List ℕ) → among l k ≡ some G m → among (pick b l []) k ≡ some G (pick b m [])
      after true l m e = e
      after false l m e = refl

      -- What 04 passes on to, it has itself.
      passed : is_deep (f (suc s)) ≡ true → (hs : List Hop) → among (from s hs) k ≡ true → among (from (suc s) hs) k ≡ true
      passed d [] e = last-passed k s d e
      passed d (h ∷ hs) e = in-passed k s d h hs e

      go : ((p hs : List Hop) → among (from s (p ++ hs)) k ≡ some (λ j. among (from j hs) k) (from s p))
          → (b : Bool) → is_deep (f (suc s)) ≡ b → (p : List Hop) → among (from (suc s) (p ++ hs)) k ≡ some G (from (suc s) p)
      go ih false d [] = rw (one_end s d) (sym (or-false (G (suc s))))
      go ih false d (h ∷ p) = rw (one-hop s d h (p ++ hs), one-hop s d h p) (after (takes (f (suc s)) h) (from s (p ++ hs)) (from s p) (ih p hs))
      go ih true d [] = rw (deep-end s d, ← ih [] hs) (sym (or-implied (G (suc s)) (G s) (passed d hs)))
      go ih true d (h ∷ p) =
          rw (deep-hop s d h (p ++ hs), deep-hop s d h p, among-append (from s (h ∷ (p ++ hs))) (from (suc s) (p ++ hs)) k, some-append G (from s (h ∷ p)) (from (suc s) p))
          (ap₂ (λ (x y : Bool). x || y) (ih (h ∷ p) hs) (go ih true d p))

  -- A step may come next itself.
  pub reached-own : (s : ℕ) → among (from s []) s ≡ true
  reached-own zero = rw (end-end, among-cons 0 [] 0)
  reached-own (suc s) = go (is_deep (f (suc s))) refl
    where
      head : (l : List ℕ) → among (suc s ∷ l) (suc s) ≡ true
      head l = among-cons (suc s) l (suc s) ∙ or_left (eqb (suc s) (suc s)) (among l (suc s)) (eq-eqb (suc s) (suc s) refl)

      go : (b : Bool) → is_deep (f (suc s)) ≡ b → among (from (suc s) []) (suc s) ≡ true
      go false d = rw (one_end s d) (head [])
      go true d = rw (deep-end s d) (head (from s []))

  pub none_left : (k : ℕ) (p : List Hop) → among (from 0 p) k ≡ true → k ≡ 0
  unfolding among
  none_left k [] e = only_one 0 k (sym (ap (λ (l : List ℕ). among l k) end-end) ∙ e)
  none_left k (h ∷ p) e = no_way (among (from 0 (h ∷ p)) k) e (rw (end-hop h p))

  -- None comes before the first.
  pub reached-within : (k s : ℕ) (p : List Hop) → among (from s p) k ≡ true → k ≤ s
  reached-within k zero p e = omega (arith, none_left k p e)
  reached-within k (suc s) p e = go (reached-within k s) (is_deep (f (suc s))) refl p e
    where
      last : ((p : List Hop) → among (from s p) k ≡ true → k ≤ s) → (k ≡ suc s) ⊎ (among (from s []) k ≡ true) → k ≤ suc s
      last ih (inl x) = omega arith
      last ih (inr x) = omega (arith, ih [] x)

      either : ((p : List Hop) → among (from s p) k ≡ true → k ≤ s) → (h : Hop) (p : List Hop) → (among (from (suc s) p) k ≡ true → k ≤ suc s)
          → (among (from s (h ∷ p)) k ≡ true) ⊎ (among (from (suc s) p) k ≡ true) → k ≤ suc s
      either ih h p on (inl x) = omega (arith, ih (h ∷ p) x)
      either ih h p on (inr x) = on x

      go : ((p : List Hop) → among (from s p) k ≡ true → k ≤ s) → (b : Bool) → is_deep (f (suc s)) ≡ b → (p : List Hop) → among (from (suc s) p) k ≡ true → k ≤ suc s
      go ih false d [] e = omega (arith, one_last k s d e)
      go ih false d (h ∷ p) e = omega (arith, ih p (one_in k s d h p e))
      go ih true d [] e = last ih (deep-last k s d e)
      go ih true d (h ∷ p) e = either ih h p (go ih true d p) (deep_in k s d h p e)

  -- With an 04 comes what it passes on to.
  pub reached-shut : (k s : ℕ) (p : List Hop) → deep_at f k ≡ true → among (from s p) k ≡ true → among (from s p) (k - 1) ≡ true
  reached-shut k zero p x e =
      let z = none_left k p e in
      no_way (deep_at f k) x (ap (deep_at f) z)
  reached-shut k (suc s) p x e = go (λ p. reached-shut k s p x) (is_deep (f (suc s))) refl p e
    where
      On : ℕ → List Hop → Type 0
      On n p = among (from n p) k ≡ true → among (from n p) (k - 1) ≡ true

      last : ((p : List Hop) → On s p) → (d : is_deep (f (suc s)) ≡ true) → (k ≡ suc s) ⊎ (among (from s []) k ≡ true) → among (from (suc s) []) (k - 1) ≡ true
      last ih d (inl y) = let z : k - 1 ≡ s = omega arith in last-passed (k - 1) s d (subst (λ (j : ℕ). among (from s []) j ≡ true) (sym z) (reached-own s))
      last ih d (inr y) = last-passed (k - 1) s d (ih [] y)

      either : ((p : List Hop) → On s p) → (d : is_deep (f (suc s)) ≡ true) (h : Hop) (p : List Hop) → On (suc s) p
          → (among (from s (h ∷ p)) k ≡ true) ⊎ (among (from (suc s) p) k ≡ true) → among (from (suc s) (h ∷ p)) (k - 1) ≡ true
      either ih d h p on (inl y) = in-passed (k - 1) s d h p (ih (h ∷ p) y)
      either ih d h p on (inr y) = in-stayed (k - 1) s d h p (on y)

      taken : (h : Hop) (p : List Hop) (b : Bool) → is_deep (f (suc s)) ≡ false → takes (f (suc s)) h ≡ b → On s p → On (suc s) (h ∷ p)
      taken h p b d t ih e = rw (one-hop s d h p) (keep b t (sym (ap (λ (l : List ℕ). among l k) (one-hop s d h p)) ∙ e))
        where
          keep : (b : Bool) → takes (f (suc s)) h ≡ b → among (pick (takes (f (suc s)) h) (from s p) []) k ≡ true → among (pick (takes (f (suc s)) h) (from s p) []) (k - 1) ≡ true
          keep true t y = rw t (ih (rw t at y))
          keep false t y = no_way true refl (sym (unfold among in (rw t at y)))

      go : ((p : List Hop) → On s p) → (b : Bool) → is_deep (f (suc s)) ≡ b → (p : List Hop) → On (suc s) p
      go ih false d [] e =
          let z = one_last k s d e in
          no_way (deep_at f k) x (ap (deep_at f) z ∙ d)
      go ih false d (h ∷ p) e = taken h p (takes (f (suc s)) h) d refl (ih p) e
      go ih true d [] e = last ih d (deep-last k s d e)
      go ih true d (h ∷ p) e = either ih d h p (go ih true d p) (deep_in k s d h p e)

-- ---- a path that fits

-- A hop that a step takes.
abbrev hop_for : Step → Hop
hop_for (name n) = named n
hop_for (index i) = item i
hop_for any = item 0
hop_for deep = item 0

takes-own : (x : Step) → takes x (hop_for x) ≡ true
takes-own (name n) = same_self n
takes-own (index i) = eq-eqb i i refl
takes-own any = refl
takes-own deep = refl

tail-here : (g : List Hop → Bool) (hs : List Hop) → g hs ≡ true → some_tail g hs ≡ true
unfolding some_tail
tail-here g [] e = e
tail-here g (h ∷ hs) e = or_left (g (h ∷ hs)) (some_tail g hs) e

-- One such hop for each step is a path that fits.
abbrev way : (ℕ → Step) → ℕ → List Hop
way f zero = []
way f (suc s) = hop_for (f (suc s)) ∷ way f s

way-fits : (f : ℕ → Step) (s : ℕ) → fits (last_of f s) (way f s) ≡ true
unfolding last_of one_then some_tail
way-fits f zero = unfold fits in refl
way-fits f (suc s) = go (way-fits f s) (is_deep (f (suc s))) refl
  where
    x : Step
    x = f (suc s)

    go : fits (last_of f s) (way f s) ≡ true → (b : Bool) → is_deep x ≡ b → fits (x ∷ last_of f s) (hop_for x ∷ way f s) ≡ true
    go ih false d = fits_one x (last_of f s) (hop_for x ∷ way f s) d ∙ rw (takes-own x) ih
    go ih true d =
        fits-deep x (last_of f s) (hop_for x ∷ way f s) d
        ∙ or_right (fits (last_of f s) (hop_for x ∷ way f s)) (some_tail (fits (last_of f s)) (way f s)) (tail-here (fits (last_of f s)) (way f s) ih)

-- ---- the set of a path

module _ {q plan : List ℕ} {n : ℕ} {p : List Hop} {set : ℕ} (v : Reaches q plan n p set) where
  -- The path fits exactly where the end is in its set.
  pub reaches-fits : has set 0 ≡ fits (last_of (planned q plan) n) p
  reaches-fits = v.is.is 0 ∙ sym (reached-fits (planned q plan) n p)

  -- Where no step is in it, no path that goes on fits.
  pub reaches-off : goes_on set ≡ false → (h : Hop) (hs : List Hop) → fits (last_of (planned q plan) n) (p ++ (h ∷ hs)) ≡ false
  reaches-off o h hs =
      reached-fits (planned q plan) n (p ++ (h ∷ hs)) ∙ reached_then (planned q plan) 0 n p (h ∷ hs)
      ∙ some-none (λ j. among (from (planned q plan) j (h ∷ hs)) 0) (from (planned q plan) n p) (λ j e. none j (v.is.is j ∙ e))
    where
      none : (j : ℕ) → has set j ≡ true → among (from (planned q plan) j (h ∷ hs)) 0 ≡ false
      none zero e = unfold among in (rw (end-hop (planned q plan) h hs))
      none (suc j) e = no_way (has set (suc j)) e (off-steps set o j)

  -- Where one is, some path that goes on does.
  pub record GoesOn : Type 0 where
    pub hop : Hop
    pub hops : List Hop
    pub fit : fits (last_of (planned q plan) n) (p ++ (hop ∷ hops)) ≡ true

  pub reaches-on : goes_on set ≡ true → GoesOn
  reaches-on e =
      let le = leb-true 2 set e in
      let one = some-bit (set / 2) (λ z. omega arith) in
      goes one.number (has-suc set one.number ∙ one.is_in)
    where
      f : ℕ → Step
      f = planned q plan

      goes : (k : ℕ) → has set (suc k) ≡ true → GoesOn
      goes k i = record {
        hop = hop_for (f (suc k));
        hops = way f k;
        fit = reached-fits f n (p ++ way f (suc k)) ∙ reached_then f 0 n p (way f (suc k))
            ∙ some_in (λ j. among (from f j (way f (suc k))) 0) (from f n p) (suc k) (sym (v.is.is (suc k)) ∙ i)
            (sym (reached-fits f (suc k) (way f (suc k))) ∙ way-fits f (suc k));
      }
