-- Gathering the steps that may come next, way by way: the recursion over the steps and the path left.
-- Assumes nothing.
use Prim.Native.Nat.{ℕ, zero, suc, ◌-◌, ◌^◌, ◌<◌}
use mathlib.Core.Path.{◌≡◌, refl, sym, ap, subst, ◌∙◌}
use mathlib.Core.Logic.{◌⊎◌, inl, inr}
use mathlib.Core.List.{List, [], ◌∷◌, ◌++◌}
use mathlib.Core.Bool.{Bool, true, false, ◌||◌}
use native.Mathlib.Omega.{arith}
use lib.Dec.{eqb}
use lib.Bits.{bit_or}
use Rattle.form.specs.Spans.{among}
use Rattle.form.specs.Paths.{Hop, Step, takes}
use Rattle.query_reach.specs.Reached.{is_deep, deep_at, takes_at, left_of}
use Rattle.query_reach.specs.Sets.{has, Bits, Shut, Gathers, gathered}
use Rattle.query_reach.proofs.Bools.{no_way, or_left, or_right, or_cases, or_swap, or-false, or-implied}
use Rattle.form.proofs.Picks.{or_assoc}
use Rattle.query_reach.proofs.Sets.{has-none, has-or, has_one}
use Rattle.query_reach.proofs.Reached.{among-cons, among-append, from, end-end, end-hop, one_end, one-hop, deep-end, deep-hop, last-passed, none_left, deep-last, one_last}
use Rattle.query_reach.proofs.Reached.{reached-own, reached-shut}

-- The path left, where it is not nothing.
left-hop : (left : ℕ) (h : Hop) → (left ≡ 0 → ⊥) → left_of left h ≡ h ∷ []
left-hop zero h n = absurd (n refl)
left-hop (suc k) h n = refl

-- A step that is not the end has one after it, or the end.
after : (s : ℕ) → 0 < s → s ≡ suc (s - 1)
after s some = omega arith

-- ---- sets that are shut

module _ (f : ℕ → Step) where
  pub shut_none : Shut f 0
  shut_none = record { on = λ k d e. no_way (has 0 k) e (has-none k) }

  -- A set that is shut has with a step all that may come next from it.
  pub shut-all : (a : ℕ) → Shut f a → (s k : ℕ) → has a s ≡ true → among (from f s []) k ≡ true → has a k ≡ true
  shut-all a v zero k i e = subst (λ (j : ℕ). has a j ≡ true) (sym (none_left f k [] e)) i
  shut-all a v (suc s) k i e = go (shut-all a v s k) (is_deep (f (suc s))) refl
    where
      here : k ≡ suc s → has a k ≡ true
      here x = subst (λ (j : ℕ). has a j ≡ true) (sym x) i

      more : (has a s ≡ true → among (from f s []) k ≡ true → has a k ≡ true) → is_deep (f (suc s)) ≡ true → (k ≡ suc s) ⊎ (among (from f s []) k ≡ true) → has a k ≡ true
      more ih d (inl x) = here x
      more ih d (inr x) = let z : suc s - 1 ≡ s = omega arith in ih (rw z at (v.on (suc s) d i)) x

      go : (has a s ≡ true → among (from f s []) k ≡ true → has a k ≡ true) → (b : Bool) → is_deep (f (suc s)) ≡ b → has a k ≡ true
      go ih false d = here (one_last f k s d e)
      go ih true d = more ih d (deep-last f k s d e)

  module _ (h : Hop) where
    -- What is gathered is shut.
    pub shut-gathered : (s left : ℕ) {got r : ℕ} → Shut f got → Bits (gathered f h s left got) r → Shut f r
    shut-gathered s left {got} {r} v w = record { on = λ k d e. on k d (or_cases (has got k) (among (from f s (left_of left h)) k) (sym (w.is k) ∙ e)) }
      where
        on : (k : ℕ) → deep_at f k ≡ true → (has got k ≡ true) ⊎ (among (from f s (left_of left h)) k ≡ true) → has r (k - 1) ≡ true
        on k d (inl x) = w.is (k - 1) ∙ or_left (has got (k - 1)) (among (from f s (left_of left h)) (k - 1)) (v.on k d x)
        on k d (inr x) = w.is (k - 1) ∙ or_right (has got (k - 1)) (among (from f s (left_of left h)) (k - 1)) (reached-shut f k s (left_of left h) d x)

-- ---- the recursion, way by way

module _ {f : ℕ → Step} {h : Hop} {deeps takers : ℕ} where
  module _ {s left got : ℕ} (v : Gathers f h deeps takers s left got) where
    deep_is : has deeps s ≡ deep_at f s
    deep_is = v.deep s (omega arith)

    -- A step that is 04, or takes the hop, is not the end.
    pub deep-some : has deeps s ≡ true → 0 < s
    deep-some e = some s (sym deep_is ∙ e)
      where
        some : (s : ℕ) → deep_at f s ≡ true → 0 < s
        some zero e = no_way false e refl
        some (suc s) e = omega arith

    module _ (n : left ≡ 0 → ⊥) where
      take-is : has takers s ≡ takes_at f h s
      take-is = v.take n s (reached-own f s)

      pub take-some : has takers s ≡ true → 0 < s
      take-some e = some s (sym take-is ∙ e)
        where
          some : (s : ℕ) → takes_at f h s ≡ true → 0 < s
          some zero e = no_way false e refl
          some (suc s) e = omega arith

    module _ (z : left ≡ 0) where
      -- The path has ended: the step is in the set already,
      pub here-had : has got s ≡ true → Bits (gathered f h s left got) got
      here-had i = rw z (record { is = λ k. sym (or-implied (has got k) (among (from f s []) k) (λ e. shut-all f got v.shut s k i e)) })

      -- or is put into it: it is no 04,
      pub here-one : has deeps s ≡ false → {here : ℕ} → here ≡ 2 ^ s → Bits (gathered f h s left got) (bit_or got here)
      here-one n {here} o = rw (z, o) (record { is = λ k. has-or got (2 ^ s) k ∙ ap (λ (b : Bool). has got k || b) (one k) })
        where
          alone : (s : ℕ) → deep_at f s ≡ false → from f s [] ≡ s ∷ []
          alone zero d = end-end f
          alone (suc s) d = one_end f s d

          one : (k : ℕ) → has (2 ^ s) k ≡ among (from f s []) k
          one k = has_one s k ∙ rw (alone s (sym deep_is ∙ n), among-cons s [] k) (unfold among in (sym (or-false (eqb k s))))

  module _ {s left got : ℕ} (v : Gathers f h deeps takers s left got) (some : 0 < s) where
    -- or 04, which is passed over too. What that asks, and what it gives.
    pub past-ready : Gathers f h deeps takers (s - 1) 0 got
    past-ready = record { deep = λ k l. v.deep k (omega arith); take = λ n. absurd (n refl); shut = v.shut }

    deep-now : has deeps s ≡ true → is_deep (f (suc (s - 1))) ≡ true
    deep-now d = subst (λ (n : ℕ). deep_at f n ≡ true) (after s some) (sym (deep_is v) ∙ d)

    one-now : has deeps s ≡ false → is_deep (f (suc (s - 1))) ≡ false
    one-now d = subst (λ (n : ℕ). deep_at f n ≡ false) (after s some) (sym (deep_is v) ∙ d)

    -- What is next from a step on, by that step.
    from-now : (hs : List Hop) → from f s hs ≡ from f (suc (s - 1)) hs
    from-now hs = ap (λ (n : ℕ). from f n hs) (after s some)

    pub here-deep : left ≡ 0 → has deeps s ≡ true → {r here : ℕ} → Bits (gathered f h (s - 1) 0 got) r → here ≡ 2 ^ s → Bits (gathered f h s left got) (bit_or r here)
    here-deep z d {r} {here} w o = rw (z, o) (record { is = λ k. has-or r (2 ^ s) k ∙ is k })
      where
        begins : from f s [] ≡ s ∷ from f (s - 1) []
        begins = from-now [] ∙ deep-end f (s - 1) (deep-now d) ∙ ap (λ (n : ℕ). n ∷ from f (s - 1) []) (sym (after s some))

        is : (k : ℕ) → (has r k || has (2 ^ s) k) ≡ gathered f h s 0 got k
        is k = rw (w.is k, has_one s k, begins, among-cons s (from f (s - 1) []) k) (or_swap (has got k) (among (from f (s - 1) []) k) (eqb k s))

    module _ (n : left ≡ 0 → ⊥) where
      module _ (d : has deeps s ≡ true) where
        -- A hop is left. 04 is passed over,
        pub over-ready : Gathers f h deeps takers (s - 1) left got
        over-ready = record { deep = λ k l. v.deep k (omega arith); take = λ m k e. v.take m k (rw (from-now []) (last-passed f k (s - 1) (deep-now d) e)); shut = v.shut }

        -- and takes the hop and stays.
        pub stay-ready : {r : ℕ} → Bits (gathered f h (s - 1) left got) r → Gathers f h deeps takers s 0 r
        stay-ready {r} w = record { deep = v.deep; take = λ m. absurd (m refl); shut = shut-gathered f h (s - 1) left v.shut w }

        pub hop-deep : {r r' : ℕ} → Bits (gathered f h (s - 1) left got) r → Bits (gathered f h s 0 r) r' → Bits (gathered f h s left got) r'
        hop-deep {r} {r'} w w' = record { is = λ k. is k }
          where
            twice : from f s (h ∷ []) ≡ from f (s - 1) (h ∷ []) ++ from f s []
            twice = from-now (h ∷ []) ∙ deep-hop f (s - 1) (deep-now d) h [] ∙ ap (λ (l : List ℕ). from f (s - 1) (h ∷ []) ++ l) (sym (from-now []))

            is : (k : ℕ) → has r' k ≡ gathered f h s left got k
            is k =
                w'.is k
                ∙ rw (w.is k, left-hop left h n, twice, among-append (from f (s - 1) (h ∷ [])) (from f s []) k)
                (or_assoc (has got k) (among (from f (s - 1) (h ∷ [])) k) (among (from f s []) k))

      -- A step that takes the hop,
      pub hop-on : has deeps s ≡ false → has takers s ≡ true → {r : ℕ} → Bits (gathered f h (s - 1) 0 got) r → Bits (gathered f h s left got) r
      hop-on d e {r} w = record { is = λ k. w.is k ∙ sym (rw (left-hop left h n, on)) }
        where
          takes-now : takes (f (suc (s - 1))) h ≡ true
          takes-now = subst (λ (j : ℕ). takes_at f h j ≡ true) (after s some) (sym (take-is v n) ∙ e)

          on : from f s (h ∷ []) ≡ from f (s - 1) []
          on = from-now (h ∷ []) ∙ one-hop f (s - 1) (one-now d) h [] ∙ rw takes-now

  -- and one that does not, or the end.
  pub hop-off : {s left got : ℕ} → Gathers f h deeps takers s left got → (left ≡ 0 → ⊥) → has deeps s ≡ false → has takers s ≡ false → Bits (gathered f h s left got) got
  hop-off {s} {left} {got} v n d e = record { is = λ k. sym (or-false (has got k)) ∙ sym (rw (left-hop left h n, none s (sym (deep_is v) ∙ d) (sym (take-is v n) ∙ e)) (unfold among in refl)) }
    where
      none : (s : ℕ) → deep_at f s ≡ false → takes_at f h s ≡ false → from f s (h ∷ []) ≡ []
      none zero d e = end-hop f h []
      none (suc s) d e = one-hop f s d h [] ∙ rw e
