-- Laws of the merge of the second run into the first: each key of it from the last on is put down below what is merged already.
-- Assumes nothing.
use Prim.Native.Nat.{ℕ, zero, suc, ◌+◌, ◌-◌, ◌≤◌, ◌<◌}
use mathlib.Core.List.{List, [], ◌∷◌, ◌++◌}
use mathlib.Core.Bool.{Bool, true, false, ◌||◌}
use mathlib.Core.Logic.{◌⊎◌, inl, inr}
use mathlib.Core.Path.{◌≡◌, refl, sym, ◌∙◌}
use native.Mathlib.Omega.{arith}
use lib.ListN.{length, get_or, take, set}
use lib.Seq.{take-set-le, get_or-set_same, get_or-set_other}
use Rattle.form.specs.Spans.{same}
use Rattle.form.proofs.Picks.{lt-or}
use Rattle.snbt_form.specs.Text.{known}
use Rattle.snbt_keys.proofs.Orders.{below-trans}
use Rattle.snbt_keys.proofs.Shifts.{take_less, place-front}
use Rattle.snbt_keys.proofs.Names.{names-alike, names-parts, names-first, known-first, known-parts, known-not, known-split}
use Rattle.snbt_keys.proofs.Runs.{kept_same, runs-more, added-merged}
use Rattle.snbt_keys.specs.Keys.{size_at, name_at, names_in, below, Rising, FreeIn, joint_of, Runs, put_in, Comes, Added, Lifted, Merging}

-- no name, and one name, from an index on
known-none : (o k : List ℕ) (a n : ℕ) (x : List ℕ) → n ≡ 0 → known x (names_in o k a n) ≡ false
unfolding names_in known
known-none o k a zero x e = refl
known-none o k a (suc n) x e = absurd (omega (arith, e))

known-one : (o k : List ℕ) (a n : ℕ) (x : List ℕ) → known x (names_in o k a (n + 1)) ≡ (known x (names_in o k a n) || (same (name_at o (get_or k (a + n) 0)) x || false))
unfolding names_in known
known-one o k a n x = rw (names-parts o k a n 1) (known-parts x (names_in o k a n) (name_at o (get_or k (a + n) 0) ∷ []))

or-none : (a b : Bool) → (a || (b || false)) ≡ (a || b)
or-none true b = refl
or-none false true = refl
or-none false false = refl

or-merge : (a b c s d : Bool) → (a || (c || (s || (b || d)))) ≡ ((a || b) || ((c || (s || false)) || d))
or-merge true b c s d = refl
or-merge false true true s d = refl
or-merge false true false true d = refl
or-merge false true false false d = refl
or-merge false false true s d = refl
or-merge false false false true d = refl
or-merge false false false false d = refl

module _ {o k : List ℕ} {base mid : ℕ} (runs : Runs o k base mid (mid + 512) (length o)) where
  -- nothing is merged
  pub merging_start : (n : ℕ) → n ≡ 512 → Merging o k base mid n mid k
  merging_start n e =
      record {
        low = runs.first.low;
        to = omega arith;
        front = refl;
        beyond = λ j h. refl;
        ends = λ at h j l m. absurd (omega (arith, e));
        rise = λ i j h l m. absurd (omega (arith, e));
        above = λ i j h l m q. absurd (omega (arith, e));
        over = λ i j h l m q. absurd (omega (arith, e));
        alike = go;
      }
    where
      go : (x : List ℕ) → (known x (names_in o k base (mid - base)) || (known x (names_in o k mid n) || known x (names_in o k (mid + n) (mid + 512 - (mid + n)))))
          ≡ known x (names_in o k base (mid + 512 - base))
      go x =
          let f : mid + 512 - mid ≡ n = omega (arith, e) in
          let g : mid + 512 - (mid + n) ≡ 0 = omega (arith, e) in
          rw (known-none o k (mid + n) (mid + 512 - (mid + n)) x g)
          (or-none (known x (names_in o k base (mid - base))) (known x (names_in o k mid n))
          ∙ sym (rw f at (known-split o k base mid (mid + 512) x runs.first.low (omega arith))))

  module _ {n high : ℕ} {k₁ : List ℕ} (m : Merging o k base mid (n + 1) high k₁) (l : n < 512) where
    abbrev p : ℕ
    p = get_or k (mid + n) 0

    old : (j : ℕ) → j < high → get_or k₁ j 0 ≡ get_or k j 0
    old j h = place-front k₁ k high m.front j h

    -- the first run up to `high`
    pub merging-run : length k₁ ≡ length k → Rising o k₁ base high (length o)
    merging-run e =
        record {
          within = omega arith;
          low = m.low;
          high = omega (arith, e, m.to, runs.first.high);
          ends = λ j h q. rw (old j q) (runs.first.ends j h (omega (arith, m.to)));
          rise = λ i j h q r. rw (old i (omega arith), old j r) (runs.first.rise i j h q (omega (arith, m.to)));
        }

    -- has not the name that comes
    pub merging-new : known (name_at o p) (names_in o k₁ base (high - base)) ≡ false
    merging-new =
        let lo = m.low in
        known-not o k₁ base (high - base) (name_at o p) (λ j h q. rw (old j (omega arith)) (runs.apart j (mid + n) h (omega (arith, m.to)) (omega arith) (omega arith)))

    -- it is put down
    module _ {index : ℕ} {k₂ : List ℕ} (free : FreeIn o k₁ base high (name_at o p) index) (lifted : Lifted k₁ index high (n + 1) k₂) (long : length k₂ ≡ length k) where
      abbrev k₃ : List ℕ
      k₃ = set k₂ (index + n) p

      here : get_or k₃ (index + n) 0 ≡ p
      here = get_or-set_same k₂ (index + n) p 0 (omega (arith, long, free.sides.high, m.to, runs.second.high))

      moved : (a : ℕ) → index ≤ a → a < high → get_or k₃ (a + (n + 1)) 0 ≡ get_or k a 0
      moved a h q = get_or-set_other k₂ (index + n) (a + (n + 1)) p 0 (λ e. absurd (omega (arith, e))) ∙ lifted.moved a h q ∙ old a q

      rest : (j : ℕ) → high + (n + 1) ≤ j → get_or k₃ j 0 ≡ get_or k₁ j 0
      rest j h = get_or-set_other k₂ (index + n) j p 0 (λ e. absurd (omega (arith, e, free.sides.high))) ∙ lifted.behind j h

      -- what holds of it, of those moved, and of what was merged before
      spread : (P : ℕ → Type 0) → P (index + n) → ((a : ℕ) → index ≤ a → a < high → P (a + (n + 1))) → ((j : ℕ) → high + (n + 1) ≤ j → j < mid + 512 → P j)
          → (j : ℕ) → index + n ≤ j → j < mid + 512 → P j
      spread P f g h j q r = go (lt-or (index + n) j) (lt-or j (high + (n + 1)))
        where
          go : (index + n < j) ⊎ (j ≤ index + n) → (j < high + (n + 1)) ⊎ (high + (n + 1) ≤ j) → P j
          go (inr s) t = let e : j ≡ index + n = omega arith in rw e f
          go (inl s) (inl t) = let e : j ≡ j - (n + 1) + (n + 1) = omega arith in rw e (g (j - (n + 1)) (omega arith) (omega arith))
          go (inl s) (inr t) = h j t r

      ends₃ : (at : ℕ) → ((j : ℕ) → base ≤ j → j < mid + 512 → get_or k j 0 + (2 + size_at o (get_or k j 0)) ≤ at)
          → (j : ℕ) → index + n ≤ j → j < mid + 512 → get_or k₃ j 0 + (2 + size_at o (get_or k₃ j 0)) ≤ at
      ends₃ at e =
          spread (λ j. get_or k₃ j 0 + (2 + size_at o (get_or k₃ j 0)) ≤ at)
          (rw here (e (mid + n) (omega (arith, runs.first.low)) (omega arith)))
          (λ a h q. rw (moved a h q) (e a (omega (arith, free.sides.low)) (omega (arith, m.to))))
          (λ j h q. rw (rest j h) (m.ends at e j h q))

      rise₃ : (i j : ℕ) → index + n ≤ i → i < j → j < mid + 512 → below (name_at o (get_or k₃ i 0)) (name_at o (get_or k₃ j 0)) ≡ true
      rise₃ i j h q r =
          spread (λ i. (j : ℕ) → i < j → j < mid + 512 → below (name_at o (get_or k₃ i 0)) (name_at o (get_or k₃ j 0)) ≡ true)
          (λ j q r.
          rw here
          (spread (λ j. index + n < j → below (name_at o p) (name_at o (get_or k₃ j 0)) ≡ true)
          (λ s. absurd (omega arith))
          (λ a t u s. rw (moved a t u, ← old a u) (free.sides.behind a t u))
          (λ b t u s. rw (rest b t) (m.over (mid + n) b (omega arith) (omega arith) t u))
          j (omega arith) r q))
          (λ a t u j q r.
          rw (moved a t u)
          (spread (λ j. a + (n + 1) < j → below (name_at o (get_or k a 0)) (name_at o (get_or k₃ j 0)) ≡ true)
          (λ s. absurd (omega arith))
          (λ b v w s. rw (moved b v w) (runs.first.rise a b (omega (arith, free.sides.low)) (omega arith) (omega (arith, m.to))))
          (λ b v w s. rw (rest b v) (m.above a b (omega (arith, free.sides.low)) u v w))
          j (omega arith) r q))
          (λ b t u j q r. rw (rest b t, rest j (omega arith)) (m.rise b j t q r))
          i h (omega arith) j q r

      above₃ : (i j : ℕ) → base ≤ i → i < index → index + n ≤ j → j < mid + 512 → below (name_at o (get_or k i 0)) (name_at o (get_or k₃ j 0)) ≡ true
      above₃ i j h q r s =
          let hi = free.sides.high in
          spread (λ j. below (name_at o (get_or k i 0)) (name_at o (get_or k₃ j 0)) ≡ true)
          (rw (here, ← old i (omega arith)) (free.sides.before i h q))
          (λ a t u. rw (moved a t u) (runs.first.rise i a h (omega arith) (omega (arith, m.to))))
          (λ b t u. rw (rest b t) (m.above i b h (omega arith) t u))
          j r s

      over₃ : (i j : ℕ) → mid ≤ i → i < mid + n → index + n ≤ j → j < mid + 512 → below (name_at o (get_or k i 0)) (name_at o (get_or k₃ j 0)) ≡ true
      over₃ i j h q r s =
          let under = runs.second.rise i (mid + n) h q (omega arith) in
          spread (λ j. below (name_at o (get_or k i 0)) (name_at o (get_or k₃ j 0)) ≡ true)
          (rw here under)
          (λ a t u. rw (moved a t u) (below-trans (name_at o (get_or k i 0)) (name_at o p) (name_at o (get_or k a 0)) under (rw (← old a u) (free.sides.behind a t u))))
          (λ b t u. rw (rest b t) (m.over i b h (omega arith) t u))
          j r s

      -- the names from its index on: it, those moved, and those merged before
      abbrev moved-names : List (List ℕ)
      moved-names = names_in o k index (high - index)

      abbrev merged-names : List (List ℕ)
      merged-names = names_in o k₁ (high + (n + 1)) (mid + 512 - (high + (n + 1)))

      names₃ : (x : List ℕ) → known x (names_in o k₃ (index + n) (mid + 512 - (index + n))) ≡ (same (name_at o p) x || (known x moved-names || known x merged-names))
      names₃ x =
          let hi = free.sides.high in
          let to = m.to in
          let e : mid + 512 - (index + n) ≡ 1 + ((high - index) + (mid + 512 - (high + (n + 1)))) = omega arith in
          let f : index + n + 1 + (high - index) ≡ high + (n + 1) = omega arith in
          let one : names_in o k₃ (index + n + 1) (high - index) ≡ moved-names =
          names-alike o k₃ (index + n + 1) o k index (high - index)
          (λ j h. let g : index + n + 1 + j ≡ index + j + (n + 1) = omega arith in rw (g, moved (index + j) (omega arith) (omega arith)) refl) in
          let two : names_in o k₃ (high + (n + 1)) (mid + 512 - (high + (n + 1))) ≡ merged-names =
          names-alike o k₃ (high + (n + 1)) o k₁ (high + (n + 1)) (mid + 512 - (high + (n + 1))) (λ j h. rw (rest (high + (n + 1) + j) (omega arith)) refl) in
          rw (
            e,
            names-first o k₃ (index + n) ((high - index) + (mid + 512 - (high + (n + 1)))),
            here,
            names-parts o k₃ (index + n + 1) (high - index) (mid + 512 - (high + (n + 1))),
            f,
            one,
            two,
            known-first x (name_at o p) (moved-names ++ merged-names),
            known-parts x moved-names merged-names,
          )
          refl

      alike₃ : (x : List ℕ) → (known x (names_in o k base (index - base)) || (known x (names_in o k mid n) || known x (names_in o k₃ (index + n) (mid + 512 - (index + n)))))
          ≡ known x (names_in o k base (mid + 512 - base))
      alike₃ x =
          rw (names₃ x)
          (or-merge (known x (names_in o k base (index - base))) (known x moved-names) (known x (names_in o k mid n)) (same (name_at o p) x) (known x merged-names)
          ∙ rw (← known-split o k base index high x free.sides.low free.sides.high, ← known-one o k mid n x) (m.alike x))

      pub merging-next : Merging o k base mid n index k₃
      merging-next =
          let hi = free.sides.high in
          record {
            low = free.sides.low;
            to = omega (arith, m.to);
            front = take-set-le index k₂ (index + n) p (omega arith) ∙ take_less index (index + (n + 1)) k₂ k₁ (omega arith) lifted.front ∙ take_less index high k₁ k hi m.front;
            beyond = λ j h. rest j (omega (arith, m.to)) ∙ m.beyond j h;
            ends = ends₃;
            rise = rise₃;
            above = above₃;
            over = over₃;
            alike = alike₃;
          }

-- all is merged
module _ {o k : List ℕ} {base mid high at : ℕ} {k' : List ℕ} (runs : Runs o k base mid (mid + 512) at) (m : Merging o k base mid 0 high k') where
  kept : (j : ℕ) → j < high → get_or k' j 0 ≡ get_or k j 0
  kept j h = place-front k' k high m.front j h

  pub merged-run : length k' ≡ length k → Rising o k' base (mid + 512) at
  merged-run e =
      record {
        within = runs.first.within;
        low = omega (arith, runs.first.low);
        high = omega (arith, e, runs.second.high);
        ends = λ j h q. ends j h q (lt-or j high);
        rise = λ i j h q r. rise i j h q r (lt-or i high) (lt-or j high);
      }
    where
      all : (j : ℕ) → base ≤ j → j < mid + 512 → (j < mid) ⊎ (mid ≤ j) → get_or k j 0 + (2 + size_at o (get_or k j 0)) ≤ at
      all j h q (inl r) = runs.first.ends j h r
      all j h q (inr r) = runs.second.ends j r q

      ends : (j : ℕ) → base ≤ j → j < mid + 512 → (j < high) ⊎ (high ≤ j) → get_or k' j 0 + (2 + size_at o (get_or k' j 0)) ≤ at
      ends j h q (inl r) = rw (kept j r) (all j h q (lt-or j mid))
      ends j h q (inr r) = m.ends at (λ i s t. all i s t (lt-or i mid)) j (omega arith) q

      rise : (i j : ℕ) → base ≤ i → i < j → j < mid + 512 → (i < high) ⊎ (high ≤ i) → (j < high) ⊎ (high ≤ j) → below (name_at o (get_or k' i 0)) (name_at o (get_or k' j 0)) ≡ true
      rise i j h q r (inl s) (inl t) = rw (kept i s, kept j t) (runs.first.rise i j h q (omega (arith, m.to)))
      rise i j h q r (inl s) (inr t) = rw (kept i s) (m.above i j h s (omega arith) r)
      rise i j h q r (inr s) t = m.rise i j (omega arith) q r

  pub merged-alike : (x : List ℕ) → known x (names_in o k' base (mid + 512 - base)) ≡ known x (names_in o k base (mid + 512 - base))
  merged-alike x =
      let lo = m.low in
      let front : names_in o k' base (high - base) ≡ names_in o k base (high - base) = names-alike o k' base o k base (high - base) (λ j h. rw (kept (base + j) (omega arith)) refl) in
      let e : high + 0 ≡ high = omega arith in
      known-split o k' base high (mid + 512) x m.low (omega (arith, m.to))
      ∙ rw front (rw (known-none o k mid 0 x refl, e) at (m.alike x))

  pub merged-around : take base k' ≡ take base k
  merged-around = take_less base high k' k m.low m.front

-- ---- a key that has filled the second run

module _ {o k : List ℕ} {base top i p m : ℕ} (c : Comes o k base top i p) (k' : List ℕ) (put : k' ≡ put_in k top i p) (joint : m ≡ joint_of base top) (full : top - m ≡ 511) where
  to-full : m + 512 ≡ top + 1
  to-full = omega (arith, joint, full, c.kept.second.low)

  runs-full : Runs o k' base m (m + 512) (p + (2 + size_at o p))
  runs-full = rw (to-full, joint) (runs-more c k' put)

  pub full-whole : Runs o k' base m (m + 512) (length o)
  full-whole = kept_same runs-full o k' refl refl c.ends (omega arith)

  pub full-merged : (k'' : List ℕ) (high : ℕ) → Merging o k' base m 0 high k'' → length k'' ≡ length k' → Added o k base top p k''
  full-merged k'' high g e =
      added-merged c k' put k'' (sym (rw (← joint) to-full))
      (rw to-full at (merged-run runs-full g e))
      (λ x. rw to-full at (merged-alike runs-full g x))
      (merged-around runs-full g)
      (λ j h. g.beyond j (omega (arith, to-full)))
