-- Laws of records wherever their words are got from (Records.antt): what stands together, that the words are determined by the tree and the
-- tree by the words, and in which record each one sits.
-- Assumes nothing.
use Prim.Native.Nat.{ℕ, zero, suc, ◌+◌, ◌*◌, ◌≤◌, ◌<◌}
use mathlib.Core.Path.{◌≡◌, refl, sym, subst, ◌∙◌}
use mathlib.Core.Logic.{◌⊎◌, inl, inr, ⊎_elim}
use mathlib.Core.List.{List}
use mathlib.Core.Bool.{Bool, true, false}
use native.Mathlib.Omega.{arith}
use native.Mathlib.Decide.{ℕ_discrete, dec_lt}
use lib.ListN.{length, get_or}
use Rattle.form.specs.Table.{Head, Forest, none, node, size, word}
use Rattle.form.proofs.Picks.{differ}
use Rattle.form.specs.Eight.{old_words}
use Rattle.form.specs.Records.{Sits, Under, StandsAt, SitsAt, UnderAt}

-- ---- what stands together

module _ (get : ℕ → ℕ → ℕ) (n : ℕ) where
  -- An empty row of records stands anywhere.
  pub at_none : SitsAt get n none
  unfolding SitsAt
  at_none = tt

  module _ (h : Head) (inner later : Forest) where
    -- The first record, those in it and those after it stand together.
    pub at-node : StandsAt get n h (n + 1 + size inner) → SitsAt get (n + 1) inner → SitsAt get (n + 1 + size inner) later → SitsAt get n (node h inner later)
    unfolding SitsAt
    at-node s i l = (s, i, l)

    module _ (s : SitsAt get n (node h inner later)) where
      pub at_first : StandsAt get n h (n + 1 + size inner)
      unfolding SitsAt
      at_first = s.0

      pub at_inner : SitsAt get (n + 1) inner
      unfolding SitsAt
      at_inner = s.1

      pub at-later : SitsAt get (n + 1 + size inner) later
      unfolding SitsAt
      at-later = s.2

module _ (get : ℕ → ℕ → ℕ) (up : Bool) (p n : ℕ) where
  -- An empty row of records has any parent.
  pub above-none : UnderAt get up p n none
  unfolding UnderAt
  above-none = tt

  module _ (h : Head) (inner later : Forest) where
    -- The first record has the parent p, those in it the first, those after it p too.
    pub above-node : (up ≡ true → get n 8 ≡ p) → UnderAt get up n (n + 1) inner → UnderAt get up p (n + 1 + size inner) later → UnderAt get up p n (node h inner later)
    unfolding UnderAt
    above-node e i l = (e, i, l)

    module _ (u : UnderAt get up p n (node h inner later)) where
      pub above-first : up ≡ true → get n 8 ≡ p
      unfolding UnderAt
      above-first = u.0

      pub above-inner : UnderAt get up n (n + 1) inner
      unfolding UnderAt
      above-inner = u.1

      pub above-later : UnderAt get up p (n + 1 + size inner) later
      unfolding UnderAt
      above-later = u.2

-- Records without a parent's word have any parents.
pub above-free : (get : ℕ → ℕ → ℕ) (p n : ℕ) (f : Forest) → UnderAt get false p n f
unfolding UnderAt
above-free get p n none = tt
above-free get p n (node h inner later) =
    (λ e. differ (sym e), above-free get n (n + 1) inner, above-free get p (n + 1 + size inner) later)

-- ---- in a table

module _ (t : List ℕ) where
  -- Records that stand in a table are got from it,
  pub sits-at : (n : ℕ) (f : Forest) → Sits t n f → SitsAt (word t) n f
  unfolding Sits SitsAt
  sits-at n none s = tt
  sits-at n (node h inner later) s =
      let a = s.0 in (
        record {
          kind = a.kind;
          name = a.name;
          name_length = a.name_length;
          start = a.start;
          size = a.size;
          count = a.count;
          list_kind = a.list_kind;
          end = a.end;
        },
        sits-at (n + 1) inner s.1,
        sits-at (n + 1 + size inner) later s.2,
      )

  -- and those that are got from it stand there, as far as it goes.
  pub at-sits : (n : ℕ) (f : Forest) → SitsAt (word t) n f → 9 * (n + size f) ≤ length t → Sits t n f
  unfolding Sits SitsAt size
  at-sits n none s l = tt
  at-sits n (node h inner later) s l =
      let a = s.0 in (
        record {
          room = omega arith;
          kind = a.kind;
          name = a.name;
          name_length = a.name_length;
          start = a.start;
          size = a.size;
          count = a.count;
          list_kind = a.list_kind;
          end = a.end;
        },
        at-sits (n + 1) inner s.1 (omega arith),
        at-sits (n + 1 + size inner) later s.2 (omega arith),
      )

  -- So do their parents.
  pub under-above : (p n : ℕ) (f : Forest) → Under t p n f → UnderAt (word t) true p n f
  unfolding Under UnderAt
  under-above p n none u = tt
  under-above p n (node h inner later) u = (λ _. u.0, under-above n (n + 1) inner u.1, under-above p (n + 1 + size inner) later u.2)

  pub above-under : (p n : ℕ) (f : Forest) → UnderAt (word t) true p n f → Under t p n f
  unfolding Under UnderAt
  above-under p n none u = tt
  above-under p n (node h inner later) u = (u.0 refl, above-under n (n + 1) inner u.1, above-under p (n + 1 + size inner) later u.2)

-- ---- the words by the tree, and the tree by the words

-- The eight words of a record by their number.
pub stands_word : (get : ℕ → ℕ → ℕ) (n : ℕ) (h : Head) (e : ℕ) → StandsAt get n h e → (k : ℕ) → k < 8 → get n k ≡ get_or (old_words h e) k 0
stands_word get n h e s zero l = s.kind
stands_word get n h e s (suc zero) l = s.name
stands_word get n h e s (suc (suc zero)) l = s.name_length
stands_word get n h e s (suc (suc (suc zero))) l = s.start
stands_word get n h e s (suc (suc (suc (suc zero)))) l = s.size
stands_word get n h e s (suc (suc (suc (suc (suc zero))))) l = s.count
stands_word get n h e s (suc (suc (suc (suc (suc (suc zero)))))) l = s.list_kind
stands_word get n h e s (suc (suc (suc (suc (suc (suc (suc zero))))))) l = s.end
stands_word get n h e s (suc (suc (suc (suc (suc (suc (suc (suc k)))))))) l = absurd (omega arith)

-- A number among those of records is the first's, or among those in it, or among those after it.
pub among-three : (n i : ℕ) (inner later : Forest) → n ≤ i → i < n + (1 + size inner + size later)
    → (n ≡ i) ⊎ (((n + 1 ≤ i) × (i < n + 1 + size inner)) ⊎ ((n + 1 + size inner ≤ i) × (i < n + 1 + size inner + size later)))
among-three n i inner later lo hi = go (ℕ_discrete n i) (dec_lt i (n + 1 + size inner))
  where
    go : Dec (n ≡ i) → Dec (i < n + 1 + size inner)
        → (n ≡ i) ⊎ (((n + 1 ≤ i) × (i < n + 1 + size inner)) ⊎ ((n + 1 + size inner ≤ i) × (i < n + 1 + size inner + size later)))
    go (yes e) q = inl e
    go (no e) (yes q) = inr (inl (omega arith, q))
    go (no e) (no q) = inr (inr (omega arith, omega arith))

module _ (get get' : ℕ → ℕ → ℕ) where
  -- Where the same records stand, the words are the same but for the ninth.
  pub same-words : (n : ℕ) (f : Forest) → SitsAt get n f → SitsAt get' n f → (i : ℕ) → n ≤ i → i < n + size f → (k : ℕ) → k < 8 → get i k ≡ get' i k
  unfolding SitsAt size
  same-words n none s r i lo hi k l = absurd (omega arith)
  same-words n (node h inner later) s r i lo hi k l =
      ⊎_elim
      (λ e. subst (λ x. get x k ≡ get' x k) e (stands_word get n h (n + 1 + size inner) s.0 k l ∙ sym (stands_word get' n h (n + 1 + size inner) r.0 k l)))
      (⊎_elim
      (λ h. same-words (n + 1) inner s.1 r.1 i h.0 h.1 k l)
      (λ h. same-words (n + 1 + size inner) later s.2 r.2 i h.0 h.1 k l))
      (among-three n i inner later lo hi)

  -- Where the words are the same but for the ninth, the same records stand.
  pub sits-too : (n : ℕ) (f : Forest) → SitsAt get n f → ((i : ℕ) → n ≤ i → i < n + size f → (k : ℕ) → k < 8 → get' i k ≡ get i k) → SitsAt get' n f
  unfolding SitsAt size
  sits-too n none s e = tt
  sits-too n (node h inner later) s e =
      let a = s.0 in
      let word : (k : ℕ) → k < 8 → get' n k ≡ get n k = e n (omega arith) (omega arith) in (
        record {
          kind = word 0 (omega arith) ∙ a.kind;
          name = word 1 (omega arith) ∙ a.name;
          name_length = word 2 (omega arith) ∙ a.name_length;
          start = word 3 (omega arith) ∙ a.start;
          size = word 4 (omega arith) ∙ a.size;
          count = word 5 (omega arith) ∙ a.count;
          list_kind = word 6 (omega arith) ∙ a.list_kind;
          end = word 7 (omega arith) ∙ a.end;
        },
        sits-too (n + 1) inner s.1 (λ i lo hi. e i (omega arith) (omega arith)),
        sits-too (n + 1 + size inner) later s.2 (λ i lo hi. e i (omega arith) (omega arith)),
      )

  -- The same of their ninth words.
  pub above-too : (up : Bool) (p n : ℕ) (f : Forest) → UnderAt get up p n f → ((i : ℕ) → n ≤ i → i < n + size f → up ≡ true → get' i 8 ≡ get i 8) → UnderAt get' up p n f
  unfolding UnderAt size
  above-too up p n none u e = tt
  above-too up p n (node h inner later) u e = (
    λ t. e n (omega arith) (omega arith) t ∙ u.0 t,
    above-too up n (n + 1) inner u.1 (λ i lo hi. e i (omega arith) (omega arith)),
    above-too up p (n + 1 + size inner) later u.2 (λ i lo hi. e i (omega arith) (omega arith)),
  )

-- Records that are got from one place on, as many, are the same.
pub one-forest : (get : ℕ → ℕ → ℕ) (n : ℕ) (f g : Forest) → SitsAt get n f → SitsAt get n g → size f ≡ size g → f ≡ g
unfolding SitsAt size
one-forest get n none none s r e = refl
one-forest get n none (node h inner later) s r e = absurd (omega arith)
one-forest get n (node h inner later) none s r e = absurd (omega arith)
one-forest get n (node h inner later) (node h' inner' later') s r e =
    let a = s.0 in
    let b = r.0 in
    let p : n + 1 + size inner ≡ n + 1 + size inner' = sym a.end ∙ b.end in
    let i : inner ≡ inner' = one-forest get (n + 1) inner inner' s.1 r.1 (omega arith) in
    let l : later ≡ later' = one-forest get (n + 1 + size inner) later later' s.2 (rw (← p) at r.2) (omega arith) in
    λ k. node (record {
      kind = (sym a.kind ∙ b.kind) k;
      name = (sym a.name ∙ b.name) k;
      name_length = (sym a.name_length ∙ b.name_length) k;
      start = (sym a.start ∙ b.start) k;
      size = (sym a.size ∙ b.size) k;
      count = (sym a.count ∙ b.count) k;
      list_kind = (sym a.list_kind ∙ b.list_kind) k;
    }) (i k) (l k)

-- ---- who holds whom

module _ (get : ℕ → ℕ → ℕ) where
  -- A record ends where the records that it is among do, at the latest.
  pub ends-within : (n : ℕ) (f : Forest) → SitsAt get n f → (i : ℕ) → n ≤ i → i < n + size f → get i 7 ≤ n + size f
  unfolding SitsAt size
  ends-within n none s i lo hi = absurd (omega arith)
  ends-within n (node h inner later) s i lo hi =
      ⊎_elim
      (λ e. subst (λ x. get x 7 ≤ n + (1 + size inner + size later)) e (omega (arith, s.0.end)))
      (⊎_elim
      (λ q. omega (arith, ends-within (n + 1) inner s.1 i q.0 q.1))
      (λ q. omega (arith, ends-within (n + 1 + size inner) later s.2 i q.0 q.1)))
      (among-three n i inner later lo hi)

  -- Record j's parent: a record before it, which it is in.
  pub record Held (n j : ℕ) : Type 0 where
    pub from : n ≤ get j 8
    pub before : get j 8 < j
    pub inside : j < get (get j 8) 7

  -- Among records under p each has p or one of them for its parent.
  pub held_by : (p n : ℕ) (f : Forest) → SitsAt get n f → UnderAt get true p n f → (j : ℕ) → n ≤ j → j < n + size f → (get j 8 ≡ p) ⊎ Held n j
  unfolding SitsAt UnderAt size
  held_by p n none s u j lo hi = absurd (omega arith)
  held_by p n (node h inner later) s u j lo hi =
      ⊎_elim
      (λ e. inl (subst (λ x. get x 8 ≡ p) e (u.0 refl)))
      (⊎_elim
      (λ q. inr (⊎_elim
      (λ e. record { from = omega arith; before = omega (arith, q.0); inside = rw e (omega (arith, s.0.end, q.1)) })
      (λ k. record { from = omega (arith, k.from); before = k.before; inside = k.inside })
      (held_by n (n + 1) inner s.1 u.1 j q.0 q.1)))
      (λ q. ⊎_elim inl (λ k. inr (record { from = omega (arith, k.from); before = k.before; inside = k.inside }))
      (held_by p (n + 1 + size inner) later s.2 u.2 j q.0 q.1)))
      (among-three n j inner later lo hi)

  -- The parent of a record that sits in m is m or sits in m too.
  pub held-inside : (p n : ℕ) (f : Forest) → SitsAt get n f → UnderAt get true p n f → (m j : ℕ) → n ≤ m → m < j → j < n + size f → j < get m 7 → m ≤ get j 8
  unfolding SitsAt UnderAt size
  held-inside p n none s u m j lo on hi h = absurd (omega arith)
  held-inside p n (node h inner later) s u m j lo on hi in-m =
      ⊎_elim
      (λ e.
      let end : get m 7 ≡ n + 1 + size inner = subst (λ x. get x 7 ≡ n + 1 + size inner) e s.0.end in
      ⊎_elim (λ k. omega (arith, k)) (λ k. omega (arith, k.from)) (held_by n (n + 1) inner s.1 u.1 j (omega arith) (omega arith)))
      (⊎_elim
      (λ q. let end = ends-within (n + 1) inner s.1 m q.0 q.1 in held-inside n (n + 1) inner s.1 u.1 m j q.0 on (omega arith) in-m)
      (λ q. held-inside p (n + 1 + size inner) later s.2 u.2 m j q.0 on (omega arith) in-m))
      (among-three n m inner later lo (omega arith))
