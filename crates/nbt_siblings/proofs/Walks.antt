-- Laws of walks: a, f a, f (f a), and so on.
-- Assumes nothing.
use Prim.Native.Nat.{ℕ, zero, suc, ◌+◌, ◌-◌, ◌≤◌, ◌<◌}
use mathlib.Core.List.{List, [], ◌∷◌}
use mathlib.Core.Path.{◌≡◌, refl, ap, subst, ◌∙◌}
use mathlib.Core.Logic.{◌⊎◌, inl, inr, ⊎_elim}
use native.Mathlib.Omega.{arith}
use native.Mathlib.Numerals.{sub-one, add-one}
use Rattle.nbt_siblings.specs.Links.{Mem, walk, past}

pub mem-cases : (P : Type 0) (z x : ℕ) (xs : List ℕ) → (z ≡ x → P) → (Mem z xs → P) → Mem z (x ∷ xs) → P
unfolding Mem
mem-cases P z x xs f g m = ⊎_elim f g m

pub mem-head : (z x : ℕ) (xs : List ℕ) → z ≡ x → Mem z (x ∷ xs)
unfolding Mem
mem-head z x xs e = inl e

pub mem-tail : (z x : ℕ) (xs : List ℕ) → Mem z xs → Mem z (x ∷ xs)
unfolding Mem
mem-tail z x xs m = inr m

pub mem-none : (z : ℕ) → Mem z [] → ⊥
unfolding Mem
mem-none z m = m

-- ---- one turn

pub walk_none : (f : ℕ → ℕ) (a n : ℕ) → n ≤ 0 → walk f a n ≡ []
unfolding walk
walk_none f a zero h = refl
walk_none f a (suc n) h = absurd (omega arith)

pub walk-cons : (f : ℕ → ℕ) (a n : ℕ) → 0 < n → walk f a n ≡ a ∷ walk f (f a) (n - 1)
unfolding walk
walk-cons f a zero h = absurd (omega arith)
walk-cons f a (suc n) h = rw (sub-one (suc n)) refl

pub walk_more : (f : ℕ → ℕ) (a n : ℕ) → walk f a (n + 1) ≡ a ∷ walk f (f a) n
unfolding walk
walk_more f a n = rw (add-one n) refl

pub walk_first : (f : ℕ → ℕ) (a n : ℕ) → 0 < n → Mem a (walk f a n)
walk_first f a n h = rw (walk-cons f a n h) (mem-head a a _ refl)

pub walk-later : (f : ℕ → ℕ) (a n z : ℕ) → 0 < n → Mem z (walk f (f a) (n - 1)) → Mem z (walk f a n)
walk-later f a n z h m = rw (walk-cons f a n h) (mem-tail z a _ m)

pub walk-cases : (P : Type 0) (f : ℕ → ℕ) (a n z : ℕ) → 0 < n → (z ≡ a → P) → (Mem z (walk f (f a) (n - 1)) → P) → Mem z (walk f a n) → P
walk-cases P f a n z h p q m = mem-cases P z a (walk f (f a) (n - 1)) p q (rw (walk-cons f a n h) at m)

-- two functions that agree on the walk
pub walk-ext : (f g : ℕ → ℕ) (n a : ℕ) → ((z : ℕ) → Mem z (walk f a n) → f z ≡ g z) → walk f a n ≡ walk g a n
unfolding walk
walk-ext f g zero a h = refl
walk-ext f g (suc n) a h =
    ap (λ l. a ∷ l)
    (walk-ext f g n (f a) (λ z m. h z (mem-tail z a (walk f (f a) n) m)) ∙ ap (λ b. walk g b n) (h a (mem-head a a (walk f (f a) n) refl)))

pub past-ext : (f g : ℕ → ℕ) (n a : ℕ) → ((z : ℕ) → f z ≡ g z) → past f a n ≡ past g a n
unfolding past
past-ext f g zero a h = refl
past-ext f g (suc n) a h = past-ext f g n (f a) h ∙ ap (λ b. past g b n) (h a)

-- a walk in two parts
pub past-add : (f : ℕ → ℕ) (m k a : ℕ) → past f a (m + k) ≡ past f (past f a m) k
unfolding past
past-add f zero k a = ap (past f a) (let e : 0 + k ≡ k = omega arith in e)
past-add f (suc m) k a = ap (past f a) (let e : suc m + k ≡ suc (m + k) = omega arith in e) ∙ past-add f m k (f a)

pub walk-add : (f : ℕ → ℕ) (m k a z : ℕ) → Mem z (walk f a (m + k)) → Mem z (walk f a m) ⊎ Mem z (walk f (past f a m) k)
unfolding past walk
walk-add f zero k a z h = inr (subst (λ n. Mem z (walk f a n)) (let e : 0 + k ≡ k = omega arith in e) h)
walk-add f (suc m) k a z h =
    mem-cases (Mem z (a ∷ walk f (f a) m) ⊎ Mem z (walk f (past f (f a) m) k)) z a (walk f (f a) (m + k)) (λ e. inl (mem-head z a (walk f (f a) m) e))
    (λ t. ⊎_elim (λ l. inl (mem-tail z a (walk f (f a) m) l)) (λ r. inr r) (walk-add f m k (f a) z t))
    (subst (λ n. Mem z (walk f a n)) (let e : suc m + k ≡ suc (m + k) = omega arith in e) h)

pub walk-left : (f : ℕ → ℕ) (m k a z : ℕ) → Mem z (walk f a m) → Mem z (walk f a (m + k))
unfolding walk
walk-left f zero k a z h = absurd (mem-none z h)
walk-left f (suc m) k a z h =
    subst (λ n. Mem z (walk f a n)) (let e : suc (m + k) ≡ suc m + k = omega arith in e)
    (mem-cases (Mem z (a ∷ walk f (f a) (m + k))) z a (walk f (f a) m) (λ e. mem-head z a (walk f (f a) (m + k)) e)
    (λ t. mem-tail z a (walk f (f a) (m + k)) (walk-left f m k (f a) z t)) h)

pub walk-right : (f : ℕ → ℕ) (m k a z : ℕ) → Mem z (walk f (past f a m) k) → Mem z (walk f a (m + k))
unfolding past walk
walk-right f zero k a z h = subst (λ n. Mem z (walk f a n)) (let e : k ≡ 0 + k = omega arith in e) h
walk-right f (suc m) k a z h =
    subst (λ n. Mem z (walk f a n)) (let e : suc (m + k) ≡ suc m + k = omega arith in e)
    (mem-tail z a (walk f (f a) (m + k)) (walk-right f m k (f a) z h))

-- where each step goes up, what comes later is more
pub walk-low : (f : ℕ → ℕ) (n a : ℕ) → ((z : ℕ) → Mem z (walk f a n) → z < f z) → (z : ℕ) → Mem z (walk f a n) → a ≤ z
unfolding walk
walk-low f zero a up z m = absurd (mem-none z m)
walk-low f (suc n) a up z m =
    mem-cases (a ≤ z) z a (walk f (f a) n) (λ e. omega arith)
    (λ t. omega (arith, walk-low f n (f a) (λ w k. up w (mem-tail w a (walk f (f a) n) k)) z t, up a (mem-head a a (walk f (f a) n) refl))) m

pub walk-on : (f : ℕ → ℕ) (n a : ℕ) → ((z : ℕ) → Mem z (walk f a n) → z < f z) → a ≤ past f a n
unfolding walk past
walk-on f zero a up = omega arith
walk-on f (suc n) a up =
    omega (arith, walk-on f n (f a) (λ w k. up w (mem-tail w a (walk f (f a) n) k)), up a (mem-head a a (walk f (f a) n) refl))

pub walk-high : (f : ℕ → ℕ) (n a : ℕ) → ((z : ℕ) → Mem z (walk f a n) → z < f z) → (z : ℕ) → Mem z (walk f a n) → z < past f a n
unfolding walk past
walk-high f zero a up z m = absurd (mem-none z m)
walk-high f (suc n) a up z m =
    let up' : (w : ℕ) → Mem w (walk f (f a) n) → w < f w = λ w k. up w (mem-tail w a (walk f (f a) n) k) in
    mem-cases (z < past f (f a) n) z a (walk f (f a) n)
    (λ e. omega (arith, walk-on f n (f a) up', up a (mem-head a a (walk f (f a) n) refl)))
    (λ t. walk-high f n (f a) up' z t) m
