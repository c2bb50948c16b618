-- Laws of merging two sorted lists onto a third.
-- Assumes nothing.
use Prim.Native.Nat.{ℕ}
use mathlib.Core.Bool.{Bool, true, false, not}
use mathlib.Core.List.{List, [], ◌∷◌}
use mathlib.Core.Path.{◌≡◌, refl, sym, subst}
use mathlib.Core.Logic.{◌⊎◌, inl, inr, ⊎_elim}
use native.Mathlib.Omega.{arith}
use Rattle.nbt_siblings.specs.Links.{Mem, Lt, Le, Sorted}
use Rattle.nbt_siblings.proofs.Walks.{mem-cases, mem-head, mem-tail, mem-none}

lt-irreflexive : (u : Bool) (a b : ℕ) → a ≡ b → Lt u a b → ⊥
lt-irreflexive true a b e h = omega arith
lt-irreflexive false a b e h = omega arith

le-lt : (u : Bool) (a b c : ℕ) → Le u a b → Lt u b c → Lt u a c
le-lt true a b c h l = omega arith
le-lt false a b c h l = omega arith

le-ne : (u : Bool) (a b : ℕ) → Le u a b → (a ≡ b → ⊥) → Lt u a b
le-ne true a b h n = omega (arith, n)
le-ne false a b h n = omega (arith, n)

lt_not : (u : Bool) (a b : ℕ) → Lt u a b → Lt (not u) b a
lt_not true a b h = h
lt_not false a b h = h

pub sorted_head : (u : Bool) (key : ℕ → ℕ) (x : ℕ) (xs : List ℕ) → Sorted u key (x ∷ xs) → (z : ℕ) → Mem z xs → Lt u (key x) (key z)
unfolding Sorted
sorted_head u key x xs s = s.0

pub sorted_tail : (u : Bool) (key : ℕ → ℕ) (x : ℕ) (xs : List ℕ) → Sorted u key (x ∷ xs) → Sorted u key xs
unfolding Sorted
sorted_tail u key x xs s = s.1

pub sorted-cons : (u : Bool) (key : ℕ → ℕ) (x : ℕ) (xs : List ℕ) → ((z : ℕ) → Mem z xs → Lt u (key x) (key z)) → Sorted u key xs → Sorted u key (x ∷ xs)
unfolding Sorted
sorted-cons u key x xs h s = (h, s)

pub sorted_none : (u : Bool) (key : ℕ → ℕ) → Sorted u key []
unfolding Sorted
sorted_none u key = tt

pub sorted_ext : (u : Bool) (f g : ℕ → ℕ) (xs : List ℕ) → ((z : ℕ) → f z ≡ g z) → Sorted u f xs → Sorted u g xs
unfolding Sorted
sorted_ext u f g [] e s = tt
sorted_ext u f g (x ∷ xs) e s =
    (λ z m. subst (λ k. Lt u k (g z)) (e x) (subst (λ k. Lt u (f x) k) (e z) (s.0 z m)), sorted_ext u f g xs e s.1)

-- a sorted list has each of its members once
pub sorted-once : (u : Bool) (key : ℕ → ℕ) (x : ℕ) (xs : List ℕ) → Sorted u key (x ∷ xs) → Mem x xs → ⊥
sorted-once u key x xs s m = lt-irreflexive u (key x) (key x) refl (sorted_head u key x xs s x m)

-- two lists, to be taken from the front, and those taken, the last first: all of them those for which U
pub record Three (u : Bool) (key : ℕ → ℕ) (U : ℕ → Type 0) (us vs ws : List ℕ) : Type 0 where
  pub sa : Sorted u key us
  pub sb : Sorted u key vs
  pub sc : Sorted (not u) key ws
  pub ca : (z w : ℕ) → Mem z ws → Mem w us → Lt u (key z) (key w)
  pub cb : (z w : ℕ) → Mem z ws → Mem w vs → Lt u (key z) (key w)
  pub ab : (z : ℕ) → Mem z us → Mem z vs → ⊥
  pub all : (z : ℕ) → U z → Mem z us ⊎ (Mem z vs ⊎ Mem z ws)
  pub ina : (z : ℕ) → Mem z us → U z
  pub inb : (z : ℕ) → Mem z vs → U z
  pub inc : (z : ℕ) → Mem z ws → U z

pub three-swap : {u : Bool} {key : ℕ → ℕ} {U : ℕ → Type 0} {us vs ws : List ℕ} → Three u key U us vs ws → Three u key U vs us ws
three-swap h = record {
  sa = h.sb;
  sb = h.sa;
  sc = h.sc;
  ca = h.cb;
  cb = h.ca;
  ab = λ z m n. h.ab z n m;
  all = λ z m. ⊎_elim (λ a. inr (inl a)) (λ r. ⊎_elim (λ b. inl b) (λ c. inr (inr c)) r) (h.all z m);
  ina = h.inb;
  inb = h.ina;
  inc = h.inc;
}

-- the first of the second list, if there is one, does not come before x
unfoldable pub First : Bool → (ℕ → ℕ) → ℕ → List ℕ → Type 0
First u key x [] = Unit {0}
First u key x (y ∷ ys) = Le u (key x) (key y)

module _ (u : Bool) (key : ℕ → ℕ) (U : ℕ → Type 0) (inj : (x y : ℕ) → U x → U y → key x ≡ key y → x ≡ y) where
  first-all : (x : ℕ) (ys : List ℕ) → U x → ((z : ℕ) → Mem z ys → U z) → (Mem x ys → ⊥) → First u key x ys → Sorted u key ys → (w : ℕ) → Mem w ys → Lt u (key x) (key w)
  unfolding First
  first-all x [] ux uy n f s w m = absurd (mem-none w m)
  first-all x (y ∷ ys) ux uy n f s w m =
      mem-cases (Lt u (key x) (key w)) w y ys
      (λ e. subst (λ k. Lt u (key x) (key k)) (sym e) (le-ne u (key x) (key y) f (λ k. n (mem-head x y ys (inj x y ux (uy y (mem-head y y ys refl)) k)))))
      (λ t. le-lt u (key x) (key y) (key w) f (sorted_head u key y ys s w t)) m

  pub three-left : (x : ℕ) (us vs ws : List ℕ) → Three u key U (x ∷ us) vs ws → First u key x vs → Three u key U us vs (x ∷ ws)
  three-left x us vs ws h f = record {
    sa = sorted_tail u key x us h.sa;
    sb = h.sb;
    sc = sorted-cons (not u) key x ws (λ z m. lt_not u (key z) (key x) (h.ca z x m (mem-head x x us refl))) h.sc;
    ca = λ z w m n. mem-cases (Lt u (key z) (key w)) z x ws
        (λ e. subst (λ k. Lt u (key k) (key w)) (sym e) (sorted_head u key x us h.sa w n)) (λ t. h.ca z w t (mem-tail w x us n)) m;
    cb = λ z w m n. mem-cases (Lt u (key z) (key w)) z x ws
        (λ e. subst (λ k. Lt u (key k) (key w)) (sym e)
        (first-all x vs (h.ina x (mem-head x x us refl)) h.inb (λ k. h.ab x (mem-head x x us refl) k) f h.sb w n)) (λ t. h.cb z w t n) m;
    ab = λ z m n. h.ab z (mem-tail z x us m) n;
    all = λ z m. ⊎_elim
        (λ a. mem-cases (Mem z us ⊎ (Mem z vs ⊎ Mem z (x ∷ ws))) z x us (λ e. inr (inr (mem-head z x ws e))) (λ t. inl t) a)
        (λ r. ⊎_elim (λ b. inr (inl b)) (λ c. inr (inr (mem-tail z x ws c))) r) (h.all z m);
    ina = λ z m. h.ina z (mem-tail z x us m);
    inb = h.inb;
    inc = λ z m. mem-cases (U z) z x ws (λ e. subst U (sym e) (h.ina x (mem-head x x us refl))) (λ t. h.inc z t) m;
  }

  -- x stands in none of the lists but its own, and there but once
  pub three-apart : (x : ℕ) (us vs ws : List ℕ) → Three u key U (x ∷ us) vs ws → (Mem x us → ⊥) × (Mem x vs → ⊥) × (Mem x ws → ⊥)
  three-apart x us vs ws h =
      (sorted-once u key x us h.sa, λ m. h.ab x (mem-head x x us refl) m, λ m. lt-irreflexive u (key x) (key x) refl (h.ca x x m (mem-head x x us refl)))
