-- Laws of tokens and values that are due and of what follows: each way through a definition, one law a path.
-- Assumes nothing.
use Prim.Native.Nat.{ℕ}
use mathlib.Core.Path.{◌≡◌, refl}
use mathlib.Core.List.{List}
use borrow.Author.Tests.{eq-eqb, ne_eqb}
use lib.ListN.{length}
use Rattle.form.specs.Answer.{Out, got, no, ◌>>=◌, unexpected_token, text_ends}
use Rattle.snbt_form.specs.Lexing.{Stops, default, TokenData, found, ended, token_at}
use Rattle.snbt_form.specs.Text.{Next, goes_on, closes, Reads, sign_of, due, following}
use Rattle.snbt_due.specs.Due.{value_from}

-- ---- answers in a row

pub bind-cong : {A B : Type 0} (o : Out A) (k k' : A → Out B) → ((a : A) → k a ≡ k' a) → (o >>= k) ≡ (o >>= k')
bind-cong (got a) k k' h = h a
bind-cong (no n p) k k' h = refl

pub bind_assoc : {A B C : Type 0} (o : Out A) (k : A → Out B) (h : B → Out C) → ((o >>= k) >>= h) ≡ (o >>= (λ a. k a >>= h))
bind_assoc (got a) k h = refl
bind_assoc (no n p) k h = refl

-- ---- a token that is due

module _ (t : List ℕ) (room : ℕ) (set : Stops) (p n q : ℕ) where
  pub due-found : (d : TokenData) (m : ℕ) → token_at set t p ≡ got (found d m) → due t room set p n q ≡ got (record { td = d; next = m })
  unfolding due
  due-found d m e = rw e refl

  pub due-ended : (i : ℕ) → token_at set t p ≡ got (ended i) → due t room set p n q ≡ no n q
  unfolding due
  due-ended i e = rw e refl

  pub due-no : (a b : ℕ) → token_at set t p ≡ no a b → due t room set p n q ≡ no a b
  unfolding due
  due-no a b e = rw e refl

-- ---- a value that is due

module _ (t : List ℕ) (room : ℕ) (val : Reads) (set : Stops) (want p u : ℕ) where
  pub from_found : (d : TokenData) (m : ℕ) → token_at set t p ≡ got (found d m) → value_from t room val set want p u ≡ val want d m u
  unfolding value_from
  from_found d m e = rw (due-found t room set p text_ends (length t) d m e) refl

  pub from-ended : (i : ℕ) → token_at set t p ≡ got (ended i) → value_from t room val set want p u ≡ no text_ends (length t)
  unfolding value_from
  from-ended i e = rw (due-ended t room set p text_ends (length t) i e) refl

  pub from-no : (a b : ℕ) → token_at set t p ≡ no a b → value_from t room val set want p u ≡ no a b
  unfolding value_from
  from-no a b e = rw (due-no t room set p text_ends (length t) a b e) refl

-- ---- what follows

module _ (t : List ℕ) (room closing p n q : ℕ) where
  pub following-no : (a b : ℕ) → due t room default p n q ≡ no a b → following t room closing p n q ≡ no a b
  unfolding following
  following-no a b e = rw e refl

  module _ (x : Next) (e : due t room default p n q ≡ got x) where
    pub following-comma : sign_of x.td.token ≡ 44 → following t room closing p n q ≡ got (goes_on x.td.index x.next)
    unfolding following
    following-comma h = rw (e, eq-eqb (sign_of x.td.token) 44 h) refl

    pub following-close : (sign_of x.td.token ≡ 44 → ⊥) → sign_of x.td.token ≡ closing → following t room closing p n q ≡ got (closes x.td.index x.next)
    unfolding following
    following-close g h = rw (e, ne_eqb (sign_of x.td.token) 44 g, eq-eqb (sign_of x.td.token) closing h) refl

    pub following-other : (sign_of x.td.token ≡ 44 → ⊥) → (sign_of x.td.token ≡ closing → ⊥) → following t room closing p n q ≡ no unexpected_token x.td.index
    unfolding following
    following-other g h = rw (e, ne_eqb (sign_of x.td.token) 44 g, ne_eqb (sign_of x.td.token) closing h) refl
