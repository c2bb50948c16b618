-- `query_reach::reach` meets its contract: each way through the code is one of the laws of Gathering, and a call is asked with fewer steps and hops
-- left. Assumes nothing.
use Prim.Native.Nat.{ℕ, zero, suc, ◌+◌, ◌<◌}
use mathlib.Core.Path.{◌≡◌, refl, sym, ◌∙◌}
use native.Mathlib.Omega.{arith}
use mathlib.Core.Bool.{true, false}
use borrow.Fn.Kinds.{In, Out}
use borrow.Fn.PlainCycle.{Measures, is, falls, and}
use Rattle.query_reach.specs.Sets.{has}
use Rattle.query_reach.proofs.Gathering.{deep-some, take-some, here-had, here-one, past-ready, here-deep, over-ready, stay-ready, hop-deep, hop-on, hop-off}
use Rattle.query_reach.proofs.reach.Reads as reach
use Rattle.query_reach.proofs.reach.Kinds as kinds
use Rattle.query_reach.proofs.+reach.Lts-reach as lts
use Rattle.query_reach.proofs.has.Reads as has-reads
use Rattle.query_reach.proofs.only.Reads as only-reads
use Rattle.query_reach.proofs.+reach.{statement}
use Rattle.query_reach.proofs.+reach.Tie.{close}

-- What falls: the steps left and the hops left together.
abbrev μ : Measures 0 kinds.ps ℕ
μ κs a = a.1.1.0 + a.1.1.1.0

abbrev at : ℕ → In 0 kinds.ps
at t = and 0 kinds.ps (is 0 kinds.ps μ t) reach.Pre

abbrev below : ℕ → In 0 kinds.ps
below t = and 0 kinds.ps (falls 0 kinds.ps ◌<◌ μ t) reach.Pre

abbrev On : ℕ → (lts.Claims → In 0 kinds.ps → Out 0 kinds.ps kinds.r → Type 0) → Type 0
On t F = F (has-reads.Asked, has-reads.Learnt, only-reads.Asked, only-reads.Learnt, below t, reach.Post) (at t) reach.Post

positive : (n : ℕ) → (n ≡ 0 → ⊥) → 0 < n
positive zero e = absurd (e refl)
positive (suc n) e = omega arith

module _ (t : ℕ) where
  -- The places: where no hop is left, where one is, and where the function begins.
  abbrev end_of : On t lts.After-only-here → On t lts.Then-left-eq0
  end_of c = c.before.before.before

  abbrev hop-of : On t lts.Else-has-2 → On t lts.Else-left-eq0
  hop-of c = c.before.before

  has-requires : On t lts.Need-has-requires
  has-requires c κs = c.before.requires.1.0

  returns : On t lts.Need-returns-then-has
  returns c =
      let at_has = c.before in
      λ f h v. here-had v at_has.before.if-left-eq0.true (sym at_has.has.ensures ∙ c.if-has.true)

  only-requires : On t lts.Need-only-here-requires
  only-requires c κs = c.before.before.before.requires.1.0

  has-requires-2 : On t lts.Need-has-requires-then-left-eq0
  has-requires-2 c κs = (end_of c).before.requires.1.0

  returns-2 : On t lts.Need-returns-then-not-has
  returns-2 c =
      let at-has2 = c.before in
      let at_only = at-has2.before in
      λ f h v. here-one v (end_of at_only).if-left-eq0.true (sym at-has2.has-then-left-eq0.ensures ∙ c.if-not-has.true) at_only.only-here.ensures

  -- ---- the step is 04

  abbrev else-end : On t lts.Else-not-has → On t lts.Then-left-eq0
  else-end c = end_of c.before.before

  is-deep : (c : On t lts.Else-not-has) → has (else-end c).before.args.deeps (else-end c).before.args.s ≡ true
  is-deep c = sym c.before.has-then-left-eq0.ensures ∙ c.if-not-has.false

  deep-some-here : (c : On t lts.Else-not-has) → 0 < (else-end c).before.args.s
  deep-some-here c = deep-some (else-end c).before.requires.1.1.2 (is-deep c)

  sub-reach : On t lts.Need-overflow_sub-s
  sub-reach c = omega (arith, deep-some-here c)

  reach-requires : On t lts.Need-reach-requires
  reach-requires c κs =
      let at-then1 = else-end c in
      let some = deep-some-here c in
      let p = at-then1.before.requires in
      let w = p.1.1 in
      (omega (arith, some, p.0, at-then1.if-left-eq0.true), (omega (arith, p.1.0), (w.0, w.1, past-ready w.2 some)))

  returns-3 : On t lts.Need-returns-then-left-eq0
  returns-3 c =
      let at-else3 = c.before in
      let at_only = at-else3.before.before in
      let some = deep-some-here at-else3 in
      λ f h v. here-deep v some (end_of at_only).if-left-eq0.true (is-deep at-else3) (c.reach.ensures f h (past-ready v some)) at_only.only-here.ensures

  has-requires-3 : On t lts.Need-has-requires-2
  has-requires-3 c κs = c.before.requires.1.0

  -- ---- the step is 04, and a hop is left

  abbrev then-hop : On t lts.Then-has-2 → On t lts.Else-left-eq0
  then-hop c = c.before.before

  hop-is-deep : (c : On t lts.Then-has-2) → has (then-hop c).before.args.deeps (then-hop c).before.args.s ≡ true
  hop-is-deep c = sym c.before.has-2.ensures ∙ c.if-has-2.true

  deep-some-hop : (c : On t lts.Then-has-2) → 0 < (then-hop c).before.args.s
  deep-some-hop c = deep-some (then-hop c).before.requires.1.1.2 (hop-is-deep c)

  sub-reach-2 : On t lts.Need-overflow_sub-s-then-has-2
  sub-reach-2 c = omega (arith, deep-some-hop c)

  reach-requires-2 : On t lts.Need-reach-further-requires
  reach-requires-2 c κs =
      let at-else1 = then-hop c in
      let some = deep-some-hop c in
      let p = at-else1.before.requires in
      let w = p.1.1 in
      (omega (arith, some, p.0), (omega (arith, p.1.0), (w.0, w.1, over-ready w.2 some at-else1.if-left-eq0.false (hop-is-deep c))))

  reach-requires-3 : On t lts.Need-reach-requires-then-has-2
  reach-requires-3 c κs =
      let at-then4 = c.before in
      let at-else1 = then-hop at-then4 in
      let some = deep-some-hop at-then4 in
      let n = at-else1.if-left-eq0.false in
      let d = hop-is-deep at-then4 in
      let p = at-else1.before.requires in
      let w = p.1.1 in
      let further = c.reach-further.ensures w.0 w.1 (over-ready w.2 some n d) in
      (omega (arith, p.0, positive _ n), (p.1.0, (w.0, w.1, stay-ready w.2 some n d further)))

  returns-4 : On t lts.Need-returns-then-has-2
  returns-4 c =
      let at-reach2 = c.before in
      let at-then4 = at-reach2.before in
      let n = (then-hop at-then4).if-left-eq0.false in
      let some = deep-some-hop at-then4 in
      let d = hop-is-deep at-then4 in
      λ f h v. let further = at-reach2.reach-further.ensures f h (over-ready v some n d) in
      hop-deep v some n d further (c.reach-then-has-2.ensures f h (stay-ready v some n d further))

  -- ---- the step is another, and a hop is left

  not-deep : (c : On t lts.Else-has-2) → has (hop-of c).before.args.deeps (hop-of c).before.args.s ≡ false
  not-deep c = sym c.before.has-2.ensures ∙ c.if-has-2.false

  has-requires-4 : On t lts.Need-has-requires-3
  has-requires-4 c κs = (hop-of c).before.requires.1.0

  -- It takes the hop.
  take-hop : (c : On t lts.Then-has-3) → 0 < (hop-of c.before.before).before.args.s
  take-hop c =
      let at-has4 = c.before in
      let at-else1 = hop-of at-has4.before in
      take-some at-else1.before.requires.1.1.2 at-else1.if-left-eq0.false (sym at-has4.has-3.ensures ∙ c.if-has-3.true)

  sub-reach-3 : On t lts.Need-overflow_sub-s-then-has-3
  sub-reach-3 c = omega (arith, take-hop c)

  reach-requires-4 : On t lts.Need-reach-requires-then-has-3
  reach-requires-4 c κs =
      let some = take-hop c in
      let p = (hop-of c.before.before).before.requires in
      let w = p.1.1 in
      (omega (arith, some, p.0), (omega (arith, p.1.0), (w.0, w.1, past-ready w.2 some)))

  returns-5 : On t lts.Need-returns-then-has-3
  returns-5 c =
      let at-then5 = c.before in
      let at-has4 = at-then5.before in
      let at-else4 = at-has4.before in
      let some = take-hop at-then5 in
      let takes = sym at-has4.has-3.ensures ∙ at-then5.if-has-3.true in
      λ f h v. hop-on v some (hop-of at-else4).if-left-eq0.false (not-deep at-else4) takes (c.reach-then-has-3.ensures f h (past-ready v some))

  returns-6 : On t lts.Need-returns
  returns-6 c =
      let at-has4 = c.before in
      let at-else4 = at-has4.before in
      λ f h v. hop-off v (hop-of at-else4).if-left-eq0.false (not-deep at-else4) (sym at-has4.has-3.ensures ∙ c.if-has-3.false)

pub +reach_spec : {M : Type 1} → statement M
+reach_spec =
    close μ
    (λ t. lts.spec (has-reads.Asked, has-reads.Learnt, only-reads.Asked, only-reads.Learnt, below t, reach.Post) (at t) reach.Post
    (has-requires t)
    (returns t)
    (only-requires t)
    (has-requires-2 t)
    (returns-2 t)
    (sub-reach t)
    (reach-requires t)
    (returns-3 t)
    (has-requires-3 t)
    (sub-reach-2 t)
    (reach-requires-2 t)
    (reach-requires-3 t)
    (returns-4 t)
    (has-requires-4 t)
    (sub-reach-3 t)
    (reach-requires-4 t)
    (returns-5 t)
    (returns-6 t))
