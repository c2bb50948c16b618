-- `snbt_keys::merge` meets its contract: the keys behind are merged first, then the key itself. It ends, since fewer are left at each call.
-- Assumes nothing.
use Prim.Native.Nat.{ℕ, ◌-◌, ◌+◌, ◌<◌}
use mathlib.Core.Path.{◌≡◌, ◌∙◌}
use borrow.Author.Rules.{rules}
use borrow.Fn.Kinds.{In, Out}
use borrow.Fn.PlainCycle.{Measures, is, falls, and}
use native.Mathlib.Omega.{arith}
use lib.ListN.{length, length-set}
use Rattle.snbt_keys.proofs.Merges.{merging_start, merging-run, merging-new, merging-next}
use Rattle.snbt_keys.proofs.merge.Reads as merge
use Rattle.snbt_keys.proofs.merge.Kinds as merge-kinds
use Rattle.snbt_keys.proofs.+merge.Lts-merge as lts
use Rattle.snbt_keys.proofs.index_of.Reads as index_of
use Rattle.snbt_keys.proofs.lift.Reads as lift
use Rattle.snbt_keys.proofs.+merge.{statement}
use Rattle.snbt_keys.proofs.+merge.Tie.{close}

abbrev μ-merge : Measures 2 merge-kinds.ps ℕ
μ-merge κs a = 512 - a.1.1.1.1.0

abbrev merge-at : ℕ → In 2 merge-kinds.ps
merge-at t = and 2 merge-kinds.ps (is 2 merge-kinds.ps μ-merge t) merge.Pre

abbrev merge-below : ℕ → In 2 merge-kinds.ps
merge-below t = and 2 merge-kinds.ps (falls 2 merge-kinds.ps ◌<◌ μ-merge t) merge.Pre

abbrev claims : ℕ → lts.Claims
claims t = (merge-below t, merge.Post, index_of.Asked, index_of.Learnt, lift.Asked, lift.Learnt)

abbrev On : ℕ → (lts.Claims → In 2 merge-kinds.ps → Out 2 merge-kinds.ps merge-kinds.r → Type 0) → Type 0
On t F = F (claims t) (merge-at t) merge.Post

module _ (t : ℕ) where
  -- another key is left
  left : (c : On t lts.After-lift) → c.args.n < 512
  left c = omega (arith, c.requires.1.1, c.if-n-eq512.false)

  -- there is room to put the key down behind what was lifted
  fits : (c : On t lts.After-lift) → c.index_of-index.result + c.args.n < length c.args.keys.now
  fits c = omega (arith, left c, c.index_of-index.ensures.sides.high, c.merge-high.ensures.to, c.requires.1.0.second.high)

  long : (c : On t lts.After-lift) → length c.lift.new.keys ≡ length c.args.keys.now
  long c = c.lift.auto.keys ∙ c.merge-high.auto.keys

pub +merge_spec : {M : Type 1} → statement M
+merge_spec =
    close μ-merge λ t.
    lts.spec (claims t) (merge-at t) merge.Post
    (λ c. merging_start c.requires.1.0 _ c.if-n-eq512.true)
    (λ c. omega (arith, c.requires.1.0.second.high, c.requires.1.1, c.if-n-eq512.false))
    (λ c. search rules)
    (λ c. omega (arith, c.requires.1.0.second.high, c.requires.1.1, c.if-n-eq512.false))
    (λ c. omega arith)
    (λ c κs. (omega (arith, c.requires.0, c.requires.1.1, c.if-n-eq512.false), (c.requires.1.0, omega (arith, c.requires.1.1, c.if-n-eq512.false))))
    (λ c. search rules)
    (λ c κs.
    let r = c.requires.1.0 in
    let l : c.args.n < 512 = omega (arith, c.requires.1.1, c.if-n-eq512.false) in (
      merging-run r c.merge-high.ensures l c.merge-high.auto.keys,
      (r.second.ends (c.args.mid + c.args.n) (omega arith) (omega (arith, l))),
      (merging-new r c.merge-high.ensures l),
    ))
    (λ c. omega arith)
    (λ c κs. (
      c.index_of-index.ensures.sides.high,
      omega (arith, c.requires.1.1, c.if-n-eq512.false, c.merge-high.ensures.to, c.merge-high.auto.keys, c.requires.1.0.second.high),
    ))
    (λ c. omega (arith, fits t c.before.before))
    (λ c. search rules)
    (λ c. omega (arith, fits t c.before.before, long t c.before.before))
    (λ c. simp length-set (long t c.before.before))
    (λ c.
    let lifted = c.before.before in
    merging-next c.requires.1.0 c.merge-high.ensures (left t lifted) c.index_of-index.ensures c.lift.ensures (long t lifted))
