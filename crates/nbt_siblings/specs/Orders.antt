-- What a comparison of two numbers answers, as the code says it.
-- Assumes nothing.
use Rattle.std.specs.Prelude.{ℕ, ◌<◌, ◌≡◌}
use Rattle.std.specs.declared.cmp.Ordering.{Ordering}
use Rattle.std.specs.declared.cmp.Ordering.TheVariants.{Less, Equal, Greater}

-- the order of two numbers
abbrev pub Ordered : ℕ → ℕ → Ordering → Type 0
Ordered x y Less = x < y
Ordered x y Equal = x ≡ y
Ordered x y Greater = y < x
