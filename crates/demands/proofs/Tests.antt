-- Laws of two tests taken together.
-- Assumes nothing.
use mathlib.Core.Bool.{Bool, true, false, ◌&&◌}
use mathlib.Core.Path.{◌≡◌, refl}

pub and_both : {a b : Bool} → a ≡ true → b ≡ true → (a && b) ≡ true
and_both e f = rw (e, f) refl

pub and-left-false : {a : Bool} (b : Bool) → a ≡ false → (a && b) ≡ false
and-left-false b e = rw e refl

pub and-right-false : {a b : Bool} → a ≡ true → b ≡ false → (a && b) ≡ false
and-right-false e f = rw (e, f) refl
