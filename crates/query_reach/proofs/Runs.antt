-- Laws of parts of lists, from the front.
-- Assumes nothing.
use Prim.Native.Nat.{ℕ, suc, ◌+◌, ◌-◌, ◌≤◌, ◌<◌}
use mathlib.Core.Path.{◌≡◌}
use mathlib.Core.List.{List, [], ◌∷◌}
use native.Mathlib.Omega.{arith}
use lib.ListN.{length, get_or}
use lib.Seq.{drop-cons}
use Rattle.form.specs.Spans.{part}

-- The first of what is left of a part, and the rest.
pub part-more : (l : List ℕ) (x i n : ℕ) → i < n → x + n ≤ length l
    → part l (x + i) (n - i) ≡ get_or l (x + i) 0 ∷ part l (x + (i + 1)) (n - (i + 1))
part-more l x i n lt le =
    let a : n - i ≡ suc (n - (i + 1)) = omega arith in
    let b : x + (i + 1) ≡ suc (x + i) = omega arith in
    let h : x + i < length l = omega arith in
    rw (a, b, drop-cons l (x + i) 0 h)

-- Nothing is left.
pub part_none : (l : List ℕ) (x i n : ℕ) → n ≤ i → part l (x + i) (n - i) ≡ []
part_none l x i n le = let a : n - i ≡ 0 = omega arith in rw a

-- All is left.
pub part-all : (l : List ℕ) (x n : ℕ) → part l (x + 0) (n - 0) ≡ part l x n
part-all l x n =
    let a : n - 0 ≡ n = omega arith in
    let b : x + 0 ≡ x = omega arith in
    rw (a, b)
