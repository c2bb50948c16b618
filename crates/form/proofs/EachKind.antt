-- The kinds of rule 4, one by one: what holds of 1 to 12 holds of every kind.
-- Assumes nothing.
use Prim.Native.Nat.{ℕ, zero, suc, ◌≤◌, ◌<◌}
use native.Mathlib.Omega.{arith}

-- What holds of each.
pub by_kind : (P : ℕ → Type 0) → P 1 → P 2 → P 3 → P 4 → P 5 → P 6 → P 7 → P 8 → P 9 → P 10 → P 11 → P 12 → (k : ℕ) → 0 < k → k ≤ 12 → P k
by_kind P a b c d e f g h i j k l zero p q = absurd (omega arith)
by_kind P a b c d e f g h i j k l (suc zero) p q = a
by_kind P a b c d e f g h i j k l (suc (suc zero)) p q = b
by_kind P a b c d e f g h i j k l (suc (suc (suc zero))) p q = c
by_kind P a b c d e f g h i j k l (suc (suc (suc (suc zero)))) p q = d
by_kind P a b c d e f g h i j k l (suc (suc (suc (suc (suc zero))))) p q = e
by_kind P a b c d e f g h i j k l (suc (suc (suc (suc (suc (suc zero)))))) p q = f
by_kind P a b c d e f g h i j k l (suc (suc (suc (suc (suc (suc (suc zero))))))) p q = g
by_kind P a b c d e f g h i j k l (suc (suc (suc (suc (suc (suc (suc (suc zero)))))))) p q = h
by_kind P a b c d e f g h i j k l (suc (suc (suc (suc (suc (suc (suc (suc (suc zero))))))))) p q = i
by_kind P a b c d e f g h i j k l (suc (suc (suc (suc (suc (suc (suc (suc (suc (suc zero)))))))))) p q = j
by_kind P a b c d e f g h i j k l (suc (suc (suc (suc (suc (suc (suc (suc (suc (suc (suc zero))))))))))) p q = k
by_kind P a b c d e f g h i j k l (suc (suc (suc (suc (suc (suc (suc (suc (suc (suc (suc (suc zero)))))))))))) p q = l
by_kind P a b c d e f g h i j k l (suc (suc (suc (suc (suc (suc (suc (suc (suc (suc (suc (suc (suc n))))))))))))) p q = absurd (omega arith)
