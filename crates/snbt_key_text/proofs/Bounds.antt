-- A content has at most twice as many bytes as the span of its token (rules 2 and 12): a zero byte becomes two.
-- Assumes nothing.
use Prim.Native.Nat.{ℕ, zero, suc, ◌+◌, ◌-◌, ◌*◌, ◌≤◌, ◌<◌}
use mathlib.Core.Bool.{Bool}
use mathlib.Core.List.{List, [], ◌∷◌}
use mathlib.Core.Path.{◌≡◌, refl, sym, ap, ◌∙◌, subst}
use native.Mathlib.Omega.{arith}
use lib.ListN.{length, drop, length-append}
use Rattle.form.specs.Answer.{got}
use Rattle.form.specs.Spans.{part}
use Rattle.form.specs.Strings.{encode_by, scalar_bytes}
use Rattle.form.proofs.Answer.{got-no, bind-got}
use Rattle.form.proofs.Spans.{part_length}
use Rattle.snbt_form.specs.Lexing.{front_of, scalars_by, content_of}
use Rattle.snbt_quotes.proofs.Parts.{part-drop}
use Rattle.snbt_contents.proofs.Sofar.{front-reach}
use Rattle.snbt_placing.proofs.Rooms.{got_same}

module _ (t : List ℕ) (q : Bool) (e : ℕ) (k : e ≤ length t) where
  -- The scalar values from i on.
  bounded : (f i : ℕ) (l cs : List ℕ) → i ≤ e → l ≡ part t i (e - i) → scalars_by f q l i ≡ got cs → length (encode_by scalar_bytes cs) ≤ 2 * (e - i)
  unfolding scalars_by
  bounded zero i [] cs h p m = subst (λ (x : List ℕ). length (encode_by scalar_bytes x) ≤ 2 * (e - i)) (got_same m) (omega arith)
  bounded zero i (b ∷ l) cs h p m = absurd (got-no (sym m))
  bounded (suc f) i [] cs h p m = subst (λ (x : List ℕ). length (encode_by scalar_bytes x) ≤ 2 * (e - i)) (got_same m) (omega arith)
  bounded (suc f) i (b ∷ l) cs h p m =
      let some : i < e = omega (arith, ap length p, part_length t i (e - i) (omega arith)) in
      let x = bind-got (front_of q (b ∷ l) i) _ m in
      let n = x.0.bytes in
      let r = front-reach t q 0 e i x.0.scalar n some k (ap (λ (y : List ℕ). front_of q y i) (sym p) ∙ x.1) in
      let y = bind-got (scalars_by f q (drop n (b ∷ l)) (i + n)) _ x.2 in
      let rest = bounded f (i + n) (drop n (b ∷ l)) y.0 r.1 (ap (drop n) p ∙ part-drop t i n e) y.1 in
      subst (λ (z : List ℕ). length (encode_by scalar_bytes z) ≤ 2 * (e - i)) (got_same y.2)
      (rw (length-append (scalar_bytes x.0.scalar) (encode_by scalar_bytes y.0)) (omega (arith, r.1, r.3, rest)))

  -- A whole content.
  pub content-bounded : (a : ℕ) (s : List ℕ) → a ≤ e → content_of t q a e ≡ got s → length s ≤ 2 * length t
  unfolding content_of
  content-bounded a s h m =
      let x = bind-got (scalars_by (e - a) q (part t a (e - a)) a) _ m in
      let l = bounded (e - a) a (part t a (e - a)) x.0 h refl x.1 in
      subst (λ (z : List ℕ). length z ≤ 2 * length t) (got_same x.2) (omega (arith, l, k))
