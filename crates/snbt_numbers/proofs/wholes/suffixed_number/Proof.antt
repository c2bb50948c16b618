-- `wholes::suffixed_number` meets its contract: the definition at each letter, and at every other byte.
-- Assumes nothing.
use borrow.Author.Rules.{rules}
use mathlib.Core.Path.{◌≡◌, refl, sym, ap, ◌∙◌}
use mathlib.Core.Logic.{⊎_elim, ◌⊎◌}
use Prim.Native.Nat.{ℕ}
use lib.IntN.{ℤ}
use lib.Ieee.{binary64, of_int}
use mir.Syntax.{w64}
use mir.Val.{to_z, of_z, SFits}
use mir.ValLaws.{to_z-of_z}
use Rattle.snbt_form.specs.Values.{signed}
use Rattle.snbt_form.specs.Numbers.{Number, byte, short, int, long, float, double, suffixed}
use Rattle.snbt_numbers.proofs.OnePass.{no-suffix, plain}
use Rattle.snbt_numbers.proofs.wholes.suffixed_number.Statement.{statement}
use Rattle.snbt_numbers.proofs.wholes.suffixed_number.Tie as tie

-- the definition at a letter and at its capital
by-letter : (n : Number) (b j k : ℕ) (z : ℤ) → n ≡ suffixed j z → n ≡ suffixed k z → (b ≡ j) ⊎ (b ≡ k) → n ≡ suffixed b z
by-letter n b j k z p q = ⊎_elim (λ e. p ∙ ap (λ (x : ℕ). suffixed x z) (sym e)) (λ e. q ∙ ap (λ (x : ℕ). suffixed x z) (sym e))

-- what the machine reads back of the signed number
back : (r z : ℤ) → SFits w64 r → r ≡ z → to_z w64 (of_z w64 r) ≡ z
back r z f e = to_z-of_z w64 r f ∙ e

-- the whole number
abbrev whole_of : tie.Start → ℤ
whole_of s = signed s.args.negative s.args.m

pub suffixed_number_spec : {M : Type 1} → statement M
suffixed_number_spec =
    tie.close
    (tie.spec
    (λ c κs. search rules)
    (λ c κs. search rules)
    (λ c κs. search rules)
    (λ c κs. search rules)
    (λ c κs. search rules)
    (λ c κs. search rules)
    (λ c.
    let z = whole_of c.before.before in
    ap byte (back c.signed_i64.result z (record { sfits = c.signed_i64.type_inv }) c.signed_i64.ensures)
    ∙ by-letter (byte z) c.args.b 66 98 z refl refl c.in-98.is)
    (λ c.
    let z = whole_of c.before.before in
    ap short (back c.signed_i64-in-115.result z (record { sfits = c.signed_i64-in-115.type_inv }) c.signed_i64-in-115.ensures)
    ∙ by-letter (short z) c.args.b 83 115 z refl refl c.in-115.is)
    (λ c.
    let z = whole_of c.before.before in
    ap long (back c.signed_i64-in-108.result z (record { sfits = c.signed_i64-in-108.type_inv }) c.signed_i64-in-108.ensures)
    ∙ by-letter (long z) c.args.b 76 108 z refl refl c.in-108.is)
    (λ c.
    let z = whole_of c.before.before in
    ap float c.nearest_double.ensures ∙ by-letter (float (of_int binary64 z)) c.args.b 70 102 z refl refl c.in-102.is)
    (λ c.
    let z = whole_of c.before.before in
    ap double c.nearest_double-in-100.ensures ∙ by-letter (double (of_int binary64 z)) c.args.b 68 100 z refl refl c.in-100.is)
    (λ c.
    let r = c.in_default.in_default-own.rest in
    let z = whole_of c.before.before in
    ap int (back c.signed_i64-in_default.result z (record { sfits = c.signed_i64-in_default.type_inv }) c.signed_i64-in_default.ensures)
    ∙ sym (plain c.args.b z (no-suffix c.args.b r.0.0.0.0.1 r.0.0.0.1 r.0.0.1 r.0.1 r.1))))
