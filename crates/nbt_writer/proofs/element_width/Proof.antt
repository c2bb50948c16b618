-- Right since the code has the table of widths, kind by kind.
-- Assumes nothing.
use Prim.Native.Nat.{ℕ, ◌≤◌, ◌<◌}
use mathlib.Core.Logic.{◌⊎◌, inl, inr}
use mathlib.Core.Path.{◌≡◌, refl, sym}
use Rattle.form.specs.Table.{width_of}
use Rattle.form.proofs.EachKind.{by_kind}
use Rattle.nbt_judging.specs.Pieces.{element_width}
use Rattle.nbt_writer.proofs.Laid.{known}
use Rattle.nbt_writer.proofs.element_width.Statement.{statement}
use Rattle.nbt_writer.proofs.element_width.Tie as tie

-- The rest: the kinds 1 and 7 to 10, and what is none.
returns-8 : tie.Need-returns-in_default
unfolding element_width width_of
returns-8 c = go c.args.kind refl (known c.args.kind)
  where
    go : (kind : ℕ) → c.args.kind ≡ kind → ((0 < kind) × (kind ≤ 12)) ⊎ (element_width kind ≡ 1) → ◌≡◌ {A = ℕ} 1 (element_width kind)
    go kind e (inl k) =
        let other = c.in_default.in_default-own.rest in
        by_kind (λ x. c.args.kind ≡ x → ◌≡◌ {A = ℕ} 1 (element_width x))
        (λ q. refl) (λ q. absurd (other.0.0.0.0.0.0.1 q)) (λ q. absurd (other.0.0.0.0.0.1 q)) (λ q. absurd (other.0.0.0.0.1 q))
        (λ q. absurd (other.0.0.0.1 q)) (λ q. absurd (other.0.0.1 q)) (λ q. refl) (λ q. refl) (λ q. refl) (λ q. refl)
        (λ q. absurd (other.0.1 q)) (λ q. absurd (other.1 q))
        kind k.0 k.1 e
    go kind e (inr one) = sym one

pub element_width_spec : {M : Type 1} → statement M
unfolding element_width width_of
element_width_spec =
    tie.close
    (tie.spec
    (λ c. rw c.in-2.is refl)
    (λ c. rw c.in-3.is refl)
    (λ c. rw c.in-4.is refl)
    (λ c. rw c.in-5.is refl)
    (λ c. rw c.in-6.is refl)
    (λ c. rw c.in-11.is refl)
    (λ c. rw c.in-12.is refl)
    returns-8)
