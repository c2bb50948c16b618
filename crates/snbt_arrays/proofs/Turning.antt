-- Laws of an array's elements (rule 14): a token's value in a width, and what one turn of the definition is by its token.
-- Assumes nothing.
use Prim.Native.Nat.{ℕ, suc, ◌+◌, ◌≤◌, ◌<◌}
use mathlib.Core.Bool.{Bool, true, false}
use mathlib.Core.List.{List, [], ◌∷◌}
use mathlib.Core.Path.{◌≡◌, refl, sym, ◌∙◌, subst}
use native.Mathlib.Omega.{arith}
use borrow.Author.Tests.{ne_eqb}
use lib.Dec.{leb, eqb}
use lib.IntN.{ℤ}
use lib.ListN.{length}
use Rattle.form.specs.Answer.{Out, got, no, ◌>>=◌, ◌>>◌, guard, output_full, unmatched_brace}
use Rattle.snbt_form.specs.Lexing.{TokenData, found, ended, later, token_at}
use Rattle.snbt_form.proofs.Moves.{token-moves}
use Rattle.snbt_form.specs.Text.{Ints, Last, otherwise, after_comma, no_comma, sign_of, element_int, due, ints_by}
use Rattle.snbt_tokens.specs.declared.Index.{Index}
use Rattle.std.specs.Prelude.{Result, Ok, Err}
use Rattle.form.specs.declared.refusals.Refused.{Refused}
use Rattle.snbt_arrays.specs.declared.elements.ElementTurn.{ElementTurn}
use Rattle.snbt_arrays.specs.declared.elements.ElementTurn.TheVariants.{Comma, Element, End}
use Rattle.snbt_placing.specs.Done.{Wide, bytes, ints, longs}
use Rattle.snbt_arrays.specs.Turns.{element_fits, PutIs, behind_all, ClosedIs, TurnIs}

-- ---- widths

pub wide-range : {w : ℕ} → Wide w → (0 < w) × (w ≤ 8)
wide-range bytes = (omega arith, omega arith)
wide-range ints = (omega arith, omega arith)
wide-range longs = (omega arith, omega arith)

-- ---- an element that is written

module _ (o : List ℕ) (w : ℕ) (d : TokenData) (n u : ℕ) where
  module _ (z : ℤ) (e : (p : ℕ) → element_int w d.token p ≡ got z) {r : Bool} (h : r ≡ leb (u + w) (length o)) where
    pub put_full : r ≡ false → element_fits (length o) w d u ≡ no output_full d.index
    put_full f = let g : leb (u + w) (length o) ≡ false = sym h ∙ f in rw (e d.index, g) refl

-- ---- one turn

module _ (t : List ℕ) (room w brace : ℕ) (last : Last) (p u : ℕ) where
  -- The token's own refusal comes first.
  pub turn-refused : (a b : ℕ) → token_at later t p ≡ no a b → (f : ℕ) → ints_by t room (suc f) w brace last p u ≡ no a b
  unfolding ints_by due
  turn-refused a b e f = rw e refl

  -- At the text's end 22.
  pub turn-ended : (q : ℕ) → token_at later t p ≡ got (ended q) → (f : ℕ) → ints_by t room (suc f) w brace last p u ≡ no unmatched_brace brace
  unfolding ints_by due
  turn-ended q e f = rw e refl

  module _ (d : TokenData) (n : ℕ) (e : token_at later t p ≡ got (found d n)) where
    -- The rest of the array behind an element.
    abbrev rest_of : ℕ → ℤ → Out Ints
    rest_of f z = ints_by t room f w brace otherwise n (u + w) >>= behind_all (z ∷ [])

    -- The definition by the two tests of the token's sign.
    abbrev step : Bool → Bool → ℕ → Out Ints
    step isComma isBrace f = elim isComma [
      | true ↦ ints_by t room f w brace (after_comma d.index) n u
      | false ↦ elim isBrace [
        | true ↦ no_comma last >> got (record { values = []; next = n; used = u })
        | false ↦ element_int w d.token d.index >>= (λ z. guard (leb (u + w) room) output_full d.index >> rest_of f z)
      ]
    ]

    stepped : (f : ℕ) → ints_by t room (suc f) w brace last p u ≡ step (eqb (sign_of d.token) 44) (eqb (sign_of d.token) 93) f
    unfolding ints_by due
    stepped f = rw e refl

    -- A comma is taken.
    comma-next : sign_of d.token ≡ 44 → (f : ℕ) → ints_by t room (suc f) w brace last p u ≡ ints_by t room f w brace (after_comma d.index) n u
    comma-next s f = stepped f ∙ rw s refl

    -- The closing brace ends the array, or is refused (21).
    closed-next : sign_of d.token ≡ 93 → (f : ℕ) → ints_by t room (suc f) w brace last p u ≡ (no_comma last >> got (record { values = []; next = n; used = u }))
    closed-next s f = stepped f ∙ rw s refl

    -- Any other token is an element, or is refused as one.
    element-next : (sign_of d.token ≡ 44 → ⊥) → (sign_of d.token ≡ 93 → ⊥) → (f : ℕ)
        → ints_by t room (suc f) w brace last p u ≡ (element_fits room w d u >>= rest_of f)
    element-next c b f =
        stepped f ∙ rw (ne_eqb (sign_of d.token) 44 c, ne_eqb (sign_of d.token) 93 b) (fits-first (element_int w d.token d.index) (leb (u + w) room) (rest_of f))
      where
        fits-first : (x : Out ℤ) (r : Bool) (rest : ℤ → Out Ints)
            → (x >>= (λ z. guard r output_full d.index >> rest z)) ≡ ((x >>= (λ z. guard r output_full d.index >> got z)) >>= rest)
        fits-first (got z) true rest = refl
        fits-first (got z) false rest = refl
        fits-first (no a k) r rest = refl

-- What one turn answers, by its token and in the output's length.
module _ (t : List ℕ) (w brace : ℕ) (last : Last) (p u : ℕ) (o : List ℕ) (inside : p ≤ length t) (d : TokenData) (n : ℕ) (e : token_at later t p ≡ got (found d n)) where
  -- The next place lies behind, within the text.
  moves : (p < n) × (n ≤ length t)
  moves = let m = token-moves later t p d n e inside in (omega (arith, m.0, m.1), m.2)

  pub turn-comma : sign_of d.token ≡ 44 → (i : Index) → i.0 ≡ d.index → {o' : List ℕ} → o' ≡ o → TurnIs t w brace last p u o (Ok (Comma i n)) o'
  turn-comma s i j x = rw j (record { on = moves.0; within = moves.1; is = comma-next t (length o) w brace last p u d n e s }, x)

  -- The closing brace: the end, or 21 at a comma that stands last.
  pub turn-closed : sign_of d.token ≡ 93 → (r : Result ElementTurn Refused) {o' : List ℕ} → o' ≡ o → ClosedIs last n r → TurnIs t w brace last p u o r o'
  turn-closed s (Ok (Comma i m)) x c = absurd c
  turn-closed s (Ok (Element m)) x c = absurd c
  turn-closed s (Ok (End m)) {o'} x c =
      subst (λ (m : ℕ). TurnIs t w brace last p u o (Ok (End m)) o') (sym c.1)
      (record { on = moves.0; within = moves.1; is = λ f. closed-next t (length o) w brace last p u d n e s f ∙ rw c.0 refl }, x)
  turn-closed s (Err r) x c = λ f. closed-next t (length o) w brace last p u d n e s f ∙ rw c refl

  pub turn-put : (sign_of d.token ≡ 44 → ⊥) → (sign_of d.token ≡ 93 → ⊥) → (r : Result ElementTurn Refused) (o' : List ℕ) → PutIs w d n u o r o' → TurnIs t w brace last p u o r o'
  turn-put c b (Ok (Comma i m)) o' x = absurd x
  turn-put c b (Ok (Element m)) o' (z, g, s, h, x) =
      subst (λ (m : ℕ). TurnIs t w brace last p u o (Ok (Element m)) o') (sym s)
      (z, record { on = moves.0; within = moves.1; is = λ f. element-next t (length o) w brace last p u d n e c b f ∙ rw g refl }, h, x)
  turn-put c b (Ok (End m)) o' x = absurd x
  turn-put c b (Err r) o' x = λ f. element-next t (length o) w brace last p u d n e c b f ∙ rw x refl
