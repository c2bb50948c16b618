-- A value by its first token, held to its list's kind: what `parse_value` answers, from what its calls answered.
-- Assumes nothing.
use Prim.Native.Nat.{ℕ, ◌+◌, ◌*◌, ◌≤◌}
use mathlib.Core.Path.{◌≡◌, refl, ap, ◌∙◌}
use mathlib.Core.Bool.{Bool, true, false, ◌||◌}
use mathlib.Core.List.{List}
use native.Mathlib.Omega.{arith}
use lib.Dec.{eqb}
use lib.ListN.{length}
use Rattle.form.specs.Answer.{Out, got, ◌>>◌, guard, mixed_list}
use Rattle.form.specs.Layout.{payload}
use Rattle.form.proofs.Table.{over-length}
use Rattle.snbt_form.proofs.Moves.{token-moves}
use Rattle.snbt_form.specs.Lexing.{Stops, TokenData, found, token_at}
use Rattle.snbt_form.specs.Text.{Value, Reads, sign_of, value_by, value_at, scalar_value}
use Rattle.snbt_tokens.specs.Answers.{token_is}
use Rattle.snbt_tokens.specs.declared.Token.{Token}
use Rattle.snbt_tokens.specs.declared.Token.TheVariants.{OpenCurly, ClosedCurly, OpenSquare, ClosedSquare, Comma, Colon, Semicolon, Str, Byte, Short, Int, Long, Float, Double}
use Rattle.snbt_placing.specs.declared.Done.{Done}
use Rattle.std.specs.Prelude.{Result, Ok, Err}
use Rattle.form.specs.declared.refusals.Refused.{Refused}
use Rattle.snbt_placing.specs.Done.{Did, Puts}
use Rattle.snbt_due.specs.Due.{value_from}
use Rattle.snbt_due.proofs.Reading.{from_found}
use Rattle.snbt_due.proofs.Steps.{met_at}
use Rattle.snbt.specs.Turns.{inner, Went, held}
use Rattle.snbt.specs.Steps.{ValueIs, ParsedValue, ParsedList, ParsedCompound, held_done, unless}
use Rattle.snbt.proofs.Reading.{value-unfold, value-compound, value-square, value-scalar}
use Rattle.snbt.proofs.Sizes.{scalar-went}

-- ---- what the arms of `{` and `[` leave of the tokens

pub no-curly : (k : Token) → (k ≡ OpenCurly → ⊥) → eqb (sign_of (token_is k)) 123 ≡ false
no-curly OpenCurly h = absurd (h refl)
no-curly ClosedCurly h = refl
no-curly OpenSquare h = refl
no-curly ClosedSquare h = refl
no-curly Comma h = refl
no-curly Colon h = refl
no-curly Semicolon h = refl
no-curly (Str q a e) h = refl
no-curly (Byte z) h = refl
no-curly (Short z) h = refl
no-curly (Int z) h = refl
no-curly (Long z) h = refl
no-curly (Float x) h = refl
no-curly (Double x) h = refl

pub no-square : (k : Token) → (k ≡ OpenSquare → ⊥) → eqb (sign_of (token_is k)) 91 ≡ false
no-square OpenCurly h = refl
no-square ClosedCurly h = refl
no-square OpenSquare h = absurd (h refl)
no-square ClosedSquare h = refl
no-square Comma h = refl
no-square Colon h = refl
no-square Semicolon h = refl
no-square (Str q a e) h = refl
no-square (Byte z) h = refl
no-square (Short z) h = refl
no-square (Int z) h = refl
no-square (Long z) h = refl
no-square (Float x) h = refl
no-square (Double x) h = refl

-- ---- what was read, under another name

pub did-as : {res res' : Out Value} {o o' : List ℕ} {at n u kind : ℕ} → res' ≡ res → Did res o at n u kind o' → Did res' o at n u kind o'
did-as e d = record {
  value = d.value;
  same = e ∙ d.same;
  next_is = d.next_is;
  used_is = d.used_is;
  kind_is = d.kind_is;
  size_is = d.size_is;
  fits = d.fits;
  wrote = d.wrote;
}

-- The output is as long as it was.
pub did-long : {res : Out Value} {o o' : List ℕ} {at n u kind : ℕ} → Did res o at n u kind o' → length o' ≡ length o
did-long {o = o} {at = at} d = ap length d.wrote ∙ over-length o at (payload d.value.tag) (omega (arith, d.size_is, d.fits))

-- ---- a value held to its list's kind

held_by : (b : Bool) (t o k : List ℕ) (top at p : ℕ) (d : Done) (q : ℕ) (o' k' : List ℕ) (v : Value) → Did (got v) o at d.next d.used d.kind o' → Went t k top p d.next d.used k'
    → ValueIs (guard b mixed_list q >> got v) t o k top at p (unless b (Ok d) q) o' k'
held_by true t o k top at p d q o' k' v did w = (did, w)
held_by false t o k top at p d q o' k' v did w = refl

held-is : (want q : ℕ) (res : Out Value) (t o k : List ℕ) (top at p : ℕ) (r : Result Done Refused) (o' k' : List ℕ)
    → ValueIs res t o k top at p r o' k' → ValueIs (held want q res) t o k top at p (held_done want q r) o' k'
held-is want q res t o k top at p (Err x) o' k' e = rw e refl
held-is want q res t o k top at p (Ok d) o' k' (did, w) =
    rw (did.same, ← did.kind_is)
    (held_by (eqb want 0 || eqb d.kind want) t o k top at p d q o' k' did.value (rw did.same at did) w)

-- ---- a value by its first token d, which is found at p

module _ (t o k : List ℕ) (set : Stops) (want p at top left : ℕ) (d : TokenData) (m : ℕ) (is : token_at set t p ≡ got (found d m)) (h : p ≤ length t) where
  abbrev whole : Out Value
  whole = value_from t (length o) (value_at t (length o) left) set want p at

  by_token : whole ≡ value_by t (length o) left (inner t (length o) left) want d m at
  by_token = from_found t (length o) (value_at t (length o) left) set want p at d m is ∙ ap (λ (f : Reads). f want d m at) (value-unfold t (length o) left)

  -- reading on from the token is reading on from its place
  on : (res : Out Value) (r : Result Done Refused) (o' k' : List ℕ) → whole ≡ res → ValueIs res t o k top at m r o' k' → ValueIs whole t o k top at p r o' k'
  on res (Err x) o' k' e v = e ∙ v
  on res (Ok y) o' k' e (did, w) =
      let z = token-moves set t p d m is h in
      (did-as e did, record { around = w.around; on = omega (arith, z.0, z.1, w.on); within = w.within; small = w.small })

  pub by-compound : (r r' : Result Done Refused) (o' k' : List ℕ) → sign_of d.token ≡ 123 → ParsedCompound t o k d.index m at top left r o' k'
      → r' ≡ held_done want d.index r → ParsedValue t o k set want p at top left r' o' k'
  by-compound r r' o' k' s v e =
      rw e (on _ (held_done want d.index r) o' k' (by_token ∙ value-compound t (length o) left (inner t (length o) left) want d m at s)
      (held-is want d.index _ t o k top at m r o' k' v))

  pub by-list : (r r' : Result Done Refused) (o' k' : List ℕ) → sign_of d.token ≡ 91 → ParsedList t o k d.index m at top left r o' k'
      → r' ≡ held_done want d.index r → ParsedValue t o k set want p at top left r' o' k'
  by-list r r' o' k' s v e =
      rw e (on _ (held_done want d.index r) o' k' (by_token ∙ value-square t (length o) left (inner t (length o) left) want d m at s)
      (held-is want d.index _ t o k top at m r o' k' v))

  pub by_scalar : (r : Result Done Refused) (o' : List ℕ) → at ≤ 16 * p → eqb (sign_of d.token) 123 ≡ false → eqb (sign_of d.token) 91 ≡ false
      → Puts (scalar_value t (length o) want d m at) o at r o' → ParsedValue t o k set want p at top left r o' k
  by_scalar (Err x) o' l g s e = by_token ∙ value-scalar t (length o) left (inner t (length o) left) want d m at g s ∙ e.0
  by_scalar (Ok y) o' l g s did =
      let met = met_at set t p d m is h in
      let z = scalar-went met (length o) want at did.value did.same in
      let w = token-moves set t p d m is h in (
        did-as (by_token ∙ value-scalar t (length o) left (inner t (length o) left) want d m at g s) did,
        record {
          around = refl;
          on = omega (arith, did.next_is, z.0, w.0, w.1);
          within = omega (arith, did.next_is, z.0, w.2);
          small = omega (arith, did.next_is, z.0, did.size_is, z.1, w.0, w.1);
        },
      )

  -- The place behind the token, for what is opened there.
  pub behind-token : at ≤ 16 * p → 3 * top ≤ p → (m ≤ length t) × (at + 16 ≤ 16 * m) × (3 * top ≤ m)
  behind-token l g = let z = token-moves set t p d m is h in (z.2, omega (arith, z.0, z.1, l), omega (arith, z.0, z.1, g))
