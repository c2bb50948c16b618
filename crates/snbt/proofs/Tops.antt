-- The whole text: refusals before any token, the root, its scratch, and what stands in the output.
-- Assumes nothing.
use Prim.Native.Nat.{ℕ, ◌-◌, ◌≤◌, ◌<◌}
use mathlib.Core.Path.{◌≡◌, refl, sym, ap, subst, ◌∙◌}
use mathlib.Core.Bool.{false}
use mathlib.Core.Logic.{◌⊎◌, inl, inr}
use mathlib.Core.List.{List, [], ◌∷◌, ◌++◌}
use native.Mathlib.Omega.{arith}
use borrow.Author.Tests.{eq-eqb, lt-leb}
use lib.Dec.{eqb}
use lib.ListN.{length, replicate}
use Rattle.form.specs.Answer.{Out, got, no, unexpected_token, text_ends, depth_limit}
use Rattle.form.specs.Numbers.{digits}
use Rattle.form.specs.Spans.{over}
use Rattle.form.specs.Tree as tree
use Rattle.form.specs.Layout.{payload, entry_bytes, layout, layout_in}
use Rattle.form.proofs.Answer.{got-no}
use Rattle.form.proofs.Picks.{lt-or}
use Rattle.form.proofs.Table.{over-before}
use Rattle.snbt_form.specs.Lexing.{default, TokenData, found, token_at, judged_text}
use Rattle.snbt_form.specs.Text.{Value, Block, Reads, sign_of, due, compound_at, value_at, parsed, ParseIs, lengths_of, output_after, document_of}
use Rattle.snbt_placing.specs.declared.Done.{Done}
use Rattle.std.specs.Prelude.{Result, Ok, Err}
use Rattle.form.specs.Refusals.{number_of}
use Rattle.form.specs.declared.refusals.Refused.{Refused}
use Rattle.snbt_due.proofs.Reading.{due-found}
use Rattle.snbt.specs.Turns.{inner, block_value, root_of, Rooted}
use Rattle.snbt.specs.Steps.{RootIs, ParsedCompound}
use Rattle.snbt.proofs.Reading.{inner_is}
use Rattle.snbt.proofs.Bytes.{compound-bytes}

-- ---- scratch

-- ---- a compound's value and its block

block_no : (x : Out Block) (a b : ℕ) → block_value x ≡ no a b → x ≡ no a b
block_no (got y) a b e = absurd (got-no e)
block_no (no n p) a b e = let y : n ≡ a = cc in let z : p ≡ b = cc in rw (y, z) refl

record Blocked (x : Out Block) (v : Value) : Type 0 where
  block : Block
  same : x ≡ got block
  value-is : v ≡ record { tag = tree.compound block.entries; next = block.next; used = block.used }

block-got : (x : Out Block) (v : Value) → block_value x ≡ got v → Blocked x v
block-got (got y) v e = record { block = y; same = refl; value-is = cc }
block-got (no n p) v e = absurd (got-no (sym e))

-- ---- the root

layout_is : (b : Block) → layout (document_of b) ≡ (10 ∷ 0 ∷ 0 ∷ []) ++ entry_bytes b.entries
unfolding layout_in digits
layout_is b = refl

-- The root's compound, behind its `{` at `brace`.
module _ (t o k : List ℕ) (brace m : ℕ) where
  abbrev rooted : Out Block
  rooted = compound_at t (length o) depth_limit (value_at t (length o) (depth_limit - 1)) brace m 3

  -- as the cycle reads it
  within : rooted ≡ compound_at t (length o) 512 (inner t (length o) 512) brace m 3
  within = ap (λ (v : Reads). compound_at t (length o) 512 v brace m 3) (sym (inner_is t (length o) 512 (λ z. absurd (omega (arith, z)))))

  pub rooted-no : (x : Refused) (o₁ k₁ : List ℕ) → ParsedCompound t o k brace m 3 0 512 (Err x) o₁ k₁ → rooted ≡ no (number_of x.refusal) x.place
  rooted-no x o₁ k₁ g = within ∙ block_no (compound_at t (length o) 512 (inner t (length o) 512) brace m 3) (number_of x.refusal) x.place g

  pub rooted-did : (d : Done) (o₁ k₁ o₂ : List ℕ) → ParsedCompound t o k brace m 3 0 512 (Ok d) o₁ k₁ → o₂ ≡ over o₁ 0 (10 ∷ 0 ∷ 0 ∷ []) → Rooted rooted o d.next d.used o₂
  rooted-did d o₁ k₁ o₂ (did, went) e =
      let b = block-got (compound_at t (length o) 512 (inner t (length o) 512) brace m 3) did.value did.same in
      record {
        block = b.block;
        same = within ∙ b.same;
        next_is = did.next_is ∙ ap (λ (w : Value). w.next) b.value-is;
        used_is = did.used_is ∙ ap (λ (w : Value). w.used) b.value-is;
        wrote =
            e ∙ ap (λ l. over l 0 (10 ∷ 0 ∷ 0 ∷ []))
            (did.wrote ∙ ap (λ (w : Value). over o 3 (payload w.tag)) b.value-is ∙ ap (over o 3) (compound-bytes b.block.entries))
            ∙ over-before o 0 (10 ∷ 0 ∷ 0 ∷ []) (entry_bytes b.block.entries) (omega (arith, did.size_is, did.fits))
            ∙ ap (over o 0) (sym (layout_is b.block));
      }

-- What is said of an answer is said of the same one under another name.
pub root-as : {res res' : Out Block} (o : List ℕ) (r : Result Done Refused) (o' : List ℕ) → res ≡ res' → RootIs res' o r o' → RootIs res o r o'
root-as o r o' e v = subst (λ (x : Out Block). RootIs x o r o') (sym e) v

module _ (t : List ℕ) (room : ℕ) where
  pub root-no : (a b : ℕ) → due t room default 0 text_ends (length t) ≡ no a b → root_of t room ≡ no a b
  root-no a b e = rw e refl

  module _ (d : TokenData) (m : ℕ) (e : token_at default t 0 ≡ got (found d m)) where
    pub root-other : eqb (sign_of d.token) 123 ≡ false → root_of t room ≡ no unexpected_token d.index
    root-other h = rw (due-found t room default 0 text_ends (length t) d m e, h) refl

    pub root_in : sign_of d.token ≡ 123 → root_of t room ≡ compound_at t room depth_limit (value_at t room (depth_limit - 1)) d.index m 3
    root_in h = rw (due-found t room default 0 text_ends (length t) d m e, eq-eqb (sign_of d.token) 123 h) refl

-- ---- refusals before any token

pub parsed-no : (t : List ℕ) (room n p : ℕ) → judged_text t ≡ no n p → parsed t room ≡ no n p
unfolding parsed
parsed-no t room n p e = rw e refl

pub parsed-on : (t : List ℕ) (room : ℕ) → judged_text t ≡ got tt → parsed t room ≡ root_of t room
unfolding parsed
parsed-on t room e = rw e refl

pub judged-within : (t : List ℕ) → judged_text t ≡ got tt → length t ≤ 1048576
unfolding judged_text
judged-within t e = go (lt-or 1048576 (length t))
  where
    go : (1048576 < length t) ⊎ (length t ≤ 1048576) → length t ≤ 1048576
    go (inr h) = h
    go (inl h) = absurd (got-no (sym (rw (lt-leb (length t) 1048576 h) at e)))

-- ---- the promise

pub parse-refused : (t o o' : List ℕ) (n p : ℕ) → parsed t (length o) ≡ no n p → o' ≡ replicate (length o) 0 → ParseIs t o (no n p) o'
parse-refused t o o' n p e f = record { answer_is = sym (ap lengths_of e); output_is = f ∙ sym (ap (λ (x : Out Block). output_after x o) e) }

pub parse-read : (t o o' : List ℕ) (n u : ℕ) → Rooted (parsed t (length o)) o n u o' → ParseIs t o (got (record { consumed = n; written = u })) o'
parse-read t o o' n u r = record {
  answer_is = rw (r.next_is, r.used_is) (sym (ap lengths_of r.same));
  output_is = r.wrote ∙ sym (ap (λ (x : Out Block). output_after x o) r.same);
}
