-- Laws of lines from standard input.
-- Assumes nothing.
use Prim.Native.Nat.{ℕ, ◌+◌, ◌≤◌, ◌<◌}
use mathlib.Core.Bool.{Bool, true, false}
use mathlib.Core.List.{List}
use mathlib.Core.Path.{◌≡◌, refl, sym, ap, ◌∙◌}
use native.Mathlib.Omega.{arith}
use borrow.Author.Count.{below_more}
use lib.ListN.{length, get_or, set, drop, length-set}
use lib.Seq.{get_or-set_same, get_or-set_other, drop-set-lt, drop-drop}
use Rattle.lines.specs.Chunks.{LineIn}

-- What has been read of a line: its bytes stand in the buffer, and `long` says that there were more than it holds.
pub record Sofar (before after : List ℕ) (n : ℕ) (long : Bool) : Type 0 where
  pub line : LineIn before after n
  pub same : length after ≡ length before
  pub full : long ≡ true → n ≡ length before

-- Nothing of a line yet.
pub sofar-start : (l : List ℕ) → Sofar l l 0 false
sofar-start l = record {
  line = record { fits = omega arith; plain = λ k h e. omega arith; rest = refl };
  same = refl;
  full = λ e. absurd (let z : ◌≡◌ {A = ℕ} 0 1 = cc in omega arith);
}

module _ (before after : List ℕ) (n : ℕ) (long : Bool) (f : Sofar before after n long) where
  -- A byte more that is no line feed.
  pub sofar-next : (b : ℕ) → n < length after → (b ≡ 10 → ⊥) → Sofar before (set after n b) (n + 1) long
  sofar-next b h other = record {
    line = record {
      fits = omega (arith, f.same);
      plain =
          below_more (λ k. get_or (set after n b) k 0 ≡ 10 → ⊥) n
          (λ k g e. f.line.plain k g (sym (get_or-set_other after n k b 0 (λ s. omega arith)) ∙ e))
          (λ e. other (sym (get_or-set_same after n b 0 h) ∙ e));
      rest =
          drop-set-lt (n + 1) after n b (omega arith)
          ∙ sym (drop-drop 1 n after)
          ∙ ap (drop 1) f.line.rest
          ∙ drop-drop 1 n before;
    };
    same = length-set after n b ∙ f.same;
    full = λ e. absurd (omega (arith, f.full e, f.same));
  }

  -- A byte more that has no room.
  pub sofar-more : length after ≤ n → Sofar before after n true
  sofar-more h = record { line = f.line; same = f.same; full = λ e. omega (arith, f.same, f.line.fits) }
