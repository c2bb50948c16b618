-- Right by the first byte, and by the unit where it is none of four bytes.
-- Assumes nothing.
use Rattle.std.proofs.Common.{◌≡◌, ◌<◌, ℕ, List, drop, length, get_or, arith, refl, sym}
use borrow.Author.Tests.{lt-ltb, le-ltb, le-leb, lt-leb, eq-eqb, ne_eqb}
use lib.ListN.{drop_of_length-le}
use Rattle.form.specs.Decoding.{Sequence, unit_of, unpaired, utf8_of}
use Rattle.form.proofs.Drops.{drop1, drop4}
use Rattle.form.proofs.Utf8.{utf8-of, utf8-cut}
use Rattle.chars.proofs.utf8_at.Goals as goal

-- where no four bytes begin, the unit decides
by-unit : (s : List ℕ) (at : ℕ) (v : Sequence) → at < length s → (get_or s at 0 ≡ 0 → ⊥) → get_or s at 0 < 240
    → v ≡ unit_of (drop at s) → utf8_of (drop at s) ≡ unpaired v
by-unit s at v h n l e = utf8-of s at h v n l (sym e)

pub returns-then-s-at : goal.returns-then-s-at
returns-then-s-at c = unfold utf8_of in rw (drop_of_length-le c.args.s.now {i = c.args.at} (omega arith)) refl

pub returns-then-a-eq0 : goal.returns-then-a-eq0
returns-then-a-eq0 c = unfold utf8_of in let a = c.args in
    rw (drop1 a.s.now a.at (omega arith)) (simp (eq-eqb (get_or a.s.now a.at 0) 0 (omega arith)))

pub returns-then-a-ge248 : goal.returns-then-a-ge248
returns-then-a-ge248 c = unfold utf8_of in let a = c.args in let x = get_or a.s.now a.at 0 in
    rw (drop1 a.s.now a.at (omega arith)) (simp (ne_eqb x 0 (omega arith), le-leb 240 x (omega arith), le-leb 248 x (omega arith)))

pub returns-then-s-at-lt4 : goal.returns-then-s-at-lt4
returns-then-s-at-lt4 c = utf8-cut c.args.s.now c.args.at (omega arith) (omega arith) (omega arith) (omega arith)

pub returns-then-a-ge240 : goal.returns-then-a-ge240
returns-then-a-ge240 c = unfold utf8_of in let a = c.args in let x = get_or a.s.now a.at 0 in
    rw (drop4 a.s.now a.at (omega arith)) (simp (ne_eqb x 0 (omega arith), le-leb 240 x (omega arith), lt-leb 248 x (omega arith)) c.four.ensures)

pub returns-in_err-unit : goal.returns-in_err-unit
returns-in_err-unit c = rw (c.from_residual.ensures, by-unit c.args.s.now c.args.at _ (omega arith) (omega arith) (omega arith) c.in_err-unit.ensures) refl

pub returns-then-unit-eq0 : goal.returns-then-unit-eq0
returns-then-unit-eq0 c = let x = c.in_ok-unit.unit.value in
    rw (by-unit c.args.s.now c.args.at _ (omega arith) (omega arith) (omega arith) c.in_ok-unit.ensures) (simp (eq-eqb x 0 (omega arith)))

pub returns-then-unit-lt55296 : goal.returns-then-unit-lt55296
returns-then-unit-lt55296 c = let x = c.in_ok-unit.unit.value in
    rw (by-unit c.args.s.now c.args.at _ (omega arith) (omega arith) (omega arith) c.in_ok-unit.ensures) (simp (ne_eqb x 0 (omega arith), lt-ltb x 55296 (omega arith)))

pub returns-then-unit-lt57344 : goal.returns-then-unit-lt57344
returns-then-unit-lt57344 c = let x = c.in_ok-unit.unit.value in
    rw (by-unit c.args.s.now c.args.at _ (omega arith) (omega arith) (omega arith) c.in_ok-unit.ensures)
    (simp (ne_eqb x 0 (omega arith), le-ltb x 55296 (omega arith), lt-ltb x 57344 (omega arith)))

pub returns : goal.returns
returns c = let x = c.in_ok-unit.unit.value in
    rw (by-unit c.args.s.now c.args.at _ (omega arith) (omega arith) (omega arith) c.in_ok-unit.ensures)
    (simp (ne_eqb x 0 (omega arith), le-ltb x 55296 (omega arith), le-ltb x 57344 (omega arith)))
