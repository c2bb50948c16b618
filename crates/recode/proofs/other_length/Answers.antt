-- Right since each turn counts the bytes of a plain run or of one character more, and the answer is where none was read or the string ends.
-- Assumes nothing.
use Rattle.std.proofs.Common.{◌≡◌, ◌-◌, ◌/◌, ◌≤◌, ℕ, [], ◌++◌, length, arith, refl, sym, ap}
use mathlib.Core.Path.{◌∙◌}
use lib.ListN.{length-append}
use Rattle.form.specs.Form.{form_no, way_no}
use Rattle.form.specs.Strings.{enc_of}
use Rattle.form.specs.Spans.{part}
use Rattle.form.proofs.Spans.{part_length}
use Rattle.form.proofs.Turned.{enc-size}
use Rattle.recode.proofs.Characters.{front, read, come-start, come-run, come-stuck, come-end}
use Rattle.recode.proofs.other_length.Goals as goal

-- how many bytes a character takes by the other rule
taken : (way to c n : ℕ) → n ≡ length (enc_of (form_no to).strings c) → to ≡ way / 256 → n ≡ length (enc_of (way_no way).to.strings c)
taken way to c n e f = e ∙ ap (λ k. length (enc_of (form_no k).strings c)) f

few : (way c n : ℕ) → n ≡ length (enc_of (way_no way).to.strings c) → n ≤ 6
few way c n e = rw e (enc-size (way_no way).to.strings c)

pub loop-i-init : goal.loop-i-init
loop-i-init c = ([], omega arith, refl, omega arith, come-start (way_no c.args.way) c.args.s.now c.requires.1)

-- a run of plain bytes, which takes as many by the other rule
pub loop-i-preserved-then-i-run : goal.loop-i-preserved-then-i-run
loop-i-preserved-then-i-run c =
    let s = c.args.s.now in
    let inv = c.loop-i.invariant in
    let i = c.loop-i.i in
    let end = c.plain_end-run.result in
    let run = c.plain_end-run.ensures in
    let bs = part s i (end - i) in
    let size : length bs ≡ end - i = part_length s i (end - i) (omega (arith, run.0, run.1)) in (
      inv.0 ++ bs,
      run.1,
      rw (length-append inv.0 bs) (omega (arith, inv.2, size)),
      omega (arith, inv.3, run.0),
      come-run (way_no c.args.way) s i end inv.0 run.0 run.1 run.2 inv.4,
    )

pub overflow_add-total-in-loop-i : goal.overflow_add-total-in-loop-i
overflow_add-total-in-loop-i c = omega (arith, few c.args.way _ _ (taken c.args.way _ _ _ c.length_in-total.ensures c.target.ensures))

pub overflow_add-i : goal.overflow_add-i
overflow_add-i c =
    let one = front c.args.way _ c.loop-i.i c.args.s.now c.source.ensures c.in-Some.ensures in
    let r = read c.args.way c.loop-i.i c.args.s.now c.loop-i.invariant.0 _ _ c.loop-i-test.true one c.loop-i.invariant.4 in
    omega (arith, r.1)

pub loop-i-smaller : goal.loop-i-smaller
loop-i-smaller c =
    let one = front c.args.way _ c.loop-i.i c.args.s.now c.source.ensures c.in-Some.ensures in
    let r = read c.args.way c.loop-i.i c.args.s.now c.loop-i.invariant.0 _ _ c.loop-i-test.true one c.loop-i.invariant.4 in
    omega (arith, r.0)

-- one character more
pub loop-i-preserved : goal.loop-i-preserved
loop-i-preserved c =
    let way = way_no c.args.way in
    let inv = c.loop-i.invariant in
    let bs = enc_of way.to.strings c.in-Some.front.value in
    let one = front c.args.way _ c.loop-i.i c.args.s.now c.source.ensures c.in-Some.ensures in
    let r = read c.args.way c.loop-i.i c.args.s.now inv.0 _ _ c.loop-i-test.true one inv.4 in
    let t = taken c.args.way _ _ _ c.length_in-total.ensures c.target.ensures in
    (inv.0 ++ bs, r.1, rw (length-append inv.0 bs) (omega (arith, inv.2, t)), omega (arith, inv.3, few c.args.way _ _ t, r.0), r.2)

pub returns-in_default : goal.returns-in_default
returns-in_default c =
    let inv = c.loop-i.invariant in
    let stuck = front c.args.way _ c.loop-i.i c.args.s.now c.source.ensures c.in_default.ensures in
    inv.2 ∙ ap length (sym (come-stuck (way_no c.args.way) c.args.s.now c.loop-i.i inv.0 stuck inv.4))

pub returns : goal.returns
returns c =
    let inv = c.loop-i.invariant in
    inv.2 ∙ ap length (sym (come-end (way_no c.args.way) c.args.s.now c.loop-i.i inv.0 c.loop-i-test.false inv.4))
