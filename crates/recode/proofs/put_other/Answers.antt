-- Right since each turn writes a plain run or one character more, and the answer is where none was read or the string ends.
-- Assumes nothing.
use Rattle.std.proofs.Common.{◌+◌, ◌-◌, ◌≤◌, [], ◌++◌, length, arith, refl, ap}
use lib.ListN.{length-append}
use Rattle.form.specs.Form.{form_no, way_no}
use Rattle.form.specs.Strings.{enc_of}
use Rattle.form.specs.Spans.{part}
use Rattle.form.proofs.Spans.{part_length}
use Rattle.recode.proofs.Outputs.{copied, puts_none, puts-more}
use Rattle.recode.proofs.Characters.{scalar, front, wrote, read, come-start, come-run, come-length, come-stuck, come-end}
use Rattle.recode.proofs.put_other.Goals as goal

pub loop-i-init : goal.loop-i-init
loop-i-init c = ([], omega arith, puts_none _ _, come-start (way_no c.args.way) c.args.s.now c.requires.1)

-- a run fits behind what is written so far, since with it the walk has come further
pub copy-requires : goal.copy-requires
copy-requires c =
    let way = way_no c.args.way in
    let s = c.args.s.now in
    let end = c.plain_end-run.result in
    let size = end - c.loop-i.i in
    let run = c.plain_end-run.ensures in
    let bs = c.loop-i.invariant.0 in
    let past = come-run way s c.loop-i.i end bs run.0 run.1 run.2 c.loop-i.invariant.3 in
    let many = part_length s c.loop-i.i size (omega (arith, run.0, run.1)) in
    let more = come-length way s _ _ past in
    let sum = length-append bs (part s c.loop-i.i size) in
    (omega (arith, run.0, run.1), omega (arith, more, sum, many, c.loop-i.invariant.2.next, c.requires.0, c.loop-i.auto.out))

-- a run of plain bytes more
pub loop-i-preserved-then-i-run : goal.loop-i-preserved-then-i-run
loop-i-preserved-then-i-run c =
    let way = way_no c.args.way in
    let s = c.args.s.now in
    let end = c.plain_end-run.result in
    let size = end - c.loop-i.i in
    let run = c.plain_end-run.ensures in
    let bs = c.loop-i.invariant.0 in
    let fits : c.args.at + length bs ≤ length c.args.out.now = omega (arith, c.requires.0, come-length way s c.loop-i.i bs c.loop-i.invariant.3) in (
      bs ++ part s c.loop-i.i size,
      run.1,
      puts-more bs c.args.out.now c.loop-i.out c.args.at c.loop-i.here fits c.loop-i.invariant.2 (part s c.loop-i.i size) _ _
          (copied _ s _ _ c.loop-i.i size c.loop-i.here (omega (arith, run.0, run.1)) refl c.copy.ensures),
      come-run way s c.loop-i.i end bs run.0 run.1 run.2 c.loop-i.invariant.3,
    )

pub put_in-here-requires : goal.put_in-here-requires
put_in-here-requires c =
    let char = c.in-Some.front.value in
    let way = way_no c.args.way in
    let bs = c.loop-i.invariant.0 in
    let one = front c.args.way _ c.loop-i.i c.args.s.now c.source.ensures c.in-Some.ensures in
    let r = read c.args.way c.loop-i.i c.args.s.now bs _ _ c.loop-i-test.true one c.loop-i.invariant.3 in
    let size = ap (λ n. length (enc_of (form_no n).strings char)) c.target.ensures in
    let more = come-length way c.args.s.now _ _ r.2 in
    let sum = length-append bs (enc_of way.to.strings char) in
    (scalar way.from.strings _ char _ one, omega (arith, size, more, sum, c.loop-i.invariant.2.next, c.requires.0, c.loop-i.auto.out))

pub overflow_add-i : goal.overflow_add-i
overflow_add-i c =
    let one = front c.args.way _ c.loop-i.i c.args.s.now c.source.ensures c.in-Some.ensures in
    let r = read c.args.way c.loop-i.i c.args.s.now c.loop-i.invariant.0 _ _ c.loop-i-test.true one c.loop-i.invariant.3 in
    omega (arith, r.1)

pub loop-i-smaller : goal.loop-i-smaller
loop-i-smaller c =
    let one = front c.args.way _ c.loop-i.i c.args.s.now c.source.ensures c.in-Some.ensures in
    let r = read c.args.way c.loop-i.i c.args.s.now c.loop-i.invariant.0 _ _ c.loop-i-test.true one c.loop-i.invariant.3 in
    omega (arith, r.0)

-- one character more
pub loop-i-preserved : goal.loop-i-preserved
loop-i-preserved c =
    let way = way_no c.args.way in
    let s = c.args.s.now in
    let inv = c.loop-i.invariant in
    let char = c.in-Some.front.value in
    let one = front c.args.way _ c.loop-i.i s c.source.ensures c.in-Some.ensures in
    let r = read c.args.way c.loop-i.i s inv.0 _ _ c.loop-i-test.true one inv.3 in
    let fits : c.args.at + length inv.0 ≤ length c.args.out.now = omega (arith, c.requires.0, come-length way s c.loop-i.i inv.0 inv.3) in
    let put = wrote c.args.way _ char _ _ _ _ c.target.ensures c.put_in-here.ensures in
    let puts = puts-more inv.0 c.args.out.now c.loop-i.out c.args.at c.loop-i.here fits inv.2 (enc_of way.to.strings char) _ _ put in
    (inv.0 ++ enc_of way.to.strings char, r.1, puts, r.2)

pub returns-in_default : goal.returns-in_default
returns-in_default c =
    let way = way_no c.args.way in
    let stuck = front c.args.way _ c.loop-i.i c.args.s.now c.source.ensures c.in_default.ensures in
    rw (come-stuck way c.args.s.now c.loop-i.i c.loop-i.invariant.0 stuck c.loop-i.invariant.3) c.loop-i.invariant.2

pub returns : goal.returns
returns c =
    let way = way_no c.args.way in
    rw (come-end way c.args.s.now c.loop-i.i c.loop-i.invariant.0 c.loop-i-test.false c.loop-i.invariant.3) c.loop-i.invariant.2
