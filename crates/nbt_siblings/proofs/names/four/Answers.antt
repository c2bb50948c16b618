-- Each byte is below 256.
use Rattle.std.proofs.Common.{◌+◌, ◌<◌, get_or, arith}
use Rattle.nbt_siblings.specs.Links.{four_of}
use Rattle.nbt_siblings.proofs.names.four.Goals as goal

pub returns : goal.returns
unfolding four_of
returns c =
    let doc = c.args.doc.now in
    let at = c.args.at in
    let t = c.type_inv.doc in
    let h : get_or doc at 0 < 256 = omega (arith, t at) in
    let h1 : get_or doc (at + 1) 0 < 256 = omega (arith, t (at + 1)) in
    let h2 : get_or doc (at + 2) 0 < 256 = omega (arith, t (at + 2)) in
    let h3 : get_or doc (at + 3) 0 < 256 = omega (arith, t (at + 3)) in
    (omega (arith, c.from-a.ensures, c.from-b.ensures, c.from-c.ensures, c.from-d.ensures), omega (arith, c.from-a.ensures, c.from-b.ensures, c.from-c.ensures, c.from-d.ensures))
