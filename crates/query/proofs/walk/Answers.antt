-- `query::walk` meets its contract: what is found at the root and in it is what matches.
-- Assumes nothing.
use Rattle.std.proofs.Common.{arith}
use Rattle.query_reach.proofs.Plans.{laid_in_lem}
use Rattle.query.proofs.Roots.{root-own, root-ready, root-done, root-alone}
use Rattle.query.proofs.walk.Goals as goal

pub start-set-requires : goal.start-set-requires
start-set-requires c = (_, laid_in_lem c.lay.ensures _ c.requires.2)

pub word-requires : goal.word-requires
word-requires c = ((root-own c.args.doc.now _ c.requires.0.0).row, omega arith)

pub visit_all-requires : goal.visit_all-requires
visit_all-requires c =
    let p = c.requires in
    let reaches = c.start-set.ensures _ (laid_in_lem c.lay.ensures c.args.q.now p.2) in
    root-ready _ _ p.0.0 _ reaches c.note-more.ensures p.0.1 p.1

pub returns-then-goes_in : goal.returns-then-goes_in
returns-then-goes_in c =
    let laid = c.lay.ensures in
    let reaches = c.start-set.ensures _ (laid_in_lem laid c.args.q.now c.requires.2) in
    λ form i. root-done form _ _ i _ laid reaches c.note-more.ensures c.visit_all.ensures

pub returns : goal.returns
returns c =
    let laid = c.lay.ensures in
    let reaches = c.start-set.ensures _ (laid_in_lem laid c.args.q.now c.requires.2) in
    λ form i. root-alone form c.args.doc.now _ i _ laid reaches c.note-more.ensures c.word.ensures c.goes_in.ensures c.if-goes_in.false
