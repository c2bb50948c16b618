-- `query::note` meets its contract: a match is written where there is room, and counted in any case.
-- Assumes nothing.
use Rattle.std.proofs.Common.{sym, ◌∙◌}
use Rattle.query.proofs.Walking.{walks-none, walks-put, walks-full}
use Rattle.query.proofs.note.Goals as goal
use Rattle.query.proofs.note.Goals.{then-count-list, else-count-list}

pub returns-then-not-has : goal.returns-then-not-has
returns-then-not-has c = rw (sym c.has.ensures ∙ c.if-not-has.true) (walks-none _ _)

pub returns : goal.returns
returns c =
    elim c.if-count-list.branch [
      | then-count-list w ↦ rw (sym c.has.ensures ∙ c.if-not-has.false, w.list-is) (walks-put _ _ _ w.if-count-list.true)
      | else-count-list w ↦ rw (sym c.has.ensures ∙ c.if-not-has.false, w.list-is) (walks-full _ _ _ w.if-count-list.false)
    ]
