-- `marked` meets its contract: a unit that changes nothing, or any.
-- Assumes nothing.
use Rattle.single.proofs.Adding.{marked_plain, marked_any}
use Rattle.single.proofs.marked.Goals as goal

pub returns-then-mark-x : goal.returns-then-mark-x
returns-then-mark-x c = marked_plain _ _ c.if-mark-x.true

pub returns : goal.returns
returns c = marked_any _ _ c.agrees.ensures c.mark_of.ensures
