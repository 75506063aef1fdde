-- `keep_each` meets its contract: as many bytes as there is room for.
-- Assumes nothing.
use Rattle.underway.proofs.Eights.{copied_all}
use Rattle.underway.proofs.keep_each.Goals as goal

pub returns : goal.returns
returns c = copied_all _ _ _ _ _ c.room-end.ensures c.each.ensures
