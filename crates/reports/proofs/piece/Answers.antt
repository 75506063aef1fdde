-- `piece` meets its contract: the number, wider.
-- Assumes nothing.
use Rattle.reports.proofs.piece.Goals as goal

pub returns : goal.returns
returns c = rw c.after_piece.ensures c.piece.ensures
