-- `selected` meets its contract: the chip select and no other pin.
-- Assumes nothing.
use Rattle.shown.proofs.selected.Goals as goal

pub returns : goal.returns
returns c = rw (c.own.ensures, c.select_of.ensures)
