-- `ordinary` meets its contract: the chip that the number says.
-- Assumes nothing.
use Rattle.esa.proofs.ordinary.Goals as goal

pub returns : goal.returns
returns c = rw c.chip_of.ensures
