-- `settings_of` meets its contract: the chip and the rules that the number says.
-- Assumes nothing.
use Rattle.esa.proofs.settings_of.Goals as goal

pub returns : goal.returns
returns c = rw (c.chip_of.ensures, c.rules_of.ensures)
