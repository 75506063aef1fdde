-- `esa_sheet_text` meets its contract: the chip is the one in the number.
-- Assumes nothing.
use Rattle.esa.proofs.esa_sheet_text.Goals as goal

pub returns : goal.returns
returns c = rw (← c.chip_of.ensures) c.text.ensures
