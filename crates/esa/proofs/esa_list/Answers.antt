-- `esa_list` meets its contract: the settings are those in the number.
-- Assumes nothing.
use Rattle.esa.proofs.esa_list.Goals as goal

pub returns : goal.returns
returns c = rw (← c.settings_of.ensures) c.list.ensures
