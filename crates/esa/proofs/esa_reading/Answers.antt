-- `esa_reading` meets its contract: that of `packed_reading`, under the settings in the number.
-- Assumes nothing.
use Rattle.esa.proofs.esa_reading.Goals as goal

pub returns : goal.returns
returns c = rw (← c.settings_of.ensures) c.packed_reading.ensures
