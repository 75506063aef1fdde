-- `pin_at` meets its contract: computed over the 25.
-- Assumes nothing.
use Rattle.sheets.proofs.Entering.{pin_there}
use Rattle.sheets.proofs.pin_at.Goals as goal

pub returns : goal.returns
returns c = pin_there _ c.requires
