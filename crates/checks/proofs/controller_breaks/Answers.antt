-- `controller_breaks` meets its contract: fixed fields and part are judged apart, and joined.
-- Assumes nothing.
use Rattle.checks.proofs.Parting.{speeds}
use Rattle.checks.proofs.controller_breaks.Goals as goal

pub returns : goal.returns
returns c = speeds _ _ _ _ c.device_breaks.ensures c.speed_blocks.ensures
