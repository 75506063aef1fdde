-- `tachometer_breaks` meets its contract: fixed fields and part are judged apart, and joined.
-- Assumes nothing.
use Rattle.checks.proofs.Parting.{two_lists}
use Rattle.checks.proofs.tachometer_breaks.Goals as goal

pub returns : goal.returns
returns c = two_lists _ _ _ _ c.device_breaks.ensures c.pairs_blocks.ensures
