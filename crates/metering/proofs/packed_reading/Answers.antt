-- `packed_reading` meets its contract: no place is too large.
-- Assumes nothing.
use Rattle.metering.proofs.Placing.{placed}
use Rattle.metering.proofs.packed_reading.Goals as goal

pub packed-requires : goal.packed-requires
packed-requires c = placed _ _ _ _ _ c.reading.ensures
