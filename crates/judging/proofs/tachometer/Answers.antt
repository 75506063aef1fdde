-- `tachometer` meets its contract: fixed bytes and part are judged apart, and joined.
-- Assumes nothing.
use Rattle.judging.proofs.Fixed.{tachometer_is}
use Rattle.judging.proofs.tachometer.Goals as goal

pub returns : goal.returns
returns c = tachometer_is _ _ _ _ _ c.device_found.ensures c.pairs_part.ensures
