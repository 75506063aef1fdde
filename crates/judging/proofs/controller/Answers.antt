-- `controller` meets its contract: fixed bytes and part are judged apart, and joined.
-- Assumes nothing.
use Rattle.judging.proofs.Fixed.{controller_is}
use Rattle.judging.proofs.controller.Goals as goal

pub returns : goal.returns
returns c = controller_is _ _ _ _ _ c.device_found.ensures c.speed_part.ensures
