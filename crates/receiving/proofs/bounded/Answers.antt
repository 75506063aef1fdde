-- `bounded` meets its contract, by the case.
-- Assumes nothing.
use mathlib.Core.Path.{ap}
use Rattle.ending.specs.Stopped.{ended}
use Rattle.receiving.proofs.Calls.{bounded_0, bounded_k}
use Rattle.receiving.proofs.bounded.Goals as goal

pub returns-in-Ok : goal.returns-in-Ok
returns-in-Ok c = bounded_0 _ _ (ap ended c.in-Ok.is)

pub returns-in-Err : goal.returns-in-Err
returns-in-Err c = bounded_k _ _ _ (ap ended c.in-Err.is)
