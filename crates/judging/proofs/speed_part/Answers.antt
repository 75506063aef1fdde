-- `speed_part` meets its contract by the law of the cut where it ends.
-- Assumes nothing.
use mathlib.Core.Path.{refl}
use Rattle.judging.proofs.Ended.{speed_ended}
use Rattle.judging.proofs.speed_part.Goals as goal

pub returns : goal.returns
returns c = speed_ended _ _ refl refl
