-- `pairs_part` meets its contract by the law of the cut where it ends.
-- Assumes nothing.
use mathlib.Core.Path.{refl}
use Rattle.judging.proofs.Ended.{pairs_ended}
use Rattle.judging.proofs.pairs_part.Goals as goal

pub returns : goal.returns
returns c = pairs_ended _ _ _ c.requires.1 refl refl
