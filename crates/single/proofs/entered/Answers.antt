-- `entered` meets its contract: the mark is 0 where each block has a pair.
-- Assumes nothing.
use mathlib.Core.Path.{refl}
use Rattle.underway.proofs.Block.{full_mark}
use Rattle.single.proofs.entered.Goals as goal

pub returns : goal.returns
returns c = (refl, refl, refl, rw c.mark_of.ensures (full_mark _))
