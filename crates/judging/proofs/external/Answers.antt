-- `external` meets its contract: fixed bytes, chip and part are judged apart, and joined.
-- Assumes nothing.
use mathlib.Core.Path.{refl}
use Rattle.judging.proofs.Fixed.{external_is}
use Rattle.judging.proofs.external.Goals as goal

pub returns : goal.returns
returns c = external_is _ _ _ _ _ c.device_found.ensures _ c.pairs_part-blocks.ensures refl
    c.identified.ensures
