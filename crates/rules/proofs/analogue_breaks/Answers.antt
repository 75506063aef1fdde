-- The tests are those of its rules.
-- Assumes nothing.
use mathlib.Core.Path.{refl}
use Rattle.format.specs.Records.{analogue}
use Rattle.rules.proofs.analogue_breaks.Goals as goal

pub returns : goal.returns
returns c = c.own_breaks.ensures _ (analogue _) refl c.calibrated.ensures refl c.allowed.ensures
