-- The tests are those of its rules.
-- Assumes nothing.
use mathlib.Core.Path.{refl}
use Rattle.format.specs.Records.{voltage}
use Rattle.rules.proofs.voltage_breaks.Goals as goal

pub returns : goal.returns
returns c = c.own_breaks.ensures _ (voltage _) refl refl refl c.allowed.ensures
