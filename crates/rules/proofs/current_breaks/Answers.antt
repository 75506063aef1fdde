-- The tests are those of its rules.
-- Assumes nothing.
use mathlib.Core.Path.{refl}
use Rattle.format.specs.Records.{current}
use Rattle.rules.proofs.current_breaks.Goals as goal

pub returns : goal.returns
returns c = c.own_breaks.ensures _ (current _) refl refl refl c.allowed.ensures
