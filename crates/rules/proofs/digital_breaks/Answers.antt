-- The tests are those of its rules.
-- Assumes nothing.
use mathlib.Core.Path.{refl}
use Rattle.format.specs.Records.{digital}
use Rattle.rules.proofs.digital_breaks.Goals as goal

pub returns : goal.returns
returns c =
    c.own_breaks.ensures _ (digital _) refl c.addressed.ensures c.in_use.ensures
    c.selected.ensures
