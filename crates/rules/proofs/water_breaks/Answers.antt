-- The tests are those of its rules.
-- Assumes nothing.
use mathlib.Core.Path.{refl}
use Rattle.format.specs.Records.{water}
use Rattle.rules.proofs.water_breaks.Goals as goal

pub returns : goal.returns
returns c =
    c.own_breaks.ensures _ (water _) refl
    (rw (c.scaled-3.ensures, c.scaled-2.ensures, c.scaled.ensures) refl)
    refl
    c.allowed.ensures
