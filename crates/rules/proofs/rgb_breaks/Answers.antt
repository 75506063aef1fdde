-- The tests are those of its rules.
-- Assumes nothing.
use mathlib.Core.Path.{refl}
use Rattle.format.specs.Records.{rgb}
use Rattle.rules.proofs.rgb_breaks.Goals as goal

pub returns : goal.returns
returns c =
    c.own_breaks.ensures _ (rgb _) refl refl refl
    (rw (c.allowed-3.ensures, c.allowed-2.ensures, c.allowed.ensures) refl)
