-- The tests are those of its rules.
-- Assumes nothing.
use mathlib.Core.Path.{refl}
use Rattle.format.specs.Records.{led}
use Rattle.rules.proofs.led_breaks.Goals as goal

pub returns : goal.returns
returns c =
    c.own_breaks.ensures _ (led _) refl
    (rw (c.coloured-3.ensures, c.coloured-2.ensures, c.coloured.ensures) refl)
    refl
    (rw (
      c.allowed_or_unused-3.ensures,
      c.allowed_or_unused-2.ensures,
      c.allowed_or_unused.ensures,
    ) refl)
