-- The tests are the rule's, by what `scaled` ensures of each count.
-- Assumes nothing.
use mathlib.Core.Bool.{or-false}
use Rattle.rules.proofs.calibrated.Goals as goal

pub returns : goal.returns
returns c =
    rw (
      c.scaled.ensures,
      c.scaled-2.ensures,
      c.scaled-3.ensures,
      c.scaled-4.ensures,
      c.scaled-5.ensures,
      or-false,
    )
