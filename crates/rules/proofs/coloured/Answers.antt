-- A colour between 1 and 5 and a purpose up to 4 are those of the lists.
-- Assumes nothing.
use mathlib.Core.Path.{refl}
use Rattle.rules.proofs.Runs.{within, up_to}
use Rattle.rules.proofs.coloured.Goals as goal

pub returns : goal.returns
returns c =
    rw (c.unused.ensures, within _ 1 4 5 refl, up_to _ 4)
