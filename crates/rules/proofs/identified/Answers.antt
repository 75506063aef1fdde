-- A number between 1 and 3 is one of the list.
-- Assumes nothing.
use mathlib.Core.Path.{refl, sym}
use Rattle.rules.proofs.Runs.{within}
use Rattle.rules.proofs.identified.Goals as goal

pub returns : goal.returns
returns c = sym (within c.args.chip 1 2 3 refl)
