-- `way_of` meets its contract: the constant is the list of the definition.
-- Assumes nothing.
use mathlib.Core.Path.{refl}
use Rattle.comparing.specs.Rows.{ways}
use Rattle.comparing.proofs.Naming.{way_here}
use Rattle.comparing.proofs.rows.way_of.Goals as goal

pub returns : goal.returns
unfolding ways
returns c = rw (way_here _ _ c.requires refl _) refl
