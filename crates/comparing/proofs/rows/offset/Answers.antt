-- `offset` meets its contract: the constant is the list of the definition.
-- Assumes nothing.
use native.Mathlib.Omega.{arith}
use mathlib.Core.Path.{refl}
use Rattle.comparing.specs.Rows.{offsets}
use Rattle.comparing.proofs.Naming.{offset_here}
use Rattle.comparing.proofs.rows.offset.Goals as goal

pub returns : goal.returns
unfolding offsets
returns c = (rw (offset_here _ _ c.requires refl _) at c.from.ensures, (omega arith))
