-- `put_after_type` meets its contract: four fields and what follows, one behind another.
-- Assumes nothing.
use native.Mathlib.Omega.{arith}
use Rattle.spelling.proofs.Putting.{then}
use Rattle.listing.proofs.put_after_type.Goals as goal

pub returns : goal.returns
returns c = (
  then
      (rw c.from.ensures at c.put_number-a.ensures.0)
      (then
      c.put_number-b.ensures.0
      (then c.put_supply-c.ensures.0 c.put_hardware.ensures.0)),
  omega (arith, c.put_number-a.ensures.1, c.put_number-b.ensures.1, c.put_supply-c.ensures.1, c.put_hardware.ensures.1),
)
