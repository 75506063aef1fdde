-- `put_hardware` meets its contract: three pins, one behind another.
-- Assumes nothing.
use native.Mathlib.Omega.{arith}
use Rattle.spelling.proofs.Putting.{then}
use Rattle.listing.proofs.put_hardware.Goals as goal

pub returns : goal.returns
returns c = (
  then
      (rw c.byte_of.ensures at c.put_pin-a.ensures.0)
      (then (rw c.byte_of-2.ensures at c.put_pin-b.ensures.0)
      (rw c.byte_of-3.ensures at c.put_pin.ensures.0)),
  omega (arith, c.put_pin-a.ensures.1, c.put_pin-b.ensures.1, c.put_pin.ensures.1),
)
