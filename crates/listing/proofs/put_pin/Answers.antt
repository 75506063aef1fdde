-- `put_pin` meets its contract: the pin, and what ends the field behind it.
-- Assumes nothing.
use native.Mathlib.Omega.{arith}
use Rattle.spelling.proofs.Putting.{then}
use Rattle.listing.proofs.put_pin.Goals as goal

pub returns : goal.returns
returns c =
    (then c.put_pin_or_dash-a.ensures.0 c.put.ensures, omega (arith, c.put_pin_or_dash-a.ensures.1, c.put.ensures.ends))
