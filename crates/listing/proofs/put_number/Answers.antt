-- `put_number` meets its contract: the number, and the tab behind it.
-- Assumes nothing.
use native.Mathlib.Omega.{arith}
use Rattle.spelling.proofs.Putting.{then}
use Rattle.listing.proofs.put_number.Goals as goal

pub returns : goal.returns
returns c =
    (then c.put_decimal-a.ensures.0 c.put.ensures, omega (arith, c.put_decimal-a.ensures.1, c.put.ensures.ends))
