-- `put_id` meets its contract: the two digits, and the tab behind them.
-- Assumes nothing.
use native.Mathlib.Omega.{arith}
use Rattle.spelling.proofs.Putting.{then}
use Rattle.listing.proofs.put_id.Goals as goal

pub returns : goal.returns
returns c =
    (then c.put_hex-a.ensures.0 c.put.ensures, omega (arith, c.put_hex-a.ensures.1, c.put.ensures.ends))
