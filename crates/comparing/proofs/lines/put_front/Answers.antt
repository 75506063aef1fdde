-- `put_front` meets its contract: both offsets, one behind another.
-- Assumes nothing.
use native.Mathlib.Omega.{arith}
use Rattle.spelling.proofs.Putting.{then}
use Rattle.comparing.proofs.lines.put_front.Goals as goal

pub returns : goal.returns
returns c = (
  then c.put-e.ensures (then c.put_place-f.ensures.0 c.put_place.ensures.0),
  omega (arith, c.put-e.ensures.ends, c.put_place-f.ensures.1, c.put_place.ensures.1),
)
