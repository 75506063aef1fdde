-- `put_line` meets its contract: its parts, one behind another.
-- Assumes nothing.
use native.Mathlib.Omega.{arith}
use Rattle.spelling.proofs.Putting.{then}
use Rattle.pinlines.proofs.put_line.Goals as goal

pub returns : goal.returns
returns c = (
  then (then (then c.put_pin_or_dash-a.ensures.0 c.put-b.ensures) c.put_entry-c.ensures.0) c.put.ensures,
  omega (arith, c.put_pin_or_dash-a.ensures.1, c.put-b.ensures.ends, c.put_entry-c.ensures.1, c.put.ensures.ends),
)
