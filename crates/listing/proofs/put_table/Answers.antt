-- `put_table` meets its contract: the fields, one behind another.
-- Assumes nothing.
use native.Mathlib.Omega.{arith}
use Rattle.spelling.proofs.Putting.{then}
use Rattle.listing.specs.Lines.{table_line}
use Rattle.listing.proofs.put_table.Goals as goal

pub returns : goal.returns
unfolding table_line
returns c = (
  then
      c.put-a.ensures
      (then
      c.put_number-b.ensures.0
      (then (rw c.from.ensures at c.put_number-c.ensures.0) c.put_after_type.ensures.0)),
  omega (arith, c.put-a.ensures.ends, c.put_number-b.ensures.1, c.put_number-c.ensures.1, c.put_after_type.ensures.1),
)
