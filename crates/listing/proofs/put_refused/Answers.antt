-- `put_refused` meets its contract: the fields, one behind another.
-- Assumes nothing.
use Rattle.spelling.proofs.Putting.{then}
use Rattle.listing.specs.Lines.{refused_line}
use Rattle.listing.proofs.put_refused.Goals as goal

pub returns : goal.returns
unfolding refused_line
returns c =
    then
    c.put-a.ensures
    (then
    (rw c.from.ensures at c.put_number-b.ensures.0)
    (then c.put_decimal-c.ensures.0 c.put.ensures))
