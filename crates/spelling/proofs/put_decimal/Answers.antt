-- `put_decimal` meets its contract: the digits, one behind another.
-- Assumes nothing.
use native.Mathlib.Omega.{arith}
use Rattle.spelling.specs.Spelling.{decimal}
use Rattle.spelling.proofs.Putting.{then}
use Rattle.spelling.proofs.put_decimal.Goals as goal

pub returns : goal.returns
unfolding decimal
returns c = (
  then
      (then
      (then
      (then c.put_upper-a.ensures.0 c.put_digit-b.ensures.0)
      c.put_digit-c.ensures.0)
      c.put_digit-d.ensures.0)
      (rw c.digit.ensures at c.put.ensures),
  omega (
    arith,
    c.put_upper-a.ensures.1,
    c.put_digit-b.ensures.1,
    c.put_digit-c.ensures.1,
    c.put_digit-d.ensures.1,
    c.put.ensures.ends,
  ),
)
