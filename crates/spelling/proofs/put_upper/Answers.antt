-- `put_upper` meets its contract: nothing of a small number, else four digits, one behind another.
-- Assumes nothing.
use native.Mathlib.Omega.{arith}
use Rattle.spelling.proofs.Putting.{put_none, no_upper, then}
use Rattle.spelling.proofs.put_upper.Goals as goal

pub returns-then-n-lt10000 : goal.returns-then-n-lt10000
returns-then-n-lt10000 c = (rw (no_upper _ c.if-n-lt10000.true) (put_none _ _), omega arith)

pub returns : goal.returns
returns c = (
  then (then (then c.put_digit-a.ensures.0 c.put_digit-b.ensures.0) c.put_digit-c.ensures.0) c.put_digit.ensures.0,
  omega (arith, c.put_digit-a.ensures.1, c.put_digit-b.ensures.1, c.put_digit-c.ensures.1, c.put_digit.ensures.1),
)
