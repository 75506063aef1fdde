-- `put_digit` meets its contract: no digit where the power is not reached, else one.
-- Assumes nothing.
use native.Mathlib.Omega.{arith}
use borrow.Author.Tests.{lt-ltb, le-ltb}
use Rattle.spelling.proofs.Putting.{put_none}
use Rattle.spelling.proofs.put_digit.Goals as goal

pub returns-then-n-power : goal.returns-then-n-power
returns-then-n-power c = (rw (lt-ltb _ _ c.if-n-power.true) (put_none _ _), omega arith)

pub returns : goal.returns
returns c =
    (rw (le-ltb _ _ c.if-n-power.false, ← c.digit.ensures) c.put.ensures, omega (arith, c.put.ensures.ends))
