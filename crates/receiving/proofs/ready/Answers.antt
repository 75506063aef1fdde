-- `ready` meets its contract: the pass opens, or is where it was.
-- Assumes nothing.
use native.Mathlib.Omega.{arith}
use Rattle.receiving.proofs.ready.Goals as goal

pub returns-then-count-lt16 : goal.returns-then-count-lt16
returns-then-count-lt16 c = let h = c.if-count-lt16.true in record { early = λ _. c.«open».ensures; late = λ n. absurd (omega (arith, h, n)) }

pub returns : goal.returns
returns c = let h = c.if-count-lt16.false in record { early = λ n. absurd (omega (arith, h, n)); late = λ _. c.way_of.ensures }
