-- `least` meets its contract: below `i` the least place was found.
-- Assumes nothing.
use Rattle.firsts.specs.Firsts.{LeastTo}
use Rattle.firsts.proofs.least.Given as goal

abbrev pub invariant-loop-i : goal.invariant-loop-i
invariant-loop-i l = LeastTo l.i l.l l.seen l.best
