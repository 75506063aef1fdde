-- `lacks_one` meets its contract: below `i` the flags were searched.
-- Assumes nothing.
use mathlib.Core.Path.{◌≡◌}
use Rattle.flags.specs.Marks.{lacks_to}
use Rattle.flags.proofs.lacks_one.Given as goal

abbrev pub invariant-loop-i : goal.invariant-loop-i
invariant-loop-i l = l.bad ≡ lacks_to l.i l.used l.seen
