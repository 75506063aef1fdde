-- `enter` meets its contract: each turn enters one number.
-- Assumes nothing.
use Rattle.sheets.proofs.Entering.{Entering}
use Rattle.sheets.proofs.enter.Given as goal

abbrev pub invariant-loop-i : goal.invariant-loop-i
invariant-loop-i l = Entering l.s l.pins l.at l.i l.new
