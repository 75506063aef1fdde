-- `text` meets its contract: at each turn the line of one pin.
-- Assumes nothing.
use Rattle.pinlines.proofs.Lining.{Lining}
use Rattle.pinlines.proofs.text.Given as goal

abbrev pub invariant-loop-i : goal.invariant-loop-i
invariant-loop-i l = Lining l.chip l.sheet l.initial.out l.i l.end l.out
