-- `put_lines` meets its contract: at each turn the line of one change.
-- Assumes nothing.
use mathlib.Core.List.{List}
use Rattle.saving.specs.Saving.{Line}
use Rattle.fates.specs.Noted.{Each, Codes}
use Rattle.changes.proofs.Lining.{Lining}
use Rattle.changes.proofs.put_lines.Given as goal

abbrev pub invariant-loop-change : goal.invariant-loop-change
invariant-loop-change l = (ls : List Line) → Each Codes l.log ls → Lining ls l.initial.out l.change-index l.end l.out
