-- `fill` meets its contract: at each place the numbers are the sheet of the elements behind it.
-- Assumes nothing.
use mathlib.Core.Path.{◌≡◌}
use Rattle.sheets.proofs.Filling.{Filling}
use Rattle.sheets.proofs.fill.Given as goal

abbrev pub invariant-loop-at : goal.invariant-loop-at
invariant-loop-at l =
    (goal.iterator-loop-at).can_next l.at-iterator
    × (goal.iterator-loop-at).is_finite l.at-iterator
    × (l.at-iterator.table.now ≡ l.t)
    × Filling l.fn.settings l.t l.at-iterator.at l.s
