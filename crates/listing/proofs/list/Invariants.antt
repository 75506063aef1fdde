-- `list` meets its contract. The loop's invariant: the lines of the elements behind the place stand in the buffer.
-- Assumes nothing.
use mathlib.Core.Path.{◌≡◌}
use Rattle.walking.specs.Walk.{Walk}
use Rattle.listing.proofs.Turn.{Lined}
use Rattle.listing.proofs.list.Given as goal

abbrev pub invariant-loop-at : goal.invariant-loop-at
invariant-loop-at l =
    (goal.iterator-loop-at).can_next l.at-iterator
    × (goal.iterator-loop-at).is_finite l.at-iterator
    × (l.at-iterator.table.now ≡ l.table)
    × Walk l.fn.settings l.table l.at-iterator.at (Lined l.initial.out l.initial.end l.end l.out)
