-- `seek` meets its contract: what is left to seek ends where the whole ends.
-- Assumes nothing.
use mathlib.Core.Path.{◌≡◌}
use Rattle.fans.proofs.Seeking.{Seeking}
use Rattle.fans.proofs.seek.Given as goal

abbrev pub invariant-loop-at : goal.invariant-loop-at
invariant-loop-at l =
    (goal.iterator-loop-at).can_next l.at-iterator
    × (goal.iterator-loop-at).is_finite l.at-iterator
    × (l.at-iterator.table.now ≡ l.t)
    × Seeking l.t l.zone l.at-iterator.at l.count
