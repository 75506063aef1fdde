-- `any_names` meets its contract: what is left to search ends where the whole ends.
-- Assumes nothing.
use mathlib.Core.Path.{◌≡◌}
use Rattle.removing.proofs.Seeking.{Seeking}
use Rattle.removing.proofs.any_names.Given as goal

abbrev pub invariant-loop-at : goal.invariant-loop-at
invariant-loop-at l =
    (goal.iterator-loop-at).can_next l.at-iterator
    × (goal.iterator-loop-at).is_finite l.at-iterator
    × (l.at-iterator.table.now ≡ l.t)
    × Seeking l.t l.zone l.number l.at-iterator.at
