-- `rewrite` meets its contract. The loop's invariant: the records behind the place are appended to what start left.
-- Assumes nothing.
use mathlib.Core.Path.{◌≡◌}
use lib.ListN.{length}
use Rattle.format.specs.Writing.{writing}
use Rattle.walking.specs.Walk.{Walk}
use Rattle.rewriting.proofs.Run.{Ran}
use Rattle.rewriting.proofs.rewrite.Given as goal

abbrev pub invariant-loop-at : goal.invariant-loop-at
invariant-loop-at l =
    (goal.iterator-loop-at).can_next l.at-iterator
    × (goal.iterator-loop-at).is_finite l.at-iterator
    × (l.at-iterator.table.now ≡ l.table)
    × (length l.out ≡ length l.initial.out)
    × Walk (writing l.chip) l.table l.at-iterator.at (Ran l.chip l.initial.out l.out)
