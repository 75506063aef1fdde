-- `unmarked` meets its contract: what is left to search ends where the whole ends.
-- Assumes nothing.
use mathlib.Core.Path.{◌≡◌}
use Rattle.format.specs.declared.settings.Settings.{Settings}
use Rattle.flags.specs.Marks.{Marks}
use Rattle.places.specs.Walks.{Walkable, names_of, nameable}
use Rattle.places.proofs.Search.{Search}
use Rattle.places.proofs.unmarked.Given as goal

abbrev pub invariant-loop-at : goal.invariant-loop-at
invariant-loop-at l =
    (goal.iterator-loop-at).can_next l.at-iterator
    × (goal.iterator-loop-at).is_finite l.at-iterator
    × (l.at-iterator.table.now ≡ l.t)
    × ((σ : Settings) (w : Walkable σ l.t) → Marks l.marks (nameable l.zone w.rs)
    → Search σ (names_of l.zone) (nameable l.zone) l.marks l.t l.at-iterator.at)
