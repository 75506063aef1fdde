-- `by_number` meets its contract: what is left to search ends where the whole ends.
-- Assumes nothing.
use mathlib.Core.Path.{◌≡◌}
use mathlib.Core.List.{List}
use Rattle.format.specs.Records.{Record}
use Rattle.format.specs.Verdict.{Accepts}
use Rattle.format.specs.declared.settings.Settings.{Settings}
use Rattle.format.specs.declared.records.Description.{Description}
use Rattle.walking.specs.Walk.{Walk}
use Rattle.labels.proofs.Seeking.{Sought}
use Rattle.labels.proofs.by_number.Given as goal

abbrev pub invariant-loop-at : goal.invariant-loop-at
invariant-loop-at l =
    (goal.iterator-loop-at).can_next l.at-iterator
    × (goal.iterator-loop-at).is_finite l.at-iterator
    × (l.at-iterator.table.now ≡ l.t)
    × ((σ : Settings) (d : Description) (rs : List Record) → Accepts σ l.t d rs → Walk σ l.t l.at-iterator.at (Sought l.number rs))
