-- `start` meets its contract, by the settings that the number says.
-- Assumes nothing.
use mathlib.Core.Path.{refl}
use Rattle.reports.proofs.start.Goals as goal

pub returns : goal.returns
returns c = record { zero = refl; starts = rw c.settings_of.ensures at c.start.ensures }
