-- `temperature` meets its contract: the table where the calibration is our own, the formula where it is not.
-- Assumes nothing.
use mathlib.Core.Path.{sym, ◌∙◌}
use Rattle.thermistor.proofs.Owned.{by_table}
use Rattle.thermistor.proofs.temperature.Goals as goal

pub returns-then-own : goal.returns-then-own
returns-then-own c = by_table _ (sym c.own.ensures ∙ c.if-own.true) c.ours.ensures

pub returns : goal.returns
returns c = c.temperature.ensures
