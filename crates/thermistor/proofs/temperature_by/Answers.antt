-- `temperature_by` meets its contract: a count over 1023, or what the number means.
-- Assumes nothing.
use Rattle.converting.specs.Conversions.Temperature.{past}
use Rattle.converting.proofs.Meant.{meant_meets}
use Rattle.thermistor.proofs.temperature_by.Goals as goal

pub returns-then-count-gt1023 : goal.returns-then-count-gt1023
returns-then-count-gt1023 c = past c.if-count-gt1023.true

pub returns : goal.returns
returns c = meant_meets _ _ _ c.meaning.ensures c.coded_by.ensures
