-- `ours` meets its contract: what the entry means is the formula's.
-- Assumes nothing.
use Rattle.converting.specs.Conversions.Temperature.{past}
use Rattle.converting.proofs.Meant.{meant_meets}
use Rattle.thermistor.specs.Ready.{ours}
use Rattle.thermistor.proofs.ours.Goals as goal

pub returns-then-count-gt1023 : goal.returns-then-count-gt1023
returns-then-count-gt1023 c = past c.if-count-gt1023.true

pub returns : goal.returns
returns c = meant_meets ours _ _ c.meaning.ensures c.entry.ensures
