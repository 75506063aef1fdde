-- `current` meets its contract: by its two cases.
-- Assumes nothing.
use Rattle.converting.specs.Conversions.Linear.{past, read}
use Rattle.converting.proofs.current.Goals as goal

pub returns-then-count-gt1023 : goal.returns-then-count-gt1023
returns-then-count-gt1023 c = past c.if-count-gt1023.true

pub returns : goal.returns
returns c = read c.if-count-gt1023.false c.between.ensures
