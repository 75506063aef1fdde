-- `shortened` meets its contract: by its two cases.
-- Assumes nothing.
use Rattle.metering.specs.Meters.{whole, cut}
use Rattle.metering.proofs.shortened.Goals as goal

pub returns-then-count-lt65536 : goal.returns-then-count-lt65536
returns-then-count-lt65536 c = whole c.if-count-lt65536.true

pub returns-else-count-lt65536 : goal.returns-else-count-lt65536
returns-else-count-lt65536 c = cut c.if-count-lt65536.false
