-- `lacking` meets its contract: the least place, or none lacks.
-- Assumes nothing.
use Rattle.ending.proofs.Over.{lacking_none}
use Rattle.ending.proofs.lacking.Goals as goal

pub returns : goal.returns
returns c = lacking_none _ _ _ _ c.lacks.ensures c.if-lacks.false

pub returns-then-lacks : goal.returns-then-lacks
returns-then-lacks c = record { least = λ _. c.least.ensures }
