-- `end` meets its contract: no place is too large.
-- Assumes nothing.
use Rattle.ending.specs.Stopped.{ended}
use Rattle.reports.proofs.end.Goals as goal

pub packed-requires : goal.packed-requires
packed-requires c = c.end.ensures.low

pub returns : goal.returns
returns c = record { answer = ended c.end.result; ends = c.end.ensures; number = c.packed.ensures }
