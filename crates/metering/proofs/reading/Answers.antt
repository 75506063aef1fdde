-- `reading` meets its contract: the element's answer, or what asking for the element refuses with.
-- Assumes nothing.
use Rattle.format.proofs.Refusals.{handed}
use Rattle.metering.specs.Meters.{given, ungiven}
use Rattle.metering.proofs.Shortening.{unshortened}
use Rattle.metering.proofs.reading.Goals as goal

pub returns-in_err-e : goal.returns-in_err-e
returns-in_err-e c = rw (handed _ _ c.from_residual.ensures.1) (ungiven c.in_err-e.ensures)

pub returns : goal.returns
returns c =
    rw (c.at_zero.ensures, c.told.ensures)
    (given c.answer-answer.result c.in_ok-e.ensures
    (rw c.sensor_of.ensures at (unshortened c.sensor_of.result c.answer-answer.result c.shortened.ensures c.answer-answer.ensures)))
