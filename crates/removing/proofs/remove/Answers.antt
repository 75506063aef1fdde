-- `remove` meets its contract: what was decided, done.
-- Assumes nothing.
use Rattle.format.proofs.Refusals.{handed}
use Rattle.removing.proofs.remove.Goals as goal

pub returns-in_err-out : goal.returns-in_err-out
returns-in_err-out c = rw (handed _ _ c.from_residual.ensures.1) c.in_err-out.ensures

pub close_up-requires : goal.close_up-requires
close_up-requires c = c.in_ok-out.ensures.0

pub returns : goal.returns
returns c = rw (c.close_up.ensures.0, c.close_up.ensures.1) c.in_ok-out.ensures.1
