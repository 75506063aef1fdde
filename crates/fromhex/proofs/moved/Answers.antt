-- `moved` meets its contract: refused, no room, or put.
-- Assumes nothing.
use Rattle.hextext.specs.Moved.{no_room, refused}
use Rattle.hextext.proofs.Moving.{put_done}
use Rattle.format.proofs.Refusals.{handed}
use Rattle.fromhex.proofs.moved.Goals as goal

pub returns-in_err-check : goal.returns-in_err-check
returns-in_err-check c = rw (handed _ _ c.from_residual.ensures.1) (refused c.in_err-check.ensures)

pub returns-then-out-table : goal.returns-then-out-table
returns-then-out-table c =
    rw c.at.ensures (no_room c.in_ok-check.ensures c.if-out-table.true)

pub returns : goal.returns
returns c =
    put_done _ c.in_ok-check.ensures c.if-out-table.false c.put.ensures
