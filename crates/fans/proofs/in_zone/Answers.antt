-- `in_zone` meets its contract: what `seek` gives of a table that the check accepted, or the table's refusal.
-- Assumes nothing.
use Rattle.fans.specs.InZone.{refused}
use Rattle.fans.proofs.Seeking.{shown, zoned}
use Rattle.fans.proofs.in_zone.Goals as goal

pub returns-in_default : goal.returns-in_default
returns-in_default c = refused (rw c.unwrap_err.ensures at c.check-answer.ensures)

pub seek-requires : goal.seek-requires
seek-requires c = shown _ _ (rw c.in-Ok.is at c.check-answer.ensures)

pub returns : goal.returns
returns c = zoned _ _ _ _ (rw c.in-Ok.is at c.check-answer.ensures) c.seek.ensures
