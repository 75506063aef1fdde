-- One comparison for the list, by the rules that are told.
-- Assumes nothing.
use Rattle.rules.proofs.Use.{ordinary_use, archive_use}
use Rattle.rules.proofs.in_use.Goals as goal

pub returns-in-Ordinary : goal.returns-in-Ordinary
returns-in-Ordinary c = rw c.in-Ordinary.is (ordinary_use c.args.bus)

pub returns-in-Archive : goal.returns-in-Archive
returns-in-Archive c = rw c.in-Archive.is (archive_use c.args.bus)
