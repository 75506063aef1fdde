-- `note_first` meets its contract: the line, or none.
-- Assumes nothing.
use Rattle.salvaging.proofs.Deciding.{first_noted}
use Rattle.salvaging.proofs.note_first.Goals as goal

pub returns-then-cleared : goal.returns-then-cleared
returns-then-cleared c = rw c.if-cleared.true (first_noted _ _ c.requires)
