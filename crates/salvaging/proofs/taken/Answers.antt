-- `taken` meets its contract.
-- Assumes nothing.
use Rattle.salvaging.proofs.Salvaging.{all_taken}
use Rattle.salvaging.proofs.taken.Goals as goal

pub returns-then-file-le4096 : goal.returns-then-file-le4096
returns-then-file-le4096 c = all_taken _ c.if-file-le4096.true
