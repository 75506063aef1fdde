-- `laying::put_description` meets its contract: what is copied is what `description_bytes` gives.
-- Assumes nothing.
use Rattle.laying.proofs.put_description.Goals as goal

pub returns : goal.returns
returns c = rw (c.copy_into.ensures, c.description_bytes.ensures)
