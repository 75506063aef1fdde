-- `put` meets its contract: the bytes are copied, and the place after them is answered.
-- Assumes nothing.
use Rattle.spelling.proofs.Putting.{put_one}
use Rattle.spelling.proofs.put.Goals as goal

pub returns : goal.returns
returns c =
    rw c.copy_into.ensures (put_one _ _ _ c.requires)
