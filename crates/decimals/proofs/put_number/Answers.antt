-- `put_number` meets its contract: eight digits by their powers of ten, more as the last bytes.
-- Assumes nothing.
use Rattle.decimals.proofs.Spelling.{put_last}
use Rattle.decimals.proofs.Eight.{put_eight}
use Rattle.decimals.proofs.put_number.Goals as goal

pub returns-then-n-lt100000000 : goal.returns-then-n-lt100000000
returns-then-n-lt100000000 c =
    put_eight c.if-n-lt100000000.true c.put_decimal.ensures

pub returns : goal.returns
returns c =
    put_last c.spell-d.ensures c.put.ensures
