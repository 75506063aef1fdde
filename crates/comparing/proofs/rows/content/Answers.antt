-- `content` meets its contract: the three bytes at the row's offset, read in the row's way.
-- Assumes nothing.
use Rattle.comparing.proofs.rows.content.Goals as goal

pub returns : goal.returns
returns c =
    let k = c.offset.ensures.0 in (
      rw (← k, ← c.at_or_zero-x.ensures.0, ← c.at_or_zero-y.ensures.0, ← c.at_or_zero-z.ensures.0, ← c.way_of.ensures)
          c.read.ensures.0,
      c.read.ensures.1,
    )
