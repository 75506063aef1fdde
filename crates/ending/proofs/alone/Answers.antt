-- `alone` meets its contract: 14, 15 or no element.
-- Assumes nothing.
use Rattle.ending.proofs.Over.{alone_14, alone_15, alone_0}
use Rattle.ending.proofs.alone.Goals as goal

pub returns-then-string-ne0 : goal.returns-then-string-ne0
returns-then-string-ne0 c =
    rw c.by.ensures
    (alone_14 _ _ c.if-string-ne0.true)

pub returns-then-held-ne65536 : goal.returns-then-held-ne65536
returns-then-held-ne65536 c =
    rw c.by-then-held-ne65536.ensures
    (alone_15 _ _ c.if-string-ne0.false c.if-held-ne65536.true)

pub returns : goal.returns
returns c = alone_0 _ _ c.if-string-ne0.false c.if-held-ne65536.false
