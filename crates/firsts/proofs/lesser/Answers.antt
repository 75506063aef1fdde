-- `lesser` meets its contract, test by test.
-- Assumes nothing.
use Rattle.firsts.proofs.Searching.{lesser_0, lesser_1, lesser_2, lesser_3}
use Rattle.firsts.proofs.lesser.Goals as goal

pub returns-then-b-eq0 : goal.returns-then-b-eq0
returns-then-b-eq0 c = lesser_0 _ _ c.if-b-eq0.true

pub returns-then-a-eq0 : goal.returns-then-a-eq0
returns-then-a-eq0 c = lesser_1 _ _ c.if-b-eq0.false c.if-a-eq0.true

pub returns-then-b-a : goal.returns-then-b-a
returns-then-b-a c = lesser_2 _ _ c.if-b-eq0.false c.if-a-eq0.false c.if-b-a.true

pub returns-else-b-a : goal.returns-else-b-a
returns-else-b-a c = lesser_3 _ _ c.if-b-eq0.false c.if-a-eq0.false c.if-b-a.false
