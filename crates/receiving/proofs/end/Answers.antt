-- `end` meets its contract: 20 after the end, and before it the verdict.
-- Assumes nothing.
use Rattle.receiving.proofs.Calls.{end_late, end_now}
use Rattle.receiving.proofs.end.Goals as goal

pub returns-then-n-ne0 : goal.returns-then-n-ne0
returns-then-n-ne0 c = rw c.number.ensures (end_late _ _ _ _ _ c.if-n-ne0.true)

pub returns : goal.returns
returns c = end_now _ _ _ _ _ _ _ c.if-n-ne0.false c.verdict-answer.ensures c.bounded.ensures
