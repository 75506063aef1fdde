-- `advance` meets its contract, by whether there are bytes, the pass is stopped, and they are the first.
-- Assumes nothing.
use Rattle.advancing.proofs.Starting.{advance_none, advance_stopped, advance_after}
use Rattle.advancing.proofs.advance.Goals as goal

pub returns-then-q-eq0-clause-advances : goal.returns-then-q-eq0-clause-advances
returns-then-q-eq0-clause-advances c = advance_none _ _ _ _ _ _ _ _ _ c.if-q-eq0.true

pub returns-then-w-ne0-clause-advances : goal.returns-then-w-ne0-clause-advances
returns-then-w-ne0-clause-advances c = advance_stopped _ _ _ _ _ _ _ _ _ c.if-q-eq0.false c.if-w-ne0.true

pub returns-clause-advances : goal.returns-clause-advances
returns-clause-advances c =
    advance_after _ _ _ _ _ _ _ _ _ _ _ _ _ _ _ _ _ c.if-q-eq0.false c.if-w-ne0.false c.clear.ensures.clears c.go_on.ensures.goes
