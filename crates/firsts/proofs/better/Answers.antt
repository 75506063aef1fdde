-- `better` meets its contract.
-- Assumes nothing.
use mathlib.Core.Path.{◌∙◌, refl, sym}
use Rattle.firsts.proofs.better.Goals as goal

pub returns-then-seen : goal.returns-then-seen
returns-then-seen c = sym (rw c.if-seen.true refl)

pub returns : goal.returns
returns c = c.lesser.ensures ∙ rw (c.if-seen.false, c.from.ensures) refl
