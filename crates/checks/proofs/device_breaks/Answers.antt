-- `device_breaks` meets its contract, by whether the part is whole.
-- Assumes nothing.
use mathlib.Core.Path.{refl, sym, ◌∙◌}
use mathlib.Core.Bool.{false≢true}
use borrow.Author.Tests.{not-true, not-false}
use Rattle.checks.proofs.device_breaks.Goals as goal

pub returns-then-not-part : goal.returns-then-not-part
returns-then-not-part c = (λ _. refl, λ w. absurd (false≢true (sym (not-true _ c.if-not-part.true) ∙ w)))

pub returns : goal.returns
returns c = (λ w. absurd (false≢true (sym w ∙ not-false _ c.if-not-part.false)), λ _. c.device_breaks.ensures)
