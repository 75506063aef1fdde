-- The test is the rule's: the match tells whether the place is unused.
-- Assumes nothing.
use mathlib.Core.Path.{refl}
use Rattle.rules.proofs.rises.Goals as goal

pub returns-in-Some : goal.returns-in-Some
returns-in-Some c = rw c.in-Some.is refl
