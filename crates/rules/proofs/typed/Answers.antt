-- The three tests are those of the list.
-- Assumes nothing.
use mathlib.Core.Bool.{or_assoc, or-false}
use Rattle.rules.proofs.typed.Goals as goal

pub returns : goal.returns
returns c = simp (or_assoc, or-false)
