-- `way_of` meets its contract: a number a field.
-- Assumes nothing.
use mathlib.Core.Path.{refl}
use Rattle.states.proofs.way_of.Goals as goal

pub returns : goal.returns
returns c = rw (c.word-2.ensures, c.word.ensures) refl
