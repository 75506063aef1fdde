-- `fields::lamp` meets its contract: the code's `i + 1` is the definition's `suc i`.
-- Assumes nothing.
use native.Mathlib.Numerals.{add-one}
use Rattle.fields.proofs.lamp.Goals as goal

pub returns : goal.returns
returns c = rw (add-one, c.optional.ensures)
