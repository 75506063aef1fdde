-- The bit that `bit_of` answers is the shift by the pin's place.
-- Assumes nothing.
use mathlib.Core.Path.{refl}
use Rattle.pinsets.specs.Sets.{pin_bit}
use Rattle.pinsets.proofs.Rows.{shifted}
use Rattle.pinsets.proofs.bit_of.Goals as goal

pub returns : goal.returns
unfolding pin_bit
returns c = rw (shifted c.index_of.result c.index_of.ensures.1, c.index_of.ensures.0) refl
