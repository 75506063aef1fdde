-- `lamp_roomy` meets its contract: its pin, and its codes.
-- Assumes nothing.
use mathlib.Core.Path.{refl}
use Rattle.widths.proofs.lamp_roomy.Goals as goal

pub returns : goal.returns
returns c = rw c.pin_roomy.ensures refl
