-- `clear` meets its contract: computed.
-- Assumes nothing.
use mathlib.Core.Path.{refl}
use Rattle.sheets.specs.Lines.{read}
use Rattle.sheets.proofs.clear.Goals as goal

pub returns : goal.returns
unfolding read
returns c = refl
