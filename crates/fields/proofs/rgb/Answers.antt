-- `fields::rgb` meets its contract, by what each call ensures of its result.
-- Assumes nothing.
use Rattle.fields.proofs.rgb.Goals as goal

pub returns : goal.returns
returns c = rw c.placement.ensures
