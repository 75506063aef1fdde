-- `fields::external` meets its contract, by what each call ensures of its result.
-- Assumes nothing.
use Rattle.fields.proofs.external.Goals as goal

pub returns : goal.returns
returns c = rw c.device.ensures
