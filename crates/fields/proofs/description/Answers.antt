-- `fields::description` meets its contract: each wider byte is the byte, and each place is unused or a pin.
-- Assumes nothing.
use Rattle.fields.proofs.description.Goals as goal

pub returns : goal.returns
returns c =
    rw (
      c.from.ensures,
      c.from-2.ensures,
      c.from-3.ensures,
      c.optional.ensures,
      c.optional-2.ensures,
      c.optional-3.ensures,
    )
