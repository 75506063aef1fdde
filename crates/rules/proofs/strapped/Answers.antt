-- The test is the rule's, by what `allowed_or_unused` ensures of each pin.
-- Assumes nothing.
use Rattle.rules.proofs.strapped.Goals as goal

pub returns : goal.returns
returns c =
    rw (
      c.allowed_or_unused.ensures,
      c.allowed_or_unused-2.ensures,
      c.allowed_or_unused-3.ensures,
    )
