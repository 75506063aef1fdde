-- An unused place is allowed, and a pin where the pin is.
-- Assumes nothing.
use Rattle.pinsets.proofs.allowed_or_unused.Goals as goal

pub returns-in-Some : goal.returns-in-Some
returns-in-Some c = rw c.in-Some.is c.allowed.ensures
