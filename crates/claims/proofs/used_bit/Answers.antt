-- An unused place has no pin, and a pin its bit.
-- Assumes nothing.
use Rattle.claims.proofs.Sets.{empty, one_pin}
use Rattle.claims.proofs.used_bit.Goals as goal

pub returns-in-None : goal.returns-in-None
returns-in-None c = λ h. rw c.in-None.is empty

pub returns-in-Some : goal.returns-in-Some
returns-in-Some c =
    λ h.
    let e = c.in-Some.is in
    rw (c.bit_of.ensures, e) (one_pin _ (rw e at h))
