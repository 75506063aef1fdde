-- No claims are no sets.
-- Assumes nothing.
use mathlib.Core.Path.{refl}
use Rattle.claims.proofs.Sets.{empty}
use Rattle.claims.proofs.no_claims.Goals as goal

pub returns : goal.returns
returns c = record { alone_set = empty; joint_set = empty; among_themselves = refl; are_proper = refl }
