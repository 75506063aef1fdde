-- `lead` meets its contract: the description was whole, or is now.
-- Assumes nothing.
use native.Mathlib.Omega.{arith}
use mathlib.Core.Path.{refl}
use Rattle.receiving.proofs.Growing.{lead_now}
use Rattle.receiving.proofs.lead.Goals as goal

pub returns : goal.returns
returns c =
    lead_now _ _ _ _ _ c.if-count-ge16.false (omega arith) refl c.keep_each.ensures
