-- `settle` meets its contract: by the fate.
-- Assumes nothing.
use native.Mathlib.Omega.{arith}
use Rattle.fates.proofs.Noting.{stays_settles, leaves_settles, mends_settles}
use Rattle.fates.proofs.settle.Goals as goal

pub returns-in-Stays : goal.returns-in-Stays
returns-in-Stays c =
    stays_settles _ _ _ _ _ c.requires.0 c.requires.1 c.requires.2 _ c.in-Stays.is c.counted.ensures.0
    c.counted.ensures.1

pub returns-in-Leaves : goal.returns-in-Leaves
returns-in-Leaves c =
    leaves_settles _ _ _ _ _ c.requires.0 c.requires.1 c.requires.2 _ _ _ c.in-Leaves.is c.from.ensures (omega arith)
    c.counted-in-Leaves.ensures.0 c.counted-in-Leaves.ensures.1

pub returns-in-Mends : goal.returns-in-Mends
returns-in-Mends c =
    mends_settles _ _ _ _ _ c.requires.0 c.requires.1 c.requires.2 _ c.in-Mends.is
    c.counted-in-Mends.ensures.0 c.counted-in-Mends.ensures.1
