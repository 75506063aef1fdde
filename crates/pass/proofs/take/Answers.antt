-- `take` meets its contract: the arm that was taken is the identifier's.
-- Assumes nothing.
use mathlib.Core.Path.{refl}
use native.Mathlib.Omega.{arith}
use Rattle.pass.proofs.Stepped.{low_kept}
use Rattle.pass.proofs.Taking.{take_zone, take_text, take_placed, not_known, take_unknown}
use Rattle.pass.proofs.take.Goals as goal

pub returns-in-11-clause-takes : goal.returns-in-11-clause-takes
returns-in-11-clause-takes c =
    take_zone _ _ _ _ _ _ _ _ c.zone_step.ensures.1 c.in-11.is (c.zone_step.ensures.0 _ _ _ _)

pub returns-in-12-clause-takes : goal.returns-in-12-clause-takes
returns-in-12-clause-takes c =
    take_text _ _ _ _ _ _ _ _ c.text_step.ensures.1 c.in-12.is (c.text_step.ensures.0 _ _ _ _ _)

pub returns-in_default-clause-takes : goal.returns-in_default-clause-takes
returns-in_default-clause-takes c =
    take_unknown _ _ _ _ _ _ _ _ (low_kept _ _ (omega arith) (omega arith) refl) (search not_known)
    refl refl refl

pub returns-in-1 : goal.returns-in-1
returns-in-1 c = search take_placed

pub returns-in-2 : goal.returns-in-2
returns-in-2 c = search take_placed

pub returns-in-3 : goal.returns-in-3
returns-in-3 c = search take_placed

pub returns-in-4 : goal.returns-in-4
returns-in-4 c = search take_placed

pub returns-in-5 : goal.returns-in-5
returns-in-5 c = search take_placed

pub returns-in-6 : goal.returns-in-6
returns-in-6 c = search take_placed

pub returns-in-7 : goal.returns-in-7
returns-in-7 c = search take_placed

pub returns-in-8 : goal.returns-in-8
returns-in-8 c = search take_placed

pub returns-in-9 : goal.returns-in-9
returns-in-9 c = search take_placed

pub returns-in-10 : goal.returns-in-10
returns-in-10 c = search take_placed

pub returns-in-13 : goal.returns-in-13
returns-in-13 c = search take_placed

pub returns-in-14 : goal.returns-in-14
returns-in-14 c = search take_placed
