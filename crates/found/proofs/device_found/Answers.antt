-- `device_found` meets its contract: 8 or 9 by the part, or what the fixed fields say.
-- Assumes nothing.
use mathlib.Core.Path.{refl}
use borrow.Author.Tests.{not-true, not-false}
use Rattle.found.proofs.Judging.{found_8, found_9, found_whole}
use Rattle.found.proofs.device_found.Goals as goal

pub returns-then-not-part : goal.returns-then-not-part
returns-then-not-part c = found_8 _ _ _ _ (not-true _ c.if-not-part.true) refl

pub returns-then-not-part-2 : goal.returns-then-not-part-2
returns-then-not-part-2 c =
    found_9 _ _ _ _ (not-false _ c.if-not-part.false) (not-true _ c.if-not-part-2.true) refl

pub returns : goal.returns
returns c =
    found_whole _ _ _ _ _ (not-false _ c.if-not-part.false) (not-false _ c.if-not-part-2.false) c.device-d.ensures
    c.device_breaks.ensures c.bus_claims.ensures refl
    c.together.ensures
