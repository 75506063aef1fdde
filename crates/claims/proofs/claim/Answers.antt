-- The first clash is where the sets meet: the law of claims after those before, at each branch.
-- Assumes nothing.
use mathlib.Core.Path.{refl}
use Rattle.pinsets.proofs.Table.{picked, picked_not}
use Rattle.claims.proofs.Holding.{hit, held_after}
use Rattle.claims.proofs.claim.Goals as goal

pub returns-then-hit-h : goal.returns-then-hit-h
returns-then-hit-h c =
    λ before cs A H C.
    let h = c.args.h in
    let d = c.args.c in
    let at = c.args.at in
    held_after h d at before cs A H C at (picked (hit h d) at h.clash c.if-hit-h.true refl)

pub returns-else-hit-h : goal.returns-else-hit-h
returns-else-hit-h c =
    λ before cs A H C.
    let h = c.args.h in
    let d = c.args.c in
    let at = c.args.at in
    held_after h d at before cs A H C h.clash (picked_not (hit h d) at h.clash c.if-hit-h.false refl)
