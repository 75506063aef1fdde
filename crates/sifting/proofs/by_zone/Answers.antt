-- `by_zone` meets its contract: the bytes at the old place tell the zone.
-- Assumes nothing.
use Rattle.format.specs.ZonesAndStrings.{role}
use Rattle.sifting.proofs.Judging.{role_there, zone_stays, zone_leaves}
use Rattle.sifting.proofs.by_zone.Goals as goal

pub marked-requires : goal.marked-requires
marked-requires c = (role c.requires.1.r, rw c.from.ensures (role_there _ _ _ _ c.requires.1))

pub returns-then-marked : goal.returns-then-marked
returns-then-marked c =
    λ ns kept k keeps marks.
    zone_stays _ _ _ _ keeps ns kept _ (c.marked.ensures (role keeps.r) ns (rw c.from.ensures (role_there _ _ _ _ keeps)) marks) c.if-marked.true

pub returns-else-marked : goal.returns-else-marked
returns-else-marked c =
    λ ns kept k keeps marks.
    rw c.number.ensures
    (zone_leaves _ _ _ _ keeps ns kept _ (c.marked.ensures (role keeps.r) ns (rw c.from.ensures (role_there _ _ _ _ keeps)) marks) c.if-marked.false)
