-- `by_string` meets its contract: the bytes at the old place tell the string index, unless it is cleared.
-- Assumes nothing.
use Rattle.format.specs.ZonesAndStrings.{role}
use Rattle.sifting.proofs.Judging.{role_there, cleared_stays, string_stays, string_mends}
use Rattle.sifting.proofs.by_string.Goals as goal

pub returns-then-kept : goal.returns-then-kept
returns-then-kept c = λ ns kept k keeps marks zero. cleared_stays _ _ _ _ keeps ns kept c.if-kept.true zero

pub marked-requires : goal.marked-requires
marked-requires c = (role c.requires.1.r, rw c.from.ensures (role_there _ _ _ _ c.requires.1))

pub returns-then-marked : goal.returns-then-marked
returns-then-marked c =
    λ ns kept k keeps marks zero.
    string_stays _ _ _ _ keeps ns kept _ c.if-kept.false
    (c.marked.ensures (role keeps.r) ns (rw c.from.ensures (role_there _ _ _ _ keeps)) marks) c.if-marked.true

pub returns-else-marked : goal.returns-else-marked
returns-else-marked c =
    λ ns kept k keeps marks zero.
    string_mends _ _ _ _ keeps ns kept _ c.if-kept.false
    (c.marked.ensures (role keeps.r) ns (rw c.from.ensures (role_there _ _ _ _ keeps)) marks) c.if-marked.false
