-- `part` meets its contract: the part of element k of the one list, or an empty part.
-- Assumes nothing.
use Rattle.reader.proofs.Asking.{gives_part, part_there}
use Rattle.reader.proofs.part.Goals as goal

pub returns-in_default : goal.returns-in_default
returns-in_default c = gives_part _ _ _ _ _ c.in_default.ensures

pub part_at-requires : goal.part_at-requires
part_at-requires c = let l = c.in-Ok.ensures in (_, l.r, l.here)

pub returns : goal.returns
returns c = let l = c.in-Ok.ensures in part_there _ _ _ _ l (c.part_at.ensures _ l.r l.here)
