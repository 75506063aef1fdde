-- `part_place` meets its contract: the place of the part of element k of the one list, or its refusal.
-- Assumes nothing.
use native.Mathlib.Omega.{arith}
use mathlib.Core.List.{[]}
use Rattle.format.proofs.Refusals.{handed}
use Rattle.walking.proofs.Bytes.{part_within}
use Rattle.reader.proofs.PartPlaces.{placed_there}
use Rattle.reader.proofs.part_place.Goals as goal

pub returns-in_err-at : goal.returns-in_err-at
returns-in_err-at c = rw (handed _ _ c.from_residual.ensures.1) (record { beside = []; gives = c.in_err-at.ensures })

pub part_place-from-requires : goal.part_place-from-requires
part_place-from-requires c = let l = c.in_ok-at.ensures in (_, l.r, l.here)

pub length_at-requires : goal.length_at-requires
length_at-requires c = let l = c.in_ok-at.ensures in omega (arith, l.here.size, l.here.within)

pub overflow_add-len : goal.overflow_add-len
overflow_add-len c = let l = c.in_ok-at.ensures in omega (arith, c.length_at.ensures, l.here.within)

pub overflow_sub-len : goal.overflow_sub-len
overflow_sub-len c =
    let l = c.in_ok-at.ensures in
    omega (arith, c.part_place-from.ensures _ l.r l.here, part_within _ _ _ _ l.here c.length_at.ensures)

pub returns : goal.returns
returns c =
    let l = c.in_ok-at.ensures in
    placed_there _ _ _ _ l (c.part_place-from.ensures _ l.r l.here) c.length_at.ensures
