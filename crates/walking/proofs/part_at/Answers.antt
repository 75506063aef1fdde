-- `part_at` meets its contract: the part is written as the very bytes that stand there.
-- Assumes nothing.
use native.Mathlib.Omega.{arith}
use Rattle.walking.proofs.Bytes.{part_within, part_here}
use Rattle.walking.proofs.part_at.Goals as goal

pub returns : goal.returns
returns c =
    λ k x h. part_here k _ _ x h c.length_at.ensures (c.part_place-from.ensures k x h)

pub slice_bounds-result-count : goal.slice_bounds-result-count
slice_bounds-result-count c =
    let p = c.requires in
    omega (arith, c.part_place-from.ensures _ _ p.2, part_within _ _ _ _ p.2 c.length_at.ensures)

pub slice_bounds-result-start : goal.slice_bounds-result-start
slice_bounds-result-start c =
    let p = c.requires in
    omega (arith, c.part_place-from.ensures _ _ p.2, part_within _ _ _ _ p.2 c.length_at.ensures)
