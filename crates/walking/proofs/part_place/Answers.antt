-- `part_place` meets its contract: the part starts behind the header and the fixed fields.
-- Assumes nothing.
use native.Mathlib.Omega.{arith}
use Rattle.walking.proofs.Bytes.{start_here, part_within}
use Rattle.walking.proofs.part_place.Goals as goal

pub overflow_add-result : goal.overflow_add-result
overflow_add-result c =
    let h = c.requires.2 in
    omega (arith, start_here _ _ _ _ h c.length_at.ensures c.part_start.ensures, part_within _ _ _ _ h c.length_at.ensures)

pub returns : goal.returns
returns c = λ k x h. omega (arith, start_here k _ _ x h c.length_at.ensures c.part_start.ensures)
