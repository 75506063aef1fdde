-- `speed_blocks` meets its contract by the law of the cut.
-- Assumes nothing.
use native.Mathlib.Omega.{arith}
use mathlib.Core.Path.{refl}
use Rattle.blocks.proofs.EachKind.{speed_law}
use Rattle.blocks.proofs.speed_blocks.Goals as goal

pub returns : goal.returns
returns c =
    let p = c.args.p.now in
    let s = c.cut_blocks-c.ensures.0 in
    speed_law p _ (rw s refl) (rw s refl)

pub overflow_add-result : goal.overflow_add-result
overflow_add-result c = omega (arith, c.cut_blocks-c.ensures.1)
