-- `copy_kept` meets its contract: run by run, what stands in the buffer is the bytes of those before.
-- Assumes nothing.
use native.Mathlib.Omega.{arith}
use mathlib.Core.Path.{refl}
use Rattle.spelling.proofs.Putting.{put_none}
use Rattle.mending.proofs.Listing.{place_is}
use Rattle.mending.proofs.Copying.{run_room, run_put, copy_ends}
use Rattle.mending.proofs.copy_kept.Goals as goal

pub loop-i-init : goal.loop-i-init
loop-i-init c = (refl, put_none _ 16)

pub run_from-run-requires : goal.run_from-run-requires
run_from-run-requires c = (c.requires.list, c.loop-i-test.true)

pub slice_bounds-copy_into-count : goal.slice_bounds-copy_into-count
slice_bounds-copy_into-count c = omega (arith, place_is _ _ c.loop-i-test.true _ c.from-from.ensures, c.run_from-run.ensures.low)

pub copy_into-requires : goal.copy_into-requires
copy_into-requires c =
    let e = place_is _ _ c.loop-i-test.true _ c.from-from.ensures in
    rw e (run_room _ _ _ _ c.run_from-run.ensures _ _ _ c.loop-i.invariant.1 c.requires.room).0

pub overflow_sub-end : goal.overflow_sub-end
overflow_sub-end c = omega (arith, place_is _ _ c.loop-i-test.true _ c.from-from.ensures, c.run_from-run.ensures.low)

pub overflow_add-end : goal.overflow_add-end
overflow_add-end c =
    let p = c.requires in
    omega (arith, place_is _ _ c.loop-i-test.true _ c.from-from.ensures, (run_room _ _ _ _ c.run_from-run.ensures _ _ _ c.loop-i.invariant.1 p.room).1, p.most)

pub loop-i-smaller : goal.loop-i-smaller
loop-i-smaller c =
    omega (arith, c.run_from-run.ensures.on, c.run_from-run.ensures.most)

pub loop-i-preserved : goal.loop-i-preserved
loop-i-preserved c =
    let e = place_is _ _ c.loop-i-test.true _ c.from-from.ensures in (
      omega (arith, c.loop-i.invariant.0),
      rw e (run_put _ _ _ _ c.run_from-run.ensures _ _ _ c.loop-i.invariant.1 c.requires.room _
          (rw e at c.copy_into.ensures)),
    )

pub shape_of-out : goal.shape_of-out
shape_of-out c = omega (arith, c.loop-i.invariant.0)

pub returns : goal.returns
returns c = copy_ends _ _ _ _ _ _ c.loop-i-test.false c.loop-i.invariant.1
