-- `walk` meets its contract. The loop's invariant: good lines so far, and their bytes kept.
-- Assumes nothing.
use native.Mathlib.Omega.{arith}
use mathlib.Core.Path.{refl}
use mathlib.Core.List.{[]}
use Rattle.hextext.specs.Meaning.{none}
use Rattle.fromhex.specs.Reading.{kept}
use Rattle.fromhex.proofs.Walking.{rest_is, advances, finished, turned}
use Rattle.fromhex.proofs.walk.Goals as goal

pub loop-n-init : goal.loop-n-init
loop-n-init c =
    (record { b = []; front = none; count = refl; place = refl; within = omega arith; holds = kept refl }, refl, refl)

pub loop-n-smaller : goal.loop-n-smaller
loop-n-smaller c =
    let w = c.loop-n.invariant.0 in
    omega (arith, advances c.args.text.now _ c.loop-n.at (rw (rest_is w) at c.in-Some.ensures.0))

pub loop-n-preserved : goal.loop-n-preserved
loop-n-preserved c =
    let w = c.loop-n.invariant.0 in
    (turned w (rw (rest_is w) at c.in-Some.ensures.0) (c.keep.ensures w.b w.count w.holds), omega arith, omega arith)

pub returns : goal.returns
returns c =
    let w = c.loop-n.invariant.0 in
    finished w (rw (rest_is w, c.in_default.is) at c.data_line.ensures.0) (rw (rest_is w) at c.ended.ensures)
