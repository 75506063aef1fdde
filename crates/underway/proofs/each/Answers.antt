-- `each` meets its contract: so many bytes of the piece are kept.
-- Assumes nothing.
use native.Mathlib.Omega.{arith}
use mathlib.Core.Path.{◌≡◌, refl}
use Rattle.underway.proofs.Eights.{copied_none, copied_next}
use Rattle.underway.proofs.each.Goals as goal

pub loop-j-init : goal.loop-j-init
loop-j-init c = copied_none _ _ _ _

pub overflow_add-head : goal.overflow_add-head
overflow_add-head c =
    let t = c.loop-j-test.true in
    let l = c.requires.1 (omega arith) in
    omega arith

pub bounds-head-from : goal.bounds-head-from
bounds-head-from c =
    let t = c.loop-j-test.true in
    let l = c.requires.1 (omega arith) in
    omega arith

pub loop-j-preserved : goal.loop-j-preserved
loop-j-preserved c =
    let t = c.loop-j-test.true in
    let l = c.requires.1 (omega arith) in
    copied_next _ _ _ _ _ _ c.loop-j.invariant refl (omega arith) (omega arith)

pub returns : goal.returns
returns c =
    let e : c.loop-j.j ≡ c.args.end = omega (arith, c.loop-j-test.false) in
    rw (← e) c.loop-j.invariant
