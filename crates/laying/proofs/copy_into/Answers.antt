-- `laying::copy_into` meets its contract. The loop's invariant: the buffer is as it was, with the bytes passed laid over it.
-- Assumes nothing.
use Prim.Native.Nat.{◌+◌, ◌<◌}
use native.Mathlib.Omega.{arith}
use native.Mathlib.Numerals.{add-one}
use mathlib.Core.Path.{◌≡◌, refl}
use lib.ListN.{length, length-set}
use lib.Seq.{paste-zero, paste-suc, take-length}
use Rattle.laying.proofs.copy_into.Goals as goal

pub loop-j-init : goal.loop-j-init
loop-j-init c = (refl, paste-zero c.args.buf.now c.args.at c.args.new.now)

pub loop-j-preserved : goal.loop-j-preserved
loop-j-preserved c =
    let a = c.args in
    let l = c.loop-j in
    let h : a.at + l.j < length a.buf.now = omega (arith, c.requires) in (
      simp length-set l.invariant.0,
      rw (l.invariant.1, paste-suc a.buf.now a.at a.new.now l.j 0 h c.loop-j-test.true, add-one),
    )

pub returns : goal.returns
returns c =
    let l = c.loop-j in
    let new = c.args.new.now in
    let past : l.j ≡ length new = omega (arith, c.loop-j-test.false) in
    rw (l.invariant.1, past, take-length new)
