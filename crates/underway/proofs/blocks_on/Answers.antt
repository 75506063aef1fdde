-- `blocks_on` meets its contract: whatever follows, the cut goes on from where it is as from the start.
-- Assumes nothing.
use Prim.Native.Nat.{◌+◌, ◌-◌}
use native.Mathlib.Omega.{arith}
use mathlib.Core.Path.{refl}
use lib.ListN.{length}
use Rattle.underway.proofs.Block.{within_first, within_next, within_last, three_tests}
use Rattle.underway.proofs.blocks_on.Goals as goal

pub loop-n-init : goal.loop-n-init
loop-n-init c = (refl, refl, c.requires.2, λ v e k. within_first _ _ _ _ _ v _ k)

pub overflow_add-from : goal.overflow_add-from
overflow_add-from c = omega (arith, c.loop-n.invariant.0, c.loop-n.invariant.2)

pub overflow_add-from-in-loop-n : goal.overflow_add-from-in-loop-n
overflow_add-from-in-loop-n c = omega (arith, c.loop-n.invariant.0, c.loop-n.invariant.2)

pub overflow_sub-from-in-loop-n : goal.overflow_sub-from-in-loop-n
overflow_sub-from-in-loop-n c =
    let a = c.args in
    let k = c.loop-n in
    let t = three_tests k.n a.most k.c.at (a.had + length a.p.now - (12 - a.lead)) a.had (12 - a.lead + k.c.at)
    c.loop-n-test.true in
    t.2

pub bounds-p-from : goal.bounds-p-from
bounds-p-from c =
    let a = c.args in
    let k = c.loop-n in
    let t = three_tests k.n a.most k.c.at (a.had + length a.p.now - (12 - a.lead)) a.had (12 - a.lead + k.c.at)
    c.loop-n-test.true in
    omega (arith, t.1, t.2)

pub enter-c-requires : goal.enter-c-requires
enter-c-requires c =
    (c.requires.0, omega (arith, c.loop-n.invariant.2))

pub overflow_add-n : goal.overflow_add-n
overflow_add-n c =
    let a = c.args in
    let k = c.loop-n in
    let t = three_tests k.n a.most k.c.at (a.had + length a.p.now - (12 - a.lead)) a.had (12 - a.lead + k.c.at)
    c.loop-n-test.true in
    omega (arith, t.0, c.requires.1)

pub loop-n-smaller : goal.loop-n-smaller
loop-n-smaller c =
    let a = c.args in
    let k = c.loop-n in
    let t = three_tests k.n a.most k.c.at (a.had + length a.p.now - (12 - a.lead)) a.had (12 - a.lead + k.c.at)
    c.loop-n-test.true in
    omega (arith, t.0)

pub loop-n-preserved : goal.loop-n-preserved
loop-n-preserved c =
    let a = c.args in
    let k = c.loop-n in
    let t = three_tests k.n a.most k.c.at (a.had + length a.p.now - (12 - a.lead)) a.had (12 - a.lead + k.c.at)
    c.loop-n-test.true in
    let p = c.requires in (
      refl,
      refl,
      omega (arith, c.enter-c.ensures.1, t.1, p.4),
      λ v e k.
          within_next _ _ _ _ _ v _ (c.loop-n.invariant.3 v e k) t.0 p.0 (omega (arith, t.1, e)) (omega (arith, e)) refl
          c.enter-c.ensures.0,
    )

pub returns : goal.returns
returns c =
    let i = c.loop-n.invariant in
    let p = c.requires in
    record {
      low = i.2;
      on = λ v e k. within_last _ _ _ _ _ _ v _ p.0 (i.3 v e k) (omega (arith, e)) (rw e at c.loop-n-test.false);
    }
