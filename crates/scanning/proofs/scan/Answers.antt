-- `scan` meets its contract: what is left to do ends where the whole ends.
-- Assumes nothing.
use Prim.Native.Nat.{◌+◌}
use mathlib.Core.Path.{refl}
use native.Mathlib.Omega.{arith}
use lib.Seq.{length-slice}
use Rattle.pass.proofs.Moving.{unframed_short, unframed_small, unframed_long}
use Rattle.scanning.proofs.Scanning.{begun, low, ended, filled, turned}
use Rattle.scanning.proofs.scan.Goals as goal

-- pub record Known (e : tie.Else3 invariant-loop decreases-loop) : Type 0 where

pub loop-at-init : goal.loop-at-init
loop-at-init c = (
  c.requires.0,
  begun _ _ _ _ _ _ _ c.requires.4 c.requires.5 c.counted-n.ensures.0 c.counted-n.ensures.1 c.requires.3,
  record { zones = refl; strings = refl; zone_uses = refl; string_uses = refl },
)

pub overflow_add-at : goal.overflow_add-at
overflow_add-at c = omega (arith, c.loop-at.invariant.0, c.requires.1)

pub overflow_sub-left : goal.overflow_sub-left
overflow_sub-left c = omega (arith, c.loop-at.invariant.0)

pub returns-then-len-lt3-clause-scanned : goal.returns-then-len-lt3-clause-scanned
returns-then-len-lt3-clause-scanned c =
    let i = c.loop-at.invariant in
    let q = c.summed.ensures in
    ended _ _ _ _ _ _ _ _ _ i.1 _ q.0 q.1 i.0 c.requires.1
    (unframed_small c.args.t.now c.loop-at.at c.length_at-len.ensures
    c.if-len-lt3.true)

pub returns-then-left-len-clause-scanned : goal.returns-then-left-len-clause-scanned
returns-then-left-len-clause-scanned c =
    let i = c.loop-at.invariant in
    let q = c.summed-then-left-len.ensures in
    ended _ _ _ _ _ _ _ _ _ i.1 _ q.0 q.1 i.0 c.requires.1
    (unframed_long c.args.t.now c.loop-at.at c.length_at-len.ensures
    c.if-left-len.true)

pub returns-then-n-ge96-clause-scanned : goal.returns-then-n-ge96-clause-scanned
returns-then-n-ge96-clause-scanned c =
    let i = c.loop-at.invariant in
    let q = c.summed-then-n-ge96.ensures in
    filled _ _ _ _ _ _ _ _ _ i.1 _ q.0 q.1 i.0 c.requires.1 c.if-n-ge96.true

pub overflow_add-next : goal.overflow_add-next
overflow_add-next c = omega (arith, c.loop-at.invariant.1.behind, c.loop-at.invariant.1.few_lines, c.if-left-len.false, c.if-len-lt3.false)

pub walk-r-requires : goal.walk-r-requires
walk-r-requires c =
    let n =
    length-slice c.loop-at.at (c.loop-at.at + c.length_at-len.result)
    c.args.t.now
    (omega (arith, c.if-left-len.false, c.loop-at.invariant.0)) in
    (omega (arith, c.loop-at.invariant.1.behind, c.loop-at.invariant.1.few_lines, c.if-left-len.false, c.if-len-lt3.false, n), low _ _ _ _ _ _ _ _ _ c.loop-at.invariant.1)

pub settle-n-requires : goal.settle-n-requires
settle-n-requires c =
    omega (arith, c.loop-at.invariant.1.behind, c.loop-at.invariant.1.few_lines, c.if-left-len.false, c.if-len-lt3.false, c.if-n-ge96.false)

pub overflow_add-end : goal.overflow_add-end
overflow_add-end c =
    omega (arith, c.loop-at.invariant.1.behind, c.loop-at.invariant.1.few_lines, c.if-left-len.false, c.if-len-lt3.false, c.grown-end.ensures.2)

pub loop-at-smaller : goal.loop-at-smaller
loop-at-smaller c =
    omega (arith, c.loop-at.invariant.1.behind, c.loop-at.invariant.1.few_lines, c.if-left-len.false, c.if-len-lt3.false)

pub loop-at-preserved : goal.loop-at-preserved
loop-at-preserved c =
    let i = c.loop-at.invariant in (
      omega (arith, c.loop-at.invariant.1.behind, c.loop-at.invariant.1.few_lines, c.if-left-len.false, c.if-len-lt3.false),
      turned _ _ _ _ _ _ _ _ _ i.1 c.requires.2 _ c.length_at-len.ensures c.if-len-lt3.false
          (omega (arith, c.loop-at.invariant.1.behind, c.loop-at.invariant.1.few_lines, c.if-left-len.false, c.if-len-lt3.false)) i.0 (omega (arith, c.if-n-ge96.false)) _ _ c.walk-r.ensures.walks _
          c.fate_of.ensures
          _ _ _ c.settle-n.ensures _ c.grown-end.ensures,
      search (i.2, c.walk-r.ensures.same_arrays),
    )

pub returns-clause-scanned : goal.returns-clause-scanned
returns-clause-scanned c =
    let i = c.loop-at.invariant in
    let q = c.summed-2.ensures in
    ended _ _ _ _ _ _ _ _ _ i.1 _ q.0 q.1 i.0 c.requires.1
    (unframed_short c.args.t.now c.loop-at.at (omega (arith, c.loop-at-test.false)))

pub slice_bounds-walk-end : goal.slice_bounds-walk-end
slice_bounds-walk-end c = omega (arith, c.loop-at.invariant.1.behind, c.loop-at.invariant.1.few_lines, c.if-left-len.false, c.if-len-lt3.false)
