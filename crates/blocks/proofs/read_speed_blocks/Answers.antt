-- `read_speed_blocks` meets its contract. The loop's invariant: it stands on a block, and the cut leads from `end` to where all of
-- it leads. Assumes nothing.
use Prim.Native.Nat.{ℕ, suc, ◌+◌, ◌*◌, ◌-◌}
use native.Mathlib.Omega.{arith}
use mathlib.Core.Path.{◌≡◌, refl, sym, ◌∙◌, ap}
use mathlib.Core.Bool.{true, and-false}
use lib.Dec.{eqb}
use lib.ListN.{length}
use Rattle.blocks.specs.declared.Cut.{Cut}
use Rattle.blocks.proofs.Stepping.{stays, turn}
use Rattle.blocks.proofs.EachKind.{speed_law}
use Rattle.blocks.proofs.Standing.{moved, stayed, onward, emptied, unfilled_part}
use Rattle.blocks.proofs.read_speed_blocks.Goals as goal
use Rattle.blocks.proofs.read_speed_blocks.Goals.{then-end-p, else-end-p}

pub returns-then-p-le1 : goal.returns-then-p-le1
returns-then-p-le1 c =
    let p = c.args.p.now in
    let e = stays 1 p 6 1 true c.if-p-le1.true in
    speed_law p _ (rw e (sym (and-false (eqb 1 (length p + 1))))) (rw e refl)

pub loop-init : goal.loop-init
loop-init c = (refl, moved _ 1 (omega (arith, c.if-p-le1.false)), omega arith, omega arith)

pub returns-then-entries-eq0 : goal.returns-then-entries-eq0
returns-then-entries-eq0 c =
    let l = c.loop in
    let p = c.args.p.now in
    let e : 6 - l.counter ≡ suc (6 - (l.counter + 1)) = omega (arith, c.loop-test.true) in
    unfilled_part p _
    (sym (ap (λ (d : Cut). d.full) l.invariant.0) ∙ rw e (emptied p _ _ l.invariant.1 (6 - (l.counter + 1)) c.if-entries-eq0.true))
    c.speed_blocks.ensures

pub loop-preserved : goal.loop-preserved
loop-preserved c =
    let l = c.loop in
    let p = c.args.p.now in
    let next = ap (λ (x : ℕ). l.at + 2 + 4 * x) c.from.ensures in
    let s = l.invariant.1 in
    let pairs = c.if-entries-eq0.false in (
      sym (turn 1 p 6 l.counter _ _ c.loop-test.true (onward p _ _ s pairs _ next)) ∙ l.invariant.0,
      elim c.if-end-p.branch [
        | then-end-p v ↦ rw v.at-is (moved p _ v.if-end-p.true)
        | else-end-p v ↦ rw v.at-is (stayed p _ _ s pairs _ next v.if-end-p.false)
      ],
      elim c.if-end-p.branch [ then-end-p v ↦ omega (arith, v.at-is) | else-end-p v ↦ omega (arith, v.at-is) ],
      omega arith,
    )

pub returns : goal.returns
returns c =
    let l = c.loop in
    let p = c.args.p.now in
    let e : 6 - l.counter ≡ 0 = omega (arith, c.loop-test.false) in
    let d = rw e at l.invariant.0 in
    speed_law p _ (rw (← d) refl) (rw (← d) refl)

pub bounds-p-at : goal.bounds-p-at
bounds-p-at c = c.loop.invariant.1.there
