-- `put_lines` meets its contract: at each turn the line of one change.
-- Assumes nothing.
use native.Mathlib.Omega.{arith}
use Rattle.changes.proofs.Lining.{begun, turned, ended}
use Rattle.changes.proofs.put_lines.Goals as goal

pub loop-change-init : goal.loop-change-init
loop-change-init c = λ ls all. begun ls _

pub put_line-end-requires : goal.put_line-end-requires
put_line-end-requires c =
    omega (
      arith,
      c.loop-change-test.true,
      c.requires.few,
      (c.loop-change.invariant c.requires.ls c.requires.codes).bound,
      c.put_line-arg-1.given,
    )

pub loop-change-preserved : goal.loop-change-preserved
loop-change-preserved c =
    λ ls all. turned _ ls all _ _ _ _ (c.loop-change.invariant ls all) c.loop-change-test.true _ _ _ c.put_line-end.ensures

pub returns : goal.returns
returns c = λ ls all. ended _ ls all _ _ _ _ (c.loop-change.invariant ls all) c.loop-change-test.false
