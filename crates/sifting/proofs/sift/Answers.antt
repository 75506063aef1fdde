-- `sift` meets its contract: what is left to do ends where the whole ends.
-- Assumes nothing.
use native.Mathlib.Omega.{arith}
use Rattle.sifting.proofs.Sifting.{begun, spot, keeps_at, low_at, turned, ended}
use Rattle.sifting.proofs.sift.Goals as goal

pub loop-kept-init : goal.loop-kept-init
loop-kept-init c = begun _ _ _ _ _ _ _ _ _ _ c.requires.1 c.counted-c.ensures.0 c.counted-c.ensures.1

pub judge-r-requires : goal.judge-r-requires
judge-r-requires c =
    let g = c.requires.0.given in
    let b = c.loop-kept-test.true in (
      ((spot _ _ _ _ _ _ _ _ _ _ _ _ g _ b).x, keeps_at _ _ _ _ _ _ _ _ _ _ _ _ g _ b _),
      low_at _ _ _ _ _ _ _ _ _ _ _ _ g _ b _ c.requires.0.small,
    )

pub settle-c-requires : goal.settle-c-requires
settle-c-requires c =
    let g = c.requires.0.given in
    let b = c.loop-kept-test.true in (
      omega (arith, b, c.loop-kept.invariant.fewer, g.few),
      omega (arith, b, c.loop-kept.invariant.not_many, g.fitting),
      low_at _ _ _ _ _ _ _ _ _ _ _ _ g _ b _ c.requires.0.small,
    )

pub loop-kept-preserved : goal.loop-kept-preserved
loop-kept-preserved c =
    turned _ _ _ _ _ _ _ _ _ _ _ _ _ c.loop-kept.invariant c.loop-kept-test.true _ _
    c.judge-r.ensures _ _ _ c.settle-c.ensures

pub returns : goal.returns
returns c = ended _ _ _ _ _ _ _ _ _ _ _ _ _ c.loop-kept.invariant c.loop-kept-test.false
