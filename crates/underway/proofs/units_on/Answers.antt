-- `units_on` meets its contract: what is left of the units ends where it ended.
-- Assumes nothing.
use Prim.Native.Nat.{ℕ, ◌+◌, ◌-◌, ◌*◌}
use native.Mathlib.Omega.{arith}
use mathlib.Core.Path.{◌≡◌, refl, ◌∙◌, ap}
use lib.Dec.{eqb}
use Rattle.underway.proofs.Unit.{good_mark, high_mark, unit_next}
use Rattle.underway.proofs.units_on.Goals as goal

pub loop-k-init : goal.loop-k-init
loop-k-init c = λ v q e small. refl

pub loop-k-preserved : goal.loop-k-preserved
loop-k-preserved c =
    let a = c.args in
    let p = c.requires in
    let k = c.loop-k.k in
    let t = c.loop-k-test.true in
    λ v q e small.
    rw c.agrees-good.ensures
    (unit_next v a.p.now q k c.loop-k.good (eqb c.loop-k.last 54) small (ap (λ (n : ℕ). 7 + 2 * k - n) e)
    (omega (arith, c.loop-k.auto.k, p.0, e)) (omega (arith, c.loop-k.auto.k, t, p.0, p.1)) refl
    ∙ c.loop-k.invariant v q e small)

pub returns : goal.returns
returns c =
    let g = c.loop-k.good in
    let h = eqb c.loop-k.last 54 in
    record {
      on =
          λ v q e f small.
          let z : c.loop-k.k ≡ c.args.end = omega (arith, c.loop-k.auto.k-end f, c.loop-k-test.false) in
          rw (c.mark_of.ensures, good_mark g h, high_mark g h, ← z, ← c.top_of-last.ensures) (c.loop-k.invariant v q e small);
    }
