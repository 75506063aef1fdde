-- `well_formed` meets its contract. The loop's invariant: what is left of the units ends where the whole ends.
-- Assumes nothing.
use Prim.Native.Nat.{◌+◌, ◌*◌, ◌/◌, ◌<◌, ◌≤◌}
use native.Mathlib.Omega.{arith}
use mathlib.Core.Path.{refl, sym, ◌∙◌}
use lib.ListN.{length}
use Rattle.rules.proofs.Units.{one_unit, all_units}
use Rattle.rules.proofs.well_formed.Goals as goal

pub loop-i-init : goal.loop-i-init
loop-i-init c = (refl, omega arith, refl)

pub loop-i-preserved : goal.loop-i-preserved
loop-i-preserved c =
    let t = c.args.text.now in
    let i = c.loop-i.i in
    let h : 2 * i + 1 < length t = omega arith in
    let step = one_unit t i c.loop-i.good c.loop-i.high (λ j. omega (arith, c.type_inv.text j)) h in
    (c.loop-i.invariant.0, omega arith, rw c.agrees-good.ensures (sym step ∙ c.loop-i.invariant.2))

pub returns : goal.returns
returns c =
    let t = c.args.text.now in
    let h : length t / 2 ≤ c.loop-i.i = omega arith in
    all_units t c.loop-i.i c.loop-i.good c.loop-i.high h ∙ c.loop-i.invariant.2
