-- `step` meets its contract: what `motor_in` tells, and one visit more.
-- Assumes nothing.
use Prim.Native.Nat.{◌+◌}
use mathlib.Core.Path.{ap}
use mathlib.Core.Bool.{Bool}
use Rattle.fans.specs.InZone.{visit}
use Rattle.fans.proofs.step.Goals as goal

pub returns : goal.returns
returns c = λ x h. ap (λ (b : Bool). visit b (c.args.count + 1)) (c.motor_in.ensures x h)
