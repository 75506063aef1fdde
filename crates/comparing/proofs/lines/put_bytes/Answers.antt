-- `put_bytes` meets its contract: a byte a turn.
-- Assumes nothing.
use native.Mathlib.Omega.{arith}
use Rattle.comparing.proofs.Midst.{begun}
use Rattle.comparing.proofs.Spelled.{part_room, part_turned, part_ended}
use Rattle.comparing.proofs.lines.put_bytes.Goals as goal

pub loop-b-init : goal.loop-b-init
loop-b-init c = begun _ _ _

pub put_hex-end-requires : goal.put_hex-end-requires
put_hex-end-requires c =
    omega (arith, part_room _ c.loop-b.invariant c.loop-b-test.true, c.requires)

pub loop-b-preserved : goal.loop-b-preserved
loop-b-preserved c =
    part_turned _ c.loop-b.invariant c.loop-b-test.true c.put_hex-end.ensures.0

pub returns : goal.returns
returns c = part_ended _ c.loop-b.invariant c.loop-b-test.false
