-- `put_ended` meets its contract: the end stands behind the digits, two for a byte.
-- Assumes nothing.
use native.Mathlib.Omega.{arith}
use Rattle.differing.proofs.Bound.{hex_length}
use Rattle.comparing.proofs.lines.put_ended.Goals as goal

pub put_byte-requires : goal.put_byte-requires
put_byte-requires c =
    omega (arith, hex_length c.args.p.now, c.put_bytes-e.ensures.ends, c.put_bytes-e.ensures.long)
