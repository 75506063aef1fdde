-- `put` meets its contract: the bytes, one behind another.
-- Assumes nothing.
use native.Mathlib.Omega.{arith}
use Prim.Native.Nat.{◌+◌, ◌-◌}
use Rattle.numbered.proofs.Storing.{stored}
use Rattle.numbered.proofs.put.Goals as goal

pub returns : goal.returns
returns g c =
    let a = c.args in
    rw c.copy_from_slice.ensures.after (stored a.n a.bytes a.at (a.at + g.row.N - a.at) (omega arith) (omega arith))
