-- `put_supply` meets its contract: by its two cases.
-- Assumes nothing.
use native.Mathlib.Omega.{arith}
use Rattle.listing.proofs.put_supply.Goals as goal

pub returns-then-d : goal.returns-then-d
returns-then-d c =
    (rw c.if-d.true c.put.ensures, omega (arith, c.put.ensures.ends))

pub returns : goal.returns
returns c =
    (rw (c.if-d.false, ← c.in_milliamps-m.ensures) c.put_number.ensures.0, c.put_number.ensures.1)
