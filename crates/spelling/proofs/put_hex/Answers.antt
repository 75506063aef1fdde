-- `put_hex` meets its contract: two digits.
-- Assumes nothing.
use native.Mathlib.Omega.{arith}
use Rattle.spelling.proofs.put_hex.Goals as goal

pub returns : goal.returns
returns c =
    (rw (← c.hex_digit.ensures, ← c.hex_digit-2.ensures) c.put.ensures, omega (arith, c.put.ensures.ends))
