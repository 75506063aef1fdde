-- `put_entry` meets its contract: by its three cases.
-- Assumes nothing.
use native.Mathlib.Omega.{arith}
use borrow.Author.Tests.{eq-eqb, ne_eqb}
use Rattle.pinlines.proofs.Lining.{decimal_short}
use Rattle.pinlines.proofs.put_entry.Goals as goal

pub returns-then-n-eq65535 : goal.returns-then-n-eq65535
returns-then-n-eq65535 c =
    (rw (eq-eqb _ _ c.if-n-eq65535.true) c.put.ensures, omega (arith, c.put.ensures.ends))

pub returns-then-n-eq65534 : goal.returns-then-n-eq65534
returns-then-n-eq65534 c =
    (rw (ne_eqb _ _ c.if-n-eq65535.false, eq-eqb _ _ c.if-n-eq65534.true) c.put-then-n-eq65534.ensures, omega (arith, c.put-then-n-eq65534.ensures.ends))

pub returns : goal.returns
returns c =
    let put = rw c.from.ensures at c.put_decimal.ensures.0 in (
      rw (ne_eqb _ _ c.if-n-eq65535.false, ne_eqb _ _ c.if-n-eq65534.false) put,
      omega (arith, put.ends, decimal_short _ c.ranges.n.fits),
    )
