-- `put_pin_or_dash` meets its contract: by its two cases.
-- Assumes nothing.
use native.Mathlib.Omega.{arith}
use borrow.Author.Tests.{eq-eqb, ne_eqb}
use Rattle.spelling.proofs.put_pin_or_dash.Goals as goal

pub returns-then-p-eq255 : goal.returns-then-p-eq255
returns-then-p-eq255 c =
    (rw (eq-eqb _ _ c.if-p-eq255.true) c.put.ensures, omega (arith, c.put.ensures.ends))

pub returns : goal.returns
returns c =
    (rw (ne_eqb _ _ c.if-p-eq255.false, ← c.pin_text-text.ensures) c.put-2.ensures, omega (arith, c.put-2.ensures.ends))
