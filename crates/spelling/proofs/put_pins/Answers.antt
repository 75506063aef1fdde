-- `put_pins` meets its contract: by which pin is the first that is used.
-- Assumes nothing.
use native.Mathlib.Omega.{arith}
use borrow.Author.Tests.{eq-eqb, ne_eqb}
use Rattle.spelling.proofs.Putting.{then, first_of_three, first_of_two, last_of_three}
use Rattle.spelling.proofs.put_pins.Goals as goal

pub returns-then-one-ne255 : goal.returns-then-one-ne255
returns-then-one-ne255 c = (
  rw (first_of_three _ _ _ (ne_eqb _ _ c.if-one-ne255.true))
      (then (then c.put_pin_or_dash-a.ensures.0 c.put_next-b.ensures.0) c.put_next.ensures.0),
  omega (arith, c.put_pin_or_dash-a.ensures.1, c.put_next-b.ensures.1, c.put_next.ensures.1),
)

pub returns-then-two-ne255 : goal.returns-then-two-ne255
returns-then-two-ne255 c = (
  rw (first_of_two _ _ _ (eq-eqb _ _ c.if-one-ne255.false) (ne_eqb _ _ c.if-two-ne255.true))
      (then c.put_pin_or_dash-a-then-two-ne255.ensures.0 c.put_next-then-two-ne255.ensures.0),
  omega (arith, c.put_pin_or_dash-a-then-two-ne255.ensures.1, c.put_next-then-two-ne255.ensures.1),
)

pub returns : goal.returns
returns c = (
  rw (last_of_three _ _ _ (eq-eqb _ _ c.if-one-ne255.false) (eq-eqb _ _ c.if-two-ne255.false)) c.put_pin_or_dash.ensures.0,
  omega (arith, c.put_pin_or_dash.ensures.1),
)
