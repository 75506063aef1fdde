-- `put_own` meets its contract: the pins, and what ends the line behind them; where that is `retired`, there are no pins.
-- Assumes nothing.
use native.Mathlib.Omega.{arith}
use mathlib.Core.Path.{◌≡◌, refl}
use mathlib.Core.List.{append_assoc}
use lib.ListN.{length}
use Rattle.shown.specs.Own.{no_pins}
use Rattle.shown.specs.declared.OwnPins.{OwnPins}
use Rattle.spelling.proofs.Putting.{then}
use Rattle.listing.specs.Lines.{pins_text}
use Rattle.listing.proofs.put_own.Goals as goal

dashed : (p : OwnPins) → p ≡ no_pins → length (pins_text p) ≡ 1
dashed p e = rw e refl

pub returns-then-used : goal.returns-then-used
returns-then-used c = (
  rw c.if-used.true (then c.put_pins-a.ensures.0 c.put.ensures),
  omega (arith, c.put_pins-a.ensures.1, c.put.ensures.ends),
)

pub put-requires-2 : goal.put-requires-2
put-requires-2 c =
    omega (arith, c.put_pins-a.ensures.0.ends, dashed c.args.p (c.requires.1 c.if-used.false), c.requires.0)

pub returns : goal.returns
returns c = (
  rw (c.if-used.false, append_assoc) (then c.put_pins-a.ensures.0 c.put-2.ensures),
  omega (arith, c.put_pins-a.ensures.0.ends, dashed c.args.p (c.requires.1 c.if-used.false), c.put-2.ensures.ends),
)
