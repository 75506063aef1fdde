-- `text_on` meets its contract, by whether the text has begun.
-- Assumes nothing.
use native.Mathlib.Omega.{arith}
use mathlib.Core.Path.{refl}
use lib.ListN.{length-append}
use Rattle.underway.proofs.Unit.{text_grows}
use Rattle.underway.proofs.text_on.Goals as goal

pub returns-then-len-lt6 : goal.returns-then-len-lt6
returns-then-len-lt6 c =
    let a = c.args in
    record {
      long = c.so_many.ensures.0;
      low = omega (arith, c.so_many.ensures.1);
      on = λ v e h l. absurd (omega (arith, e, l, c.if-len-lt6.true, length-append v a.p.now));
    }

pub units_on-mark-requires : goal.units_on-mark-requires
units_on-mark-requires c =
    let l = c.if-len-lt6.false in
    (c.units_from.ensures.near, omega arith, c.requires)

pub returns : goal.returns
returns c =
    record {
      long = refl;
      low = omega arith;
      on = text_grows _ _ _ _ c.units_from.ensures c.units_on-mark.ensures;
    }
