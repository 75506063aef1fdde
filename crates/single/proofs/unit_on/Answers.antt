-- `unit_on` meets its contract: before the text, and by which byte of a unit it is.
-- Assumes nothing.
use native.Mathlib.Omega.{arith}
use mathlib.Core.Path.{refl}
use Rattle.single.proofs.Adding.{text_first, text_half, text_unit}
use Rattle.single.proofs.unit_on.Goals as goal

pub returns-then-u-lt6 : goal.returns-then-u-lt6
returns-then-u-lt6 c = record { on = λ f. text_first _ _ _ refl (omega arith) c.if-u-lt6.true refl }

pub returns-then-u-eq0 : goal.returns-then-u-eq0
returns-then-u-eq0 c =
    let e = c.longer.ensures in
    record {
      on = λ f. text_half _ _ _ e.0 (omega (arith, e.1, f.cut)) c.if-u-lt6.false c.if-u-eq0.true
          e.3;
    }

pub returns : goal.returns
returns c =
    record { on = λ f. text_unit _ _ _ refl f.cut c.if-u-lt6.false c.if-u-eq0.false c.marked.ensures }
