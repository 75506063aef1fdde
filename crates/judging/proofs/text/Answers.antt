-- `text` meets its contract, by whether there is room for the number.
-- Assumes nothing.
use mathlib.Core.Path.{sym, ◌∙◌}
use native.Mathlib.Omega.{arith}
use lib.ListN.{drop, length-drop}
use lib.Seq.{get_or-drop}
use Rattle.rules.proofs.Contents.{text_short}
use Rattle.judging.proofs.Fixed.{text_ended}
use Rattle.judging.proofs.text.Goals as goal

pub returns-then-u-lt6 : goal.returns-then-u-lt6
returns-then-u-lt6 c =
    record { says = λ v w e s. text_short (drop 3 v) (omega (arith, w.long, c.if-u-lt6.true, length-drop 3 v)) s }

pub returns : goal.returns
returns c =
    let l = c.if-u-lt6.false in
    record {
      says =
          λ v w e s.
          c.text_rules.ensures s (drop 3 v) (omega (arith, w.long, l, length-drop 3 v))
          (w.held.same 3 (omega arith) (omega (arith, w.long, l)) ∙ sym (get_or-drop 3 v 0 0))
          (text_ended _ _ v w e l);
    }
