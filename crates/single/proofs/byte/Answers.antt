-- `byte` meets its contract: the byte completes the element, or it only lengthens it.
-- Assumes nothing.
use mathlib.Core.Path.{refl, sym}
use mathlib.Core.Bool.{false≢true}
use borrow.Author.Tests.{not-false}
use Rattle.single.proofs.Adding.{longer_on}
use Rattle.single.proofs.byte.Goals as goal

pub returns-then-not-stays : goal.returns-then-not-stays
returns-then-not-stays c = record { yes = λ e. absurd (false≢true e); no = λ _. (refl, refl) }

pub one_more-r-requires : goal.one_more-r-requires
one_more-r-requires c = c.stays.ensures.few (not-false _ c.if-not-stays.false-raw)

pub returns : goal.returns
returns c =
    record {
      yes =
          λ _.
          rw c.put.ensures
          (longer_on _ _ _ _ _ _ _ c.requires.1 c.under_of-u.ensures (not-false _ c.if-not-stays.false-raw)
          c.stays.ensures c.one_more-r.ensures c.quiet_to-quiet.ensures);
      no = λ e. absurd (false≢true (sym e));
    }
