-- `verdict` meets its contract: 1, 2, 3, or what the pass has come to.
-- Assumes nothing.
use mathlib.Core.Path.{refl}
use Rattle.ending.proofs.Answering.{verdict_1, verdict_2, verdict_3, verdict_3_over, verdict_on}
use Rattle.ending.proofs.verdict.Goals as goal

pub returns-then-count-lt16 : goal.returns-then-count-lt16
returns-then-count-lt16 c =
    rw c.by.ensures
    (verdict_1 _ _ _ _ _ _ c.if-count-lt16.true refl)

pub returns-then-first-ne1 : goal.returns-then-first-ne1
returns-then-first-ne1 c =
    rw c.by-then-first-ne1.ensures
    (verdict_2 _ _ _ _ _ _ c.if-count-lt16.false c.if-first-ne1.true refl)

pub returns-then-told-count : goal.returns-then-told-count
returns-then-told-count c =
    rw c.by-then-told-count.ensures
    (verdict_3 _ _ _ _ _ _ c.if-count-lt16.false c.if-first-ne1.false _ _ c.from.ensures c.from-2.ensures
    c.if-told-count.true refl)

pub returns-then-told-gt4096 : goal.returns-then-told-gt4096
returns-then-told-gt4096 c =
    rw c.by-then-told-gt4096.ensures
    (verdict_3_over _ _ _ _ _ _ c.if-count-lt16.false c.if-first-ne1.false _ _ c.from.ensures c.from-2.ensures
    c.if-told-count.false c.if-told-gt4096.true refl)

pub returns : goal.returns
returns c =
    verdict_on _ _ _ _ _ _ c.if-count-lt16.false c.if-first-ne1.false _ _ c.from.ensures c.from-2.ensures
    c.if-told-count.false c.if-told-gt4096.false refl refl (rw (← c.way_of.ensures) c.passed.ensures)
