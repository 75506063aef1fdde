-- `read` meets its contract: 1, 2, 3, or what follows them.
-- Assumes nothing.
use native.Mathlib.Omega.{arith}
use mathlib.Core.Path.{◌∙◌}
use Rattle.format.specs.Verdict.{short, unrevised, missized}
use Rattle.reader.proofs.Asking.{verdict}
use Rattle.reader.proofs.Reading.{answer_on}
use Rattle.reader.proofs.read.Goals as goal

pub returns-then-t-lt16 : goal.returns-then-t-lt16
returns-then-t-lt16 c = rw c.at.ensures (short c.if-t-lt16.true)

pub returns-then-t-ne1 : goal.returns-then-t-ne1
returns-then-t-ne1 c = rw c.at-then-t-ne1.ensures (unrevised c.if-t-lt16.false c.if-t-ne1.true)

pub returns-then-stated-t : goal.returns-then-stated-t
returns-then-stated-t c =
    rw c.at-then-stated-t.ensures
    (missized c.if-t-lt16.false c.if-t-ne1.false (λ p. (rw c.stated.ensures at c.if-stated-t.true) p.0))

pub returns-then-t-gt4096 : goal.returns-then-t-gt4096
returns-then-t-gt4096 c =
    rw c.at-then-t-gt4096.ensures
    (missized c.if-t-lt16.false c.if-t-ne1.false (λ p. omega (arith, p.0, p.1, c.if-t-gt4096.true)))

pub described-requires : goal.described-requires
described-requires c =
    (c.if-t-lt16.false, c.if-t-gt4096.false, λ i. omega (arith, c.type_inv.t i))

pub returns : goal.returns
returns c =
    verdict _ _ _ (λ i. omega (arith, c.type_inv.t i))
    (c.described.ensures
    ∙ answer_on _ _ c.if-t-lt16.false c.if-t-ne1.false (rw c.stated.ensures at c.if-stated-t.false)
    c.if-t-gt4096.false)
