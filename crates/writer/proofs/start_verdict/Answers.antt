-- `start_verdict` meets its contract: 1, 25, 4, 5, 10 in that order.
-- Assumes nothing.
use native.Mathlib.Omega.{arith}
use mathlib.Core.Path.{refl}
use mathlib.Core.Path.{sym, ◌∙◌}
use borrow.Author.Tests.{not-true, not-false}
use Rattle.format.proofs.Refusals.{rule_above}
use Rattle.writer.proofs.Answering.{start_1, start_25, start_fault, start_16}
use Rattle.writer.proofs.start_verdict.Goals as goal

pub returns-then-buffer-lt16 : goal.returns-then-buffer-lt16
returns-then-buffer-lt16 c = rw c.at.ensures (start_1 _ _ _ c.if-buffer-lt16.true)

pub returns-then-not-description_roomy : goal.returns-then-not-description_roomy
returns-then-not-description_roomy c =
    rw c.at-then-not-description_roomy.ensures
    (start_25 _ _ _ c.if-buffer-lt16.false (sym c.description_roomy.ensures ∙ not-true _ c.if-not-description_roomy.true-raw))

pub returns-in-Err : goal.returns-in-Err
returns-in-Err c =
    let above = rule_above c.in-Err.rule in
    rw c.at-in-Err.ensures
    (start_fault _ _ _ c.if-buffer-lt16.false (sym c.description_roomy.ensures ∙ not-false _ c.if-not-description_roomy.false-raw) _
    c.in-Err.ensures (λ n. omega (arith, above, n)))

pub returns : goal.returns
returns c =
    start_16 _ _ _ c.if-buffer-lt16.false (sym c.description_roomy.ensures ∙ not-false _ c.if-not-description_roomy.false-raw) _
    c.in_default.ensures refl
