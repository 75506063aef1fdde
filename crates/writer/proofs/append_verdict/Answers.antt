-- `append_verdict` meets its contract: 1, 3, 25, 8, 9, 23, 10, 16 in that order.
-- Assumes nothing.
use native.Mathlib.Omega.{arith}
use mathlib.Core.Path.{refl}
use mathlib.Core.Path.{sym, ◌∙◌}
use borrow.Author.Tests.{not-true, not-false}
use Rattle.format.proofs.Refusals.{rule_above}
use Rattle.writer.proofs.Answering.{append_1, at_most, read_3, read_25, read_fault, read_room}
use Rattle.writer.proofs.append_verdict.Goals as goal

pub returns-then-buffer-lt16 : goal.returns-then-buffer-lt16
returns-then-buffer-lt16 c = rw c.at.ensures (append_1 _ _ _ _ c.if-buffer-lt16.true)

pub returns-then-not-n-buffer : goal.returns-then-not-n-buffer
returns-then-not-n-buffer c =
    rw c.at-then-not-n-buffer.ensures
    (read_3 _ _ _ _ c.if-buffer-lt16.false _ c.length_so_far-n.ensures.0 (not-true _ c.if-not-n-buffer.true-raw))

pub returns-then-not-element_roomy : goal.returns-then-not-element_roomy
returns-then-not-element_roomy c =
    rw c.at-then-not-element_roomy.ensures
    (read_25 _ _ _ _ c.if-buffer-lt16.false _ c.length_so_far-n.ensures.0 (not-false _ c.if-not-n-buffer.false-raw)
    (sym c.element_roomy.ensures ∙ not-true _ c.if-not-element_roomy.true-raw))

pub returns-in-Err : goal.returns-in-Err
returns-in-Err c =
    let above = rule_above c.in-Err.rule in
    rw c.at-in-Err.ensures
    (read_fault _ _ _ _ c.if-buffer-lt16.false _ c.length_so_far-n.ensures.0 (not-false _ c.if-not-n-buffer.false-raw)
    (sym c.element_roomy.ensures ∙ not-false _ c.if-not-element_roomy.false-raw) _ c.in-Err.ensures
    (λ n. omega (arith, above, n)))

pub room-requires : goal.room-requires
room-requires c =
    at_most c.args.buffer.now _ (not-false _ c.if-not-n-buffer.false-raw)

pub returns : goal.returns
returns c =
    read_room _ _ _ _ c.if-buffer-lt16.false _ c.length_so_far-n.ensures.0 (not-false _ c.if-not-n-buffer.false-raw)
    (sym c.element_roomy.ensures ∙ not-false _ c.if-not-element_roomy.false-raw) _ c.in_default.ensures
    refl _ c.room.ensures
