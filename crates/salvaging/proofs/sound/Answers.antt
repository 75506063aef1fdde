-- `sound` meets its contract: one question after another.
-- Assumes nothing.
use native.Mathlib.Omega.{arith}
use mathlib.Core.Path.{refl}
use Rattle.format.proofs.Refusals.{rule_above}
use Rattle.salvaging.proofs.Salvaging.{too_short, unrevised, misdescribed, by_claims, bad_number, good_number, held_first}
use Rattle.salvaging.proofs.sound.Goals as goal

pub returns-then-t-lt16 : goal.returns-then-t-lt16
returns-then-t-lt16 c =
    too_short c.args.chip c.args.t.now c.if-t-lt16.true

pub returns-then-t-ne1 : goal.returns-then-t-ne1
returns-then-t-ne1 c =
    unrevised c.args.chip c.args.t.now c.if-t-lt16.false c.if-t-ne1.true

pub returns-in-Err : goal.returns-in-Err
returns-in-Err c =
    let above = rule_above c.in-Err.field-0 in
    misdescribed c.args.chip c.args.t.now c.if-t-lt16.false
    c.if-t-ne1.false
    (bad_number c.args.chip c.args.t.now _ c.description-d.ensures _ c.in-Err.ensures (λ n. omega (arith, above, n)))

pub returns : goal.returns
returns c =
    let d = c.description-d.ensures in
    let good = good_number c.args.chip c.args.t.now _ d _ c.in_default.ensures refl in
    by_claims c.args.chip c.args.t.now _ c.if-t-lt16.false
    c.if-t-ne1.false good
    (held_first c.args.chip c.args.t.now _ _ d good c.first_claims-held.ensures)
