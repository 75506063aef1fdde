-- `described` meets its contract: the description's fault, or what follows it.
-- Assumes nothing.
use native.Mathlib.Omega.{arith}
use mathlib.Core.Path.{refl}
use lib.ListN.{drop}
use Rattle.format.proofs.Refusals.{rule_above}
use Rattle.reader.proofs.Reading.{misdescribed_there, good_strapped, after_elements}
use Rattle.reader.proofs.described.Goals as goal

pub returns-in-Err : goal.returns-in-Err
returns-in-Err c =
    let above = rule_above c.in-Err.rule in
    rw (c.at.ensures, ← c.description-d.ensures)
    (misdescribed_there _ _ (drop 16 c.args.t.now) _ c.in-Err.ensures (λ n. omega (arith, above, n)))

pub elements-requires : goal.elements-requires
elements-requires c =
    let p = c.requires in
    let s = good_strapped c.args.settings c.args.t.now _ _ c.description-d.ensures
    c.in_default.ensures refl in
    (p.0, p.1, p.2, rw c.description-d.ensures at (c.first_claims.ensures _ s))

pub returns : goal.returns
returns c =
    after_elements _ c.args.t.now _ _ c.description-d.ensures
    c.in_default.ensures refl _ c.elements.ensures
