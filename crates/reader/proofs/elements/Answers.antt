-- `elements` meets its contract: where the pass stopped, or the rules over what it gathered.
-- Assumes nothing.
use mathlib.Core.Path.{refl}
use native.Mathlib.Omega.{arith}
use Rattle.format.proofs.Refusals.{rule_above}
use Rattle.reader.proofs.Reading.{at_start, walked, stopped_there, came_through}
use Rattle.reader.proofs.elements.Goals as goal

pub returns-in-Some : goal.returns-in-Some
returns-in-Some c =
    let above = rule_above c.in-Some.rule in
    let k = at_start _ _ c.from-n.result (omega arith) c.from-n.ensures refl refl c.requires.3 refl in
    let stopped = stopped_there _ _ c.args.t.now _ _ (walked _ c.args.t.now _ _ _ _ c.requires.2 k c.walk-passed.ensures.walks) in
    rw c.at.ensures (rw c.in-Some.is at stopped (λ n. omega (arith, above, n)))

pub concluded-requires : goal.concluded-requires
concluded-requires c =
    let k = at_start _ _ c.from-n.result (omega arith) c.from-n.ensures refl refl c.requires.3 refl in
    came_through _ c.args.t.now _ _ _ _ _ (walked _ c.args.t.now _ _ _ _ c.requires.2 k c.walk-passed.ensures.walks)
    (rw c.in_default.is refl) c.requires.2 c.requires.0 c.requires.1
