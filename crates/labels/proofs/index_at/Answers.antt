-- `index_at` meets its contract: a zone descriptor has its string index a byte later than the others.
-- Assumes nothing.
use native.Mathlib.Omega.{arith}
use Rattle.places.proofs.Roles.{role_long, zone_long, placed_long}
use Rattle.labels.proofs.Telling.{zone_index, placed_index}
use Rattle.labels.proofs.index_at.Goals as goal

pub bounds-t-at : goal.bounds-t-at
bounds-t-at c = omega (arith, role_long c.args.t.now c.args.at c.requires.0 c.requires.1.kind)

pub bounds-t-at-then-t-at-eq11 : goal.bounds-t-at-then-t-at-eq11
bounds-t-at-then-t-at-eq11 c =
    omega (arith, zone_long c.args.t.now c.args.at c.requires.0 c.requires.1.kind c.if-t-at-eq11.true)

pub returns-then-t-at-eq11 : goal.returns-then-t-at-eq11
returns-then-t-at-eq11 c =
    λ x h n. zone_index c.args.t.now c.args.at x h c.if-t-at-eq11.true

pub bounds-t-at-2 : goal.bounds-t-at-2
bounds-t-at-2 c =
    omega (arith, placed_long c.args.t.now c.args.at c.requires.0 c.requires.1.kind c.if-t-at-eq11.false c.requires.2)

pub returns : goal.returns
returns c =
    λ x h n. placed_index c.args.t.now c.args.at x h c.if-t-at-eq11.false n
