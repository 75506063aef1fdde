-- `names` meets its contract: the bytes at the place tell the element's role.
-- Assumes nothing.
use native.Mathlib.Omega.{arith}
use Rattle.places.proofs.Roles.{role_long, zone_long, placed_long}
use Rattle.removing.proofs.Telling.{string_names, zone_names, placed_zone, placed_string}
use Rattle.removing.proofs.names.Goals as goal

pub bounds-t-at : goal.bounds-t-at
bounds-t-at c = omega (arith, role_long c.args.t.now c.args.at c.requires.0 c.requires.1)

pub returns-then-id-eq12 : goal.returns-then-id-eq12
returns-then-id-eq12 c =
    λ x h. string_names c.args.t.now c.args.at c.args.zone c.args.number x h c.if-id-eq12.true

pub overflow_add-result : goal.overflow_add-result
overflow_add-result c =
    omega (arith, zone_long c.args.t.now c.args.at c.requires.0 c.requires.1 c.if-id-eq11.true)

pub bounds-t-at-then-id-eq11 : goal.bounds-t-at-then-id-eq11
bounds-t-at-then-id-eq11 c =
    omega (arith, zone_long c.args.t.now c.args.at c.requires.0 c.requires.1 c.if-id-eq11.true)

pub returns-then-id-eq11 : goal.returns-then-id-eq11
returns-then-id-eq11 c =
    λ x h. zone_names c.args.t.now c.args.at c.args.zone c.args.number x h c.if-id-eq11.true

pub overflow_add-result-then-zone : goal.overflow_add-result-then-zone
overflow_add-result-then-zone c =
    omega (arith, placed_long c.args.t.now c.args.at c.requires.0 c.requires.1 c.if-id-eq11.false c.if-id-eq12.false)

pub bounds-t-at-then-zone : goal.bounds-t-at-then-zone
bounds-t-at-then-zone c =
    omega (arith, placed_long c.args.t.now c.args.at c.requires.0 c.requires.1 c.if-id-eq11.false c.if-id-eq12.false)

pub returns-then-zone : goal.returns-then-zone
returns-then-zone c =
    λ x h.
    placed_zone c.args.t.now c.args.at c.args.number x h c.if-id-eq11.false c.if-id-eq12.false c.if-zone.true

pub overflow_add-result-2 : goal.overflow_add-result-2
overflow_add-result-2 c =
    omega (arith, placed_long c.args.t.now c.args.at c.requires.0 c.requires.1 c.if-id-eq11.false c.if-id-eq12.false)

pub bounds-t-at-2 : goal.bounds-t-at-2
bounds-t-at-2 c =
    omega (arith, placed_long c.args.t.now c.args.at c.requires.0 c.requires.1 c.if-id-eq11.false c.if-id-eq12.false)

pub returns : goal.returns
returns c =
    λ x h.
    placed_string c.args.t.now c.args.at c.args.number x h c.if-id-eq11.false c.if-id-eq12.false c.if-zone.false
