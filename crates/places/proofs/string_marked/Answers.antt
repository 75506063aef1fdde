-- `string_marked` meets its contract: the bytes at the place tell the element's role.
-- Assumes nothing.
use native.Mathlib.Omega.{arith}
use Rattle.places.proofs.Roles.{role_long, placed_long, zone_long, string_none, string_of_zone, string_read}
use Rattle.places.proofs.string_marked.Goals as goal

pub bounds-t-at : goal.bounds-t-at
bounds-t-at c = omega (
  arith,
  role_long c.args.t.now c.args.at
      c.requires.0 c.requires.1,
)

pub returns-then-id-eq12 : goal.returns-then-id-eq12
returns-then-id-eq12 c = λ x ns h m. string_none c.args.t.now c.args.at _ x ns h m
    c.if-id-eq12.true

pub overflow_add-at : goal.overflow_add-at
overflow_add-at c = omega (
  arith,
  zone_long c.args.t.now c.args.at
      c.requires.0 c.requires.1 c.if-id-eq11.true,
)

pub bounds-t-at-then-id-eq11 : goal.bounds-t-at-then-id-eq11
bounds-t-at-then-id-eq11 c = omega (
  arith,
  zone_long c.args.t.now
      c.args.at c.requires.0
      c.requires.1 c.if-id-eq11.true,
)

pub returns-then-id-eq11 : goal.returns-then-id-eq11
returns-then-id-eq11 c = λ x ns h m. string_of_zone c.args.t.now
    c.args.at _ x ns h m c.from-s.result
    c.from-s.ensures (omega arith) c.if-id-eq11.true

pub overflow_add-at-2 : goal.overflow_add-at-2
overflow_add-at-2 c = omega (
  arith,
  role_long c.args.t.now c.args.at
      c.requires.0 c.requires.1,
)

pub bounds-t-at-2 : goal.bounds-t-at-2
bounds-t-at-2 c = omega (
  arith,
  placed_long c.args.t.now
      c.args.at c.requires.0
      c.requires.1 c.if-id-eq11.false c.if-id-eq12.false,
)

pub returns : goal.returns
returns c = λ x ns h m. string_read c.args.t.now
    c.args.at _ x ns h m c.from-s-2.result
    c.from-s-2.ensures (omega arith) c.if-id-eq11.false
    c.if-id-eq12.false
