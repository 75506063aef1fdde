-- `zone_marked` meets its contract: the bytes at the place tell the element's role.
-- Assumes nothing.
use native.Mathlib.Omega.{arith}
use mathlib.Core.Logic.{inl, inr}
use Rattle.places.proofs.Roles.{role_long, placed_long, zone_none, zone_read}
use Rattle.places.proofs.zone_marked.Goals as goal

pub bounds-t-at : goal.bounds-t-at
bounds-t-at c = omega (
  arith,
  role_long c.args.t.now c.args.at
      c.requires.0 c.requires.1,
)

pub returns-then-id-eq11 : goal.returns-then-id-eq11
returns-then-id-eq11 c = λ x ns h m. zone_none c.args.t.now c.args.at _ x ns h m
    (inl c.if-id-eq11.true)

pub returns-then-id-eq12 : goal.returns-then-id-eq12
returns-then-id-eq12 c = λ x ns h m. zone_none c.args.t.now
    c.args.at _ x ns h m (inr c.if-id-eq12.true)

pub overflow_add-at : goal.overflow_add-at
overflow_add-at c = omega (
  arith,
  placed_long c.args.t.now c.args.at
      c.requires.0 c.requires.1 c.if-id-eq11.false c.if-id-eq12.false,
)

pub bounds-t-at-2 : goal.bounds-t-at-2
bounds-t-at-2 c = omega (
  arith,
  placed_long c.args.t.now
      c.args.at c.requires.0
      c.requires.1 c.if-id-eq11.false c.if-id-eq12.false,
)

pub returns : goal.returns
returns c = λ x ns h m. zone_read c.args.t.now
    c.args.at _ x ns h m c.from-z.result
    c.from-z.ensures (omega arith) c.if-id-eq11.false
    c.if-id-eq12.false
