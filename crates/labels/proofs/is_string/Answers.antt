-- `is_string` meets its contract: 0Ch, and the number behind the header.
-- Assumes nothing.
use native.Mathlib.Omega.{arith}
use Rattle.places.proofs.Roles.{role_long}
use Rattle.labels.proofs.Telling.{string_length, is_number, is_none}
use Rattle.labels.proofs.is_string.Goals as goal

pub bounds-t-at : goal.bounds-t-at
bounds-t-at c = omega (arith, role_long c.args.t.now c.args.at c.requires.0 c.requires.1.kind)

pub returns-then-t-at-ne12 : goal.returns-then-t-at-ne12
returns-then-t-at-ne12 c =
    λ x h. is_none c.args.t.now c.args.at x c.args.number h c.if-t-at-ne12.true

pub bounds-t-at-2 : goal.bounds-t-at-2
bounds-t-at-2 c =
    omega (arith, string_length c.args.t.now c.args.at c.requires.0 c.requires.1 c.if-t-at-ne12.false, c.requires.1.within)

pub returns : goal.returns
returns c =
    λ x h. is_number c.args.t.now c.args.at x c.args.number h c.if-t-at-ne12.false
