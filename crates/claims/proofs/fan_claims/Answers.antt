-- The two pins rise, and so they are distinct.
-- Assumes nothing.
use mathlib.Core.Bool.{◌&&◌}
use mathlib.Core.List.{◌∷◌}
use Rattle.format.specs.Pins.{allowed, allowed_or_unused}
use Rattle.format.specs.Rules.{rises}
use Rattle.format.specs.declared.pins.Use.TheVariants.{FanPin}
use Rattle.pinsets.proofs.Table.{and_left, and_right}
use Rattle.claims.specs.Taken.{used_pin}
use Rattle.claims.proofs.Tests.{both}
use Rattle.claims.proofs.Sets.{one_pin, union}
use Rattle.claims.proofs.Elements.{allowed_pin, or_unused, used_within, two_distinct}
use Rattle.claims.proofs.Lone.{claims_alone, lone_used}
use Rattle.claims.proofs.fan_claims.Goals as goal

pub returns : goal.returns
returns c =
    λ chip k.
    let p = c.args.f.pwm in
    let t = c.args.f.tachometer in
    let a = allowed chip FanPin p in
    let o = allowed_or_unused chip FanPin t in
    let m = and_right a (o && rises p t) k in
    let e = allowed_pin chip FanPin p (and_left a (o && rises p t) k) in
    let u = or_unused chip FanPin t (and_left o (rises p t) m) in
    rw c.bit_of.ensures
    (rw (lone_used t) at
    (claims_alone
    _
    0
    (p.0 ∷ used_pin t)
    (union (one_pin p.0 e) (c.used_bit.ensures u))
    (both _ _ e (used_within t u))
    (two_distinct p t (and_right o (rises p t) m))))
