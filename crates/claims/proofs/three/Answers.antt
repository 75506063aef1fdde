-- Sets of one pin each, or none: their union, and what two of them have in common.
-- Assumes nothing.
use mathlib.Core.Bool.{◌&&◌}
use Rattle.claims.specs.Taken.{on_pin}
use Rattle.pinsets.proofs.Table.{and_left, and_right}
use Rattle.claims.proofs.Elements.{used_within}
use Rattle.claims.proofs.Lone.{claims_three}
use Rattle.claims.proofs.three.Goals as goal

pub returns : goal.returns
returns c =
    λ k.
    let p = c.args.p in
    let q = c.args.q in
    let r = c.args.r in
    let x = on_pin p in
    let y = on_pin q in
    let z = on_pin r in
    let kp = and_left x (y && z) k in
    let kq = and_left y z (and_right x (y && z) k) in
    let kr = and_right y z (and_right x (y && z) k) in
    claims_three
    p
    q
    r
    (c.used_bit-a.ensures kp)
    (c.used_bit-b.ensures kq)
    (c.used_bit-c.ensures kr)
    (used_within p kp)
    (used_within q kq)
    (used_within r kr)
