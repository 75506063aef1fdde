-- `motor_in` meets its contract: the identifier tells a fan or a pump, and byte 7 its zone.
-- Assumes nothing.
use Rattle.fans.proofs.Telling.{has_id, told, none_told}
use Rattle.fans.proofs.motor_in.Goals as goal

pub bounds-e-0 : goal.bounds-e-0
bounds-e-0 c = has_id c.args.e.now c.requires.0 c.requires.1

pub bounds-e-7 : goal.bounds-e-7
bounds-e-7 c =
    (told c.args.e.now c.requires.0 c.requires.1 c.if-id.true).0

pub returns-then-id : goal.returns-then-id
returns-then-id c =
    λ x h. (told c.args.e.now x h c.if-id.true).1 c.args.zone

pub returns : goal.returns
returns c =
    λ x h. none_told c.args.e.now x h c.if-id.false c.args.zone
