-- `fan_found` meets its contract: the length decides whether a record is there, and the record is judged.
-- Assumes nothing.
use mathlib.Core.Path.{refl}
use Rattle.format.specs.Records.{fan, pump}
use Rattle.format.specs.Decode.{decode, read_fan}
use Rattle.found.proofs.Judging.{wrong_length, right_length}
use Rattle.found.proofs.fan_found.Goals as goal

pub returns-then-b-ne13 : goal.returns-then-b-ne13
unfolding decode
returns-then-b-ne13 c = (
  wrong_length _ 3 _ _ fan (read_fan _) 13 refl c.if-b-ne13.true refl,
  wrong_length _ 6 _ _ pump (read_fan _) 13 refl c.if-b-ne13.true refl,
)

pub returns : goal.returns
unfolding decode
returns c =
    let own = c.fan_breaks.ensures in
    let claims = c.fan_claims.ensures in
    let fans = c.fan_fans.ensures in (
      right_length _ 3 _ _ fan (read_fan _) 13 refl _ c.if-b-ne13.false refl c.fan-f.ensures own.0 claims fans
          c.together.ensures,
      right_length _ 6 _ _ pump (read_fan _) 13 refl _ c.if-b-ne13.false refl c.fan-f.ensures own.1 claims fans
          c.together.ensures,
    )
