-- `voltage_found` meets its contract: the length decides whether a record is there, and the record is judged.
-- Assumes nothing.
use mathlib.Core.Path.{refl}
use Rattle.format.specs.Records.{voltage}
use Rattle.format.specs.Decode.{decode, read_voltage}
use Rattle.found.proofs.Judging.{wrong_length, right_length}
use Rattle.found.proofs.voltage_found.Goals as goal

pub returns-then-b-ne8 : goal.returns-then-b-ne8
unfolding decode
returns-then-b-ne8 c = wrong_length _ 7 _ _ voltage (read_voltage _) 8 refl c.if-b-ne8.true refl

pub returns : goal.returns
unfolding decode
returns c =
    right_length _ 7 _ _ voltage (read_voltage _) 8 refl _ c.if-b-ne8.false refl c.voltage-v.ensures
    c.voltage_breaks.ensures c.analogue_claims.ensures refl
    c.together.ensures
