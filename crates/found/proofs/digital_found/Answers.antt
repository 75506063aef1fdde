-- `digital_found` meets its contract: the length decides whether a record is there, and the record is judged.
-- Assumes nothing.
use mathlib.Core.Path.{refl}
use Rattle.format.specs.Records.{digital}
use Rattle.format.specs.Decode.{decode, read_digital}
use Rattle.found.proofs.Judging.{wrong_length, right_length}
use Rattle.found.proofs.digital_found.Goals as goal

pub returns-then-b-ne18 : goal.returns-then-b-ne18
unfolding decode
returns-then-b-ne18 c = wrong_length _ 1 _ _ digital (read_digital _) 18 refl c.if-b-ne18.true refl

pub returns : goal.returns
unfolding decode
returns c =
    right_length _ 1 _ _ digital (read_digital _) 18 refl _ c.if-b-ne18.false refl c.digital-d.ensures
    c.digital_breaks.ensures c.bus_claims.ensures refl
    c.together.ensures
