-- `water_found` meets its contract: the length decides whether a record is there, and the record is judged.
-- Assumes nothing.
use mathlib.Core.Path.{refl}
use Rattle.format.specs.Records.{water}
use Rattle.format.specs.Decode.{decode, read_water}
use Rattle.found.proofs.Judging.{wrong_length, right_length}
use Rattle.found.proofs.water_found.Goals as goal

pub returns-then-b-ne12 : goal.returns-then-b-ne12
unfolding decode
returns-then-b-ne12 c = wrong_length _ 5 _ _ water (read_water _) 12 refl c.if-b-ne12.true refl

pub returns : goal.returns
unfolding decode
returns c =
    right_length _ 5 _ _ water (read_water _) 12 refl _ c.if-b-ne12.false refl c.water-w.ensures
    c.water_breaks.ensures c.analogue_claims.ensures refl
    c.together.ensures
