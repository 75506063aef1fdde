-- `current_found` meets its contract: the length decides whether a record is there, and the record is judged.
-- Assumes nothing.
use mathlib.Core.Path.{refl}
use Rattle.format.specs.Records.{current}
use Rattle.format.specs.Decode.{decode, read_current}
use Rattle.found.proofs.Judging.{wrong_length, right_length}
use Rattle.found.proofs.current_found.Goals as goal

pub returns-then-b-ne11 : goal.returns-then-b-ne11
unfolding decode
returns-then-b-ne11 c = wrong_length _ 8 _ _ current (read_current _) 11 refl c.if-b-ne11.true refl

pub returns : goal.returns
unfolding decode
returns c =
    right_length _ 8 _ _ current (read_current _) 11 refl _ c.if-b-ne11.false refl c.current-c.ensures
    c.current_breaks.ensures c.analogue_claims.ensures refl
    c.together.ensures
