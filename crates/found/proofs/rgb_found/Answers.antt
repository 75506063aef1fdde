-- `rgb_found` meets its contract: the length decides whether a record is there, and the record is judged.
-- Assumes nothing.
use mathlib.Core.Path.{refl}
use Rattle.format.specs.Records.{rgb}
use Rattle.format.specs.Decode.{decode, read_rgb}
use Rattle.found.proofs.Judging.{wrong_length, right_length}
use Rattle.found.proofs.rgb_found.Goals as goal

pub returns-then-b-ne8 : goal.returns-then-b-ne8
unfolding decode
returns-then-b-ne8 c = wrong_length _ 14 _ _ rgb (read_rgb _) 8 refl c.if-b-ne8.true refl

pub returns : goal.returns
unfolding decode
returns c =
    right_length _ 14 _ _ rgb (read_rgb _) 8 refl _ c.if-b-ne8.false refl c.rgb-c.ensures
    c.rgb_breaks.ensures c.rgb_claims.ensures c.rgb_fans.ensures
    c.together.ensures
