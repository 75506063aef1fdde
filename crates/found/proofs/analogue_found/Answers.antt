-- `analogue_found` meets its contract: the length decides whether a record is there, and the record is judged.
-- Assumes nothing.
use mathlib.Core.Path.{refl}
use Rattle.format.specs.Records.{analogue}
use Rattle.format.specs.Decode.{decode, read_analogue}
use Rattle.found.proofs.Judging.{wrong_length, right_length}
use Rattle.found.proofs.analogue_found.Goals as goal

pub returns-then-b-ne17 : goal.returns-then-b-ne17
unfolding decode
returns-then-b-ne17 c = wrong_length _ 2 _ _ analogue (read_analogue _) 17 refl c.if-b-ne17.true refl

pub returns : goal.returns
unfolding decode
returns c =
    right_length _ 2 _ _ analogue (read_analogue _) 17 refl _ c.if-b-ne17.false refl c.analogue-a.ensures
    c.analogue_breaks.ensures c.analogue_claims.ensures refl
    c.together.ensures
