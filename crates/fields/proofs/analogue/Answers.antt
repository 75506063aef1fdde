-- `fields::analogue` meets its contract, by what each call ensures of its result.
-- Assumes nothing.
use Rattle.fields.proofs.analogue.Goals as goal

pub returns : goal.returns
returns c =
    rw (
      c.placement.ensures,
      c.word.ensures,
      c.word-2.ensures,
      c.word-3.ensures,
      c.word-4.ensures,
      c.word-5.ensures,
    )
