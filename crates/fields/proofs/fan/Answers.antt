-- `fields::fan` meets its contract, by what each call ensures of its result.
-- Assumes nothing.
use Rattle.fields.proofs.fan.Goals as goal

pub returns : goal.returns
returns c =
    rw (
      c.placement.ensures,
      c.optional.ensures,
      c.word.ensures,
      c.word-2.ensures,
    )
