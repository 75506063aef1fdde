-- `plain` meets its contract: its tests are those of the definition, by what each call ensures.
-- Assumes nothing.
use Rattle.reader.proofs.plain.Goals as goal

pub returns : goal.returns
returns c =
    rw (
      c.typed.ensures,
      c.powered.ensures,
      c.unused.ensures,
      c.unused-2.ensures,
      c.unused-3.ensures,
    )
