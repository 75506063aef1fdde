-- `bare` meets its contract: its tests are those of the definition.
-- Assumes nothing.
use lib.ListN.{length}
use borrow.Author.Tests.{eq-eqb, ne_eqb}
use Rattle.reader.proofs.bare.Goals as goal

pub returns-then-t-ne16 : goal.returns-then-t-ne16
returns-then-t-ne16 c = rw (ne_eqb (length c.args.t.now) 16 c.if-t-ne16.true)

pub returns : goal.returns
returns c =
    rw (
      eq-eqb (length c.args.t.now) 16 c.if-t-ne16.false,
      c.plain.ensures,
      c.description.ensures,
      c.stated.ensures,
    )
