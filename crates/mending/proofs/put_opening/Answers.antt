-- `put_opening` meets its contract: the description of a table of 16 bytes, its length mended and its index cleared or not.
-- Assumes nothing.
use native.Mathlib.Omega.{arith}
use lib.ListN.{length-set}
use Rattle.mending.proofs.Laying.{read_roomy, opened_as_it_is, opened_cleared}
use Rattle.mending.proofs.put_opening.Goals as goal

pub put_description-requires : goal.put_description-requires
put_description-requires c =
    (c.requires.3, rw c.description.ensures (read_roomy c.args.chip c.args.t.now c.requires.1 c.requires.0 c.requires.2))

pub shape_of-out-then-cleared : goal.shape_of-out-then-cleared
shape_of-out-then-cleared c =
    omega (
      arith,
      length-set c.put_length.new.buf 4 0,
    )

pub returns-then-cleared : goal.returns-then-cleared
returns-then-cleared c =
    opened_cleared _ _ _ _ _ c.put_description.ensures
    c.put_length.ensures c.requires.3 c.args.chip c.args.t.now c.args.cleared
    c.description.ensures c.if-cleared.true

pub returns-else-cleared : goal.returns-else-cleared
returns-else-cleared c =
    opened_as_it_is _ _ _ _ _ c.put_description.ensures
    c.put_length.ensures c.requires.3 c.args.chip c.args.t.now c.args.cleared
    c.description.ensures c.if-cleared.false
