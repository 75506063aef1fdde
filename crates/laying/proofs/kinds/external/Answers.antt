-- `laying::kinds::external` meets its contract: the address has room in its slot, the seventh.
-- Assumes nothing.
use borrow.Author.Rules.{rules}
use Rattle.format.specs.Layout.{fixed}
use Rattle.format.specs.declared.records.Element.TheVariants.{External}
use Rattle.laying.proofs.Laws.{roomy_at}
use Rattle.laying.proofs.kinds.external.Goals as goal

pub put_device-requires : goal.put_device-requires
put_device-requires c =
    (roomy_at (fixed (External c.args.x)) 6 c.requires.slots, search rules)
