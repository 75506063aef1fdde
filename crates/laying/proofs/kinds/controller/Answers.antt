-- `laying::kinds::controller` meets its contract: the address has room in its slot, the seventh.
-- Assumes nothing.
use borrow.Author.Rules.{rules}
use Rattle.format.specs.Layout.{fixed}
use Rattle.format.specs.declared.records.Element.TheVariants.{Controller}
use Rattle.laying.proofs.Laws.{roomy_at}
use Rattle.laying.proofs.kinds.controller.Goals as goal

pub put_device-requires : goal.put_device-requires
put_device-requires c =
    (roomy_at (fixed (Controller c.args.d)) 6 c.requires.slots, search rules)
