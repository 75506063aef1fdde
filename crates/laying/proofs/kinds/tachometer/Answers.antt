-- `laying::kinds::tachometer` meets its contract: the address has room in its slot, the seventh.
-- Assumes nothing.
use borrow.Author.Rules.{rules}
use Rattle.format.specs.Layout.{fixed}
use Rattle.format.specs.declared.records.Element.TheVariants.{Tachometer}
use Rattle.laying.proofs.Laws.{roomy_at}
use Rattle.laying.proofs.kinds.tachometer.Goals as goal

pub put_device-requires : goal.put_device-requires
put_device-requires c =
    (roomy_at (fixed (Tachometer c.args.d)) 6 c.requires.slots, search rules)
