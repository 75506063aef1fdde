-- `laying::kinds::digital` meets its contract: the address has room in its slot, the seventh, and the numbers fit by their types.
-- Assumes nothing.
use native.Mathlib.Omega.{arith}
use Rattle.format.specs.Layout.{fixed}
use Rattle.format.specs.declared.records.Element.TheVariants.{Digital}
use Rattle.laying.proofs.Laws.{roomy_at}
use Rattle.laying.proofs.kinds.digital.Goals as goal

pub overflow_cast-own-8 : goal.overflow_cast-own-8
overflow_cast-own-8 c = record { fits = omega (arith, c.struct_known-8-1.given) }

pub put_device-requires : goal.put_device-requires
put_device-requires c =
    (roomy_at (fixed (Digital c.args.d)) 6 c.requires.slots, omega (arith, c.requires.inside))
