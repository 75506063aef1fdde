-- `laying::kinds::put_device` meets its contract: the address's byte is its slot's, and the kind's own bytes are laid beside the device.
-- Assumes nothing.
use native.Mathlib.Omega.{arith}
use Rattle.format.specs.Slots.{written}
use Rattle.format.specs.Layout.{fixed}
use Rattle.format.specs.declared.records.Element.TheVariants.{Controller}
use Rattle.laying.proofs.Laws.{overwritten_next}
use Rattle.laying.proofs.kinds.put_device.Goals as goal

pub returns : goal.returns
returns c =
    let a = c.args in
    rw (c.copy_into.ensures, c.put_placed.ensures, c.address_byte-place.ensures)
    (overwritten_next a.at (written (fixed (Controller a.d))) a.buf.now (omega arith) a.own.now)
