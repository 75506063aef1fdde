-- `laying::description_bytes` meets its contract: the serial number and the power have room in their slots, and each pin's byte is
-- its place's.
-- Assumes nothing.
use Prim.Native.Nat.{◌/◌}
use borrow.Author.Tests.{ltb-true}
use Rattle.format.specs.Layout.{opening}
use Rattle.laying.proofs.Laws.{roomy_at}
use Rattle.laying.proofs.description_bytes.Goals as goal

pub flag_byte-power-requires : goal.flag_byte-power-requires
flag_byte-power-requires c = roomy_at (opening c.args.d 16) 8 c.requires

pub overflow_cast-result-3 : goal.overflow_cast-result-3
overflow_cast-result-3 c =
    let d = c.args.d in
    record { fits = ltb-true (d.serial / 65536) 256 (roomy_at (opening d 16) 7 c.requires) }

pub returns : goal.returns
returns c =
    rw (
      c.flag_byte-power.ensures,
      c.byte_of.ensures,
      c.byte_of-2.ensures,
      c.byte_of-3.ensures,
    )
