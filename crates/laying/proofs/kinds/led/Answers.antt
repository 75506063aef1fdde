-- `laying::kinds::led` meets its contract: each pin's byte is its place's, each colour and purpose has room in its slot, and their
-- byte is that slot's.
-- Assumes nothing.
use Rattle.format.specs.Layout.{fixed}
use Rattle.format.specs.declared.records.Element.TheVariants.{Led}
use Rattle.laying.proofs.Laws.{roomy_at}
use Rattle.laying.proofs.kinds.led.Goals as goal

pub colour_byte-requires : goal.colour_byte-requires
colour_byte-requires c =
    roomy_at (fixed (Led c.args.l)) 6 c.requires.slots

pub colour_byte-requires-2 : goal.colour_byte-requires-2
colour_byte-requires-2 c =
    roomy_at (fixed (Led c.args.l)) 8 c.requires.slots

pub colour_byte-requires-3 : goal.colour_byte-requires-3
colour_byte-requires-3 c =
    roomy_at (fixed (Led c.args.l)) 10 c.requires.slots

pub returns : goal.returns
returns c =
    rw (
      c.put_placed.ensures,
      c.byte_of.ensures,
      c.colour_byte.ensures,
      c.byte_of-2.ensures,
      c.colour_byte-2.ensures,
      c.byte_of-3.ensures,
      c.colour_byte-3.ensures,
    )
