-- The bus pins, or those of SPI with the chip select, as the match tells.
-- Assumes nothing.
use Rattle.format.specs.declared.pins.Use.TheVariants.{ChipSelect}
use Rattle.claims.proofs.Elements.{allowed_listed, on_bus_lem, on_select}
use Rattle.claims.proofs.bus_claims.Goals as goal

pub returns-in-Bus : goal.returns-in-Bus
returns-in-Bus c = λ chip k. rw c.in-Bus.is on_bus_lem

pub returns-in-Select : goal.returns-in-Select
returns-in-Select c =
    λ chip k.
    let e = c.in-Select.is in
    rw (c.bit_of.ensures, e) (on_select _ (allowed_listed chip ChipSelect _ (rw e at k)))
