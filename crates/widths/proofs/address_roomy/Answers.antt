-- `address_roomy` meets its contract, by the kind of the address; a pin fits by its type.
-- Assumes nothing.
use native.Mathlib.Omega.{arith}
use lib.Dec.{ltb}
use Rattle.widths.proofs.Roomy.{bus_roomy, select_roomy}
use Rattle.widths.proofs.address_roomy.Goals as goal

pub returns-in-Bus : goal.returns-in-Bus
returns-in-Bus c = rw c.in-Bus.is (bus_roomy (ltb c.args.bus 16) (ltb c.in-Bus.n 128))

pub returns-in-Select : goal.returns-in-Select
returns-in-Select c =
    let g = rw c.in-Select.is at c.well_formed in
    rw c.in-Select.is (select_roomy (ltb c.args.bus 16) c.in-Select.field-0.0 (omega arith))
