-- `address_byte` meets its contract: by the bus type.
-- Assumes nothing.
use borrow.Author.Tests.{eq-eqb, ne_eqb}
use mathlib.Core.Path.{refl}
use Rattle.reserved.proofs.address_byte.Goals as goal

pub returns-then-bus-eq3 : goal.returns-then-bus-eq3
returns-then-bus-eq3 c = rw (eq-eqb c.args.bus 3 c.if-bus-eq3.true) refl

pub returns-else-bus-eq3 : goal.returns-else-bus-eq3
returns-else-bus-eq3 c = rw (ne_eqb c.args.bus 3 c.if-bus-eq3.false) refl
