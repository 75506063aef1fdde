-- The bus type's test is the rule's, of each kind of address: below 3 is up to 3 and not 3.
-- Assumes nothing.
use Rattle.rules.proofs.Runs.{up_to, but_last, the_last}
use Rattle.rules.proofs.addressed.Goals as goal

pub returns-in-Bus : goal.returns-in-Bus
returns-in-Bus c =
    let bus = c.args.bus in
    rw (c.in-Bus.is, up_to bus 3) (but_last bus 3)

pub returns-in-Select : goal.returns-in-Select
returns-in-Select c =
    let bus = c.args.bus in
    rw (c.in-Select.is, up_to bus 3) (the_last bus 3)
