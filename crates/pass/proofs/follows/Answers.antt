-- `follows` meets its contract, by whether there is any pin.
-- Assumes nothing.
use Rattle.pass.proofs.Following.{in_order_lem}
use Rattle.pass.proofs.follows.Goals as goal

pub returns-in-None : goal.returns-in-None
returns-in-None c = λ ps h. let a = c.args in rw c.in-None.is at (in_order_lem a.fans a.last ps h)

pub returns-in-Some : goal.returns-in-Some
returns-in-Some c = λ ps h. let a = c.args in rw c.from.ensures (rw c.in-Some.is at (in_order_lem a.fans a.last ps h))
