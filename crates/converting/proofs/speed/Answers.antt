-- `speed` meets its contract: by its three cases.
-- Assumes nothing.
use borrow.Author.Rules.{rules}
use Rattle.converting.specs.Conversions.Speed.{many, none, read}
use Rattle.converting.proofs.Rounding.{divided}
use Rattle.converting.proofs.speed.Goals as goal

pub returns-then-pulses-gt65535 : goal.returns-then-pulses-gt65535
returns-then-pulses-gt65535 c = many c.if-pulses-gt65535.true

pub returns-then-ppr-eq0 : goal.returns-then-ppr-eq0
returns-then-ppr-eq0 c = none c.if-pulses-gt65535.false c.if-ppr-eq0.true

pub returns : goal.returns
returns c = rw c.from.ensures (read (search rules) (divided _ (search rules)))
