-- `zone_against` meets its contract, test by test.
-- Assumes nothing.
use mathlib.Core.Path.{refl}
use borrow.Author.Tests.{lt-ltb, le-ltb}
use Rattle.pass.proofs.zone_against.Goals as goal

pub returns-then-zones-ge12 : goal.returns-then-zones-ge12
returns-then-zones-ge12 c = rw (le-ltb _ 12 c.if-zones-ge12.true) refl

pub returns-then-seen : goal.returns-then-seen
returns-then-seen c = rw (lt-ltb _ 12 c.if-zones-ge12.false, c.if-seen.true) refl

pub returns-else-seen : goal.returns-else-seen
returns-else-seen c = rw (lt-ltb _ 12 c.if-zones-ge12.false, c.if-seen.false) refl
