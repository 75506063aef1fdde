-- A number that has reached the limit is not below it.
use Rattle.std.proofs.Common.{rules}
use Rattle.options.proofs.Digits.{too_large}
use Rattle.options.proofs.numerals.below.Goals as goal

pub returns-then-limit-n : goal.returns-then-limit-n
returns-then-limit-n c =
    too_large _ _ _ _ c.loop-b.invariant c.loop-b-test.true (search rules) c.if-limit-n.true
