-- `blocks_from` meets its contract, by whether a block has begun.
-- Assumes nothing.
use native.Mathlib.Omega.{arith}
use mathlib.Core.Path.{refl}
use Rattle.underway.proofs.blocks_from.Goals as goal

pub returns-then-u-le12 : goal.returns-then-u-le12
returns-then-u-le12 c = record { early = λ _. (refl, refl, refl); late = λ h. absurd (omega (arith, c.if-u-le12.true)); low = λ a b. omega arith }

pub returns : goal.returns
returns c = record { early = λ g. absurd (omega arith); late = λ _. (refl, refl, refl); low = λ a b. b }
