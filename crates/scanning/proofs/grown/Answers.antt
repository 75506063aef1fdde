-- `grown` meets its contract: a rule has no number 0.
-- Assumes nothing.
use native.Mathlib.Omega.{arith}
use mathlib.Core.Path.{refl}
use Rattle.format.proofs.Refusals.{rule_above}
use Rattle.scanning.proofs.grown.Goals as goal

pub returns-in-None : goal.returns-in-None
returns-in-None c = rw c.in-None.is (λ _. refl, λ n. absurd (n refl), omega arith)

pub returns-in-Some : goal.returns-in-Some
returns-in-Some c =
    rw c.in-Some.is (λ n. let above = rule_above c.in-Some.field-0 in absurd (omega (arith, above, n)), λ _. refl, omega arith)
