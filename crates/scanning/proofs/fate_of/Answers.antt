-- `fate_of` meets its contract: a rule has no number 0.
-- Assumes nothing.
use native.Mathlib.Omega.{arith}
use mathlib.Core.Path.{refl}
use Rattle.format.proofs.Refusals.{rule_above}
use Rattle.scanning.proofs.fate_of.Goals as goal

pub returns-in-None : goal.returns-in-None
returns-in-None c = rw c.in-None.is (record { good = λ _. refl; bad = λ n. absurd (n refl) })

pub returns-in-Some : goal.returns-in-Some
returns-in-Some c =
    let above = rule_above c.in-Some.rule in
    rw (c.in-Some.is, c.number.ensures) (record { good = λ n. absurd (omega (arith, above, n)); bad = λ _. (c.in-Some.rule, refl, refl) })
