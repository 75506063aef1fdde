-- Nothing that stops a step has the number 0: no rule, and no number that is not 0.
-- Assumes nothing.
use Rattle.std.specs.Prelude.{ℕ, ◌≡◌, ◌<◌}
use Rattle.std.proofs.Common.{arith}
use Rattle.format.specs.Answers.{rule_number}
use Rattle.format.specs.declared.answers.Rule.{Rule}
use Rattle.format.proofs.Refusals.{rule_above}

pub above_zero : {n : ℕ} → 0 < n → n ≡ 0 → ⊥
above_zero above e = omega (arith, above, e)

pub a_rule : (r : Rule) → rule_number r ≡ 0 → ⊥
a_rule r = above_zero (rule_above r)
