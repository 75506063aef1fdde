-- `device` meets its contract by what is found of it.
-- Assumes nothing.
use native.Mathlib.Omega.{arith}
use mathlib.Core.Path.{refl, ◌∙◌}
use Rattle.std.specs.Prelude.{Ok, Err}
use Rattle.format.proofs.Refusals.{rule_above}
use Rattle.pass.specs.Steps.{stepped}
use Rattle.closing.proofs.Parts.{device_closes}
use Rattle.closing.proofs.device.Goals as goal

pub returns-in-Err-clause-closes : goal.returns-in-Err-clause-closes
returns-in-Err-clause-closes c =
    let b = c.broken.ensures in
    let r = c.in-Err.rule in
    let above = rule_above r in
    record {
      plain = record { low = rw b.4 c.in-Err.ensures.low; none_held = b.2; none_cut = b.3; within = omega (arith, b.1) };
      then =
          device_closes _ _ _ _ (stepped c.args.s (Err r)) _
          (record {
            none_held = b.2;
            none_cut = b.3;
            same = b.0 ∙ c.number.ensures;
            good = λ z. absurd (omega (arith, above, z));
            bad = λ _. b.1;
          }) c.requires.1.0 _ _ _ _ _ _ _ _ _ _
          c.in-Err.ensures (λ z. absurd (omega (arith, above, z)));
    }

pub returns-in-Ok-clause-closes : goal.returns-in-Ok-clause-closes
returns-in-Ok-clause-closes c =
    let b = c.broken-in-Ok.ensures in
    record {
      plain = record { low = rw b.4 c.in-Ok.ensures.low; none_held = b.2; none_cut = b.3; within = omega (arith, b.1) };
      then =
          device_closes _ _ _ _ (stepped c.args.s (Ok c.in-Ok.state)) _
          (record { none_held = b.2; none_cut = b.3; same = b.0; good = λ _. (b.1, b.4); bad = λ z. absurd (z refl) })
          c.requires.1.0 _ _ _ _ _ _ _ _ _ _
          c.in-Ok.ensures (λ _. c.name.ensures.names);
    }
