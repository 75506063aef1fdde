-- `fixed` meets its contract: it is taken, or it is what stops the pass.
-- Assumes nothing.
use native.Mathlib.Omega.{arith}
use mathlib.Core.Path.{sym, ap, ◌∙◌}
use Rattle.format.proofs.Refusals.{rule_above}
use Rattle.pass.specs.Steps.{stop_number}
use Rattle.closing.proofs.Pieces.{fixed_breaks, fixed_taken}
use Rattle.closing.proofs.fixed.Goals as goal

pub returns-in-Some-clause-closes : goal.returns-in-Some-clause-closes
returns-in-Some-clause-closes c =
    let w = c.walk-r in
    let b = c.broken.ensures in
    let above = rule_above c.in-Some.rule in
    let stops = ap stop_number c.in-Some.is in
    record {
      plain = record { low = rw b.4 w.ensures.walks.low; none_held = b.2; none_cut = b.3; within = omega (arith, b.1) };
      then =
          λ d before head size small whole e k.
          fixed_breaks _ _ _ _ _ _ _ _ _ w.ensures.walks d before small e k whole
          (λ n. omega (arith, above, stops, n)) _ head _ _ (b.0 ∙ c.number.ensures ∙ sym stops) b.1;
    }

pub overflow_sub-r : goal.overflow_sub-r
overflow_sub-r c = c.walk-r.ensures.walks.from

pub name_all-requires : goal.name_all-requires
name_all-requires c =
    omega (arith, c.walk-r.ensures.walks.from, c.walk-r.ensures.walks.to, c.requires.0)

pub returns-clause-closes : goal.returns-clause-closes
returns-clause-closes c =
    let w = c.walk-r in
    let b = c.broken-2.ensures in
    record {
      plain = record { low = rw b.4 w.ensures.walks.low; none_held = b.2; none_cut = b.3; within = omega (arith, b.1, w.ensures.walks.to) };
      then =
          λ d before head size small whole e k.
          fixed_taken _ _ _ _ _ _ _ _ _ w.ensures.walks d before small e k whole (ap stop_number c.in_default.is) _ head _ _ size b.0 b.1 b.2 b.3
          b.4 c.name_all.ensures.names;
    }
