-- `open` meets its contract: the description breaks a rule, or the pass begins.
-- Assumes nothing.
use mathlib.Core.Path.{ap, ◌∙◌}
use Rattle.advancing.proofs.Starting.{open_bad, open_good}
use Rattle.pass.specs.declared.State.{State}
use Rattle.advancing.proofs.open.Goals as goal

pub returns-then-fault-ne0 : goal.returns-then-fault-ne0
returns-then-fault-ne0 c =
    let b = c.broken.ensures in
    open_bad _ _ _ _ _ c.description-d.ensures (c.fault-fault.ensures ∙ c.description_breaks.ensures) c.if-fault-ne0.true b.0 b.1

pub returns : goal.returns
returns c =
    let b = c.broken-2.ensures in
    let s = b.4 in
    open_good _ _ _ _ _ c.description-d.ensures (c.fault-fault.ensures ∙ c.description_breaks.ensures) c.if-fault-ne0.false b.0 b.1 b.2
    b.3
    (ap (λ (s : State). s.count) s) (ap (λ (s : State). s.zones) s) (ap (λ (s : State). s.last) s)
    (λ k h. rw s (c.first_claims.ensures k h))
