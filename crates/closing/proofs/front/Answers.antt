-- `front` meets its contract: no whole element begins the bytes, or the walk goes over them.
-- Assumes nothing.
use native.Mathlib.Omega.{arith}
use mathlib.Core.Path.{refl, sym, ◌∙◌}
use Rattle.closing.proofs.Pieces.{front_none}
use Rattle.closing.proofs.front.Goals as goal

pub returns-then-waits-clause-elements : goal.returns-then-waits-clause-elements
returns-then-waits-clause-elements c =
    let b = c.broken.ensures in
    record {
      plain = record {
        low = rw b.4 c.requires.1;
        none_held = b.2;
        none_cut = b.3;
        within = omega
            (arith, b.1);
      };
      within = omega arith;
      here = λ _. omega (arith, b.1);
      goes = λ _ d before small e g. front_none _ _ _ _ _ _ _ d before _ (sym c.waits.ensures ∙ c.if-waits.true) e g refl b.1
          b.4;
      breaks = λ z. absurd (z b.0);
    }

pub returns-clause-elements : goal.returns-clause-elements
returns-clause-elements c = c.whole.ensures.elements
