-- `ahead` meets its contract: an element is under way, or whole ones come first.
-- Assumes nothing.
use native.Mathlib.Omega.{arith}
use mathlib.Core.Path.{refl}
use Rattle.stream.specs.Running.{going}
use Rattle.passing.proofs.Resuming.{whole_turn}
use Rattle.passing.proofs.ahead.Goals as goal

pub returns-then-under-ne0-clause-turns : goal.returns-then-under-ne0-clause-turns
returns-then-under-ne0-clause-turns c =
    let q = c.requires in
    record {
      onto = record { low = q.2; cut = q.1; within = omega arith; ends = λ _. omega (arith, q.0) };
      goes = λ d before at u head small o. record { run = going before at u; now = o; same = refl };
    }

pub front-requires : goal.front-requires
front-requires c = let q = c.requires in (
  omega
      (arith, q.0),
  q.2,
)

pub returns-clause-turns : goal.returns-clause-turns
returns-clause-turns c =
    let x = c.front.ensures.elements in
    let q = c.requires in
    record {
      onto =
          record {
            low = x.plain.low;
            cut = omega (arith, x.plain.none_cut);
            within = x.within;
            ends = λ y. omega (arith, x.here y, x.plain.none_held, x.within, q.0);
          };
      goes = λ d before at u head small o. whole_turn _ _ _ _ _ _ _ _ _ _ c.if-under-ne0.false x d before at u head small o;
    }
