-- The first rule broken, test by test: the one place that names the rules of a record alone.
-- Assumes nothing.
use mathlib.Core.Path.{refl}
use Rattle.format.specs.Rules.{own_rules}
use Rattle.rules.proofs.Numbering.{four_numbered}
use Rattle.rules.proofs.own_breaks.Goals as goal

pub returns : goal.returns
unfolding own_rules
returns c =
    let a = c.args in
    λ t x s d u p.
    rw (
      c.and-3.ensures,
      c.and-2.ensures,
      c.and.ensures,
      c.keep-4.ensures,
      c.keep-3.ensures,
      c.keep-2.ensures,
      c.keep.ensures,
      four_numbered a.shape a.codes a.used a.pins,
      s,
      d,
      u,
      p,
    )
    refl
