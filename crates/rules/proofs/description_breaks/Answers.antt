-- The first of the description's rules that is broken, test by test.
-- Assumes nothing.
use mathlib.Core.Path.{refl}
use Rattle.format.specs.Rules.{description_rules}
use Rattle.rules.proofs.Numbering.{three_numbered}
use Rattle.rules.proofs.description_breaks.Goals as goal

pub returns : goal.returns
unfolding description_rules
returns c =
    rw (
      c.and-2.ensures,
      c.and.ensures,
      c.keep-3.ensures,
      c.keep-2.ensures,
      c.keep.ensures,
      three_numbered c.typed.result c.powered.result c.strapped.result,
      c.strapped.ensures,
      c.powered.ensures,
      c.typed.ensures,
    )
    refl
