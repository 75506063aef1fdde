-- `name_all` meets its contract: some elements are noted, and the others are ahead.
-- Assumes nothing.
use mathlib.Core.Path.{refl}
use native.Mathlib.Omega.{arith}
use Rattle.naming.proofs.Named.{sofar_none, sofar_next, sofar_all}
use Rattle.naming.proofs.name_all.Goals as goal

pub loop-i-init : goal.loop-i-init
loop-i-init c = (
  omega arith,
  λ σ before gone small t e k f g. sofar_none _ _ _ _ _ _ _ _ e k f g,
  record { zones = refl; strings = refl },
)

pub name_one-i-requires : goal.name_one-i-requires
name_one-i-requires c = omega (arith, c.loop-i-test.true, c.requires)

pub overflow_add-i : goal.overflow_add-i
overflow_add-i c = omega (arith, c.name_one-i.ensures.names.most, c.loop-i.invariant.0)

pub loop-i-smaller : goal.loop-i-smaller
loop-i-smaller c = omega (arith, c.name_one-i.ensures.names.least, c.loop-i-test.true)

pub loop-i-preserved : goal.loop-i-preserved
loop-i-preserved c =
    let t = c.loop-i-test.true in (
      omega (arith, c.name_one-i.ensures.names.most, t, c.requires),
      λ σ before gone small k e w f g.
          sofar_next _ _ _ _ _ _ _ _ _ _ _ small k t c.name_one-i.ensures.names.names (c.loop-i.invariant.1 σ before gone small k e w f g),
      search (c.loop-i.invariant.2, c.name_one-i.ensures.same_places),
    )

pub returns-clause-names : goal.returns-clause-names
returns-clause-names c =
    record {
      all = λ σ before gone small t e k f g. sofar_all _ _ _ _ _ _ _ _ c.loop-i-test.false
          (c.loop-i.invariant.1 σ before gone small t e k f g);
    }
