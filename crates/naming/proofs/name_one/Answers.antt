-- `name_one` meets its contract: the element is not all there, or it is named.
-- Assumes nothing.
use native.Mathlib.Omega.{arith}
use Rattle.pass.proofs.Moving.{content_at}
use Rattle.naming.proofs.name_one.Goals as goal

pub returns-then-p-to-clause-names : goal.returns-then-p-to-clause-names
returns-then-p-to-clause-names c =
    let l = c.length_at-len.ensures in
    record { least = l.least; most = l.most; names = λ a b. absurd (omega (arith, l.told a, b, c.if-p-to.true)) }

pub returns-clause-names : goal.returns-clause-names
returns-clause-names c =
    let l = c.length_at-len.ensures in
    record {
      least = l.least;
      most = l.most;
      names = λ a b. (l.told a, rw (content_at _ _ (l.told a) l.least) at c.name.ensures.names);
    }
