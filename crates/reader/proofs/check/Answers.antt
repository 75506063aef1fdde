-- `check` meets its contract: a bare table breaks no rule, and of any other `read` gives the verdict.
-- Assumes nothing.
use native.Mathlib.Omega.{arith}
use mathlib.Core.Path.{sym, ◌∙◌}
use Rattle.reader.proofs.Accepting.{bare_accepted}
use Rattle.reader.proofs.Asking.{verdict}
use Rattle.reader.proofs.check.Goals as goal

pub returns-then-bare : goal.returns-then-bare
returns-then-bare c =
    verdict _ _ _ (λ i. omega (arith, c.type_inv.table i))
    (bare_accepted _ _ (sym c.bare.ensures ∙ c.if-bare.true))

pub returns : goal.returns
returns c = c.read.ensures
