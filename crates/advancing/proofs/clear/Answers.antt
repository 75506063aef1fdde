-- `clear` meets its contract: all is clear but for one number, or all is as it was.
-- Assumes nothing.
use native.Mathlib.Omega.{arith}
use mathlib.Core.Path.{refl, sym, ◌∙◌}
use mathlib.Core.Bool.{false≢true}
use borrow.Author.Tests.{not-true, not-false}
use Rattle.advancing.proofs.clear.Goals as goal

pub returns-then-not-fresh-clause-clears : goal.returns-then-not-fresh-clause-clears
returns-then-not-fresh-clause-clears c = record { first = λ z. absurd (false≢true (sym (not-true _ c.if-not-fresh.true-raw) ∙ z)); later = λ _. (refl, refl, refl) }

pub returns-clause-clears : goal.returns-clause-clears
returns-clause-clears c =
    record {
      first = λ _. record { all = rw c.from-n.ensures refl; zone_first = refl; string_first = refl; low = omega (arith, c.from-n.ensures) };
      later = λ z. absurd (false≢true (sym z ∙ not-false _ c.if-not-fresh.false-raw));
    }
