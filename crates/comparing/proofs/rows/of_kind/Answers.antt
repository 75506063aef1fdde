-- `of_kind` meets its contract: the constant's columns are the lists of the definitions.
-- Assumes nothing.
use mathlib.Core.Path.{refl}
use Rattle.comparing.specs.declared.rows.OfKind.{OfKind}
use Rattle.comparing.specs.Rows.{firsts, counts, placeds}
use Rattle.comparing.proofs.Naming.{column}
use Rattle.comparing.proofs.rows.of_kind.Goals as goal

pub returns : goal.returns
unfolding firsts counts placeds
returns c =
    let h = c.requires in (
      rw (column (λ (r : OfKind). r.0) _ refl _ h _) refl,
      rw (column (λ (r : OfKind). r.1) _ refl _ h _) refl,
      rw (column (λ (r : OfKind). r.2) _ refl _ h _) refl,
    )
