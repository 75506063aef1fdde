-- `name` meets its contract, by the identifier.
-- Assumes nothing.
use native.Mathlib.Omega.{arith}
use mathlib.Core.Path.{refl}
use Rattle.naming.proofs.name.Goals as goal

pub returns-then-id-eq12-clause-names : goal.returns-then-id-eq12-clause-names
returns-then-id-eq12-clause-names c =
    record {
      text = λ _. (refl, refl);
      zoning = λ e. absurd (omega (arith, e, c.if-id-eq12.true));
      placed = λ _ n. absurd (n c.if-id-eq12.true);
    }

pub returns-then-id-eq11-clause-names : goal.returns-then-id-eq11-clause-names
returns-then-id-eq11-clause-names c =
    let i = c.if-id-eq11.true in
    record {
      text = λ e. absurd (omega (arith, e, i));
      zoning = λ _. (refl, rw (← c.byte_at.ensures) c.note.ensures);
      placed = λ n _. absurd (n i);
    }

pub returns-clause-names : goal.returns-clause-names
returns-clause-names c =
    record {
      text = λ e. absurd (c.if-id-eq12.false e);
      zoning = λ e. absurd (c.if-id-eq11.false e);
      placed =
          λ _ _. (
            rw (← c.byte_at-2.ensures) c.note-2.ensures,
            rw (← c.byte_at-3.ensures) c.note-3.ensures,
          );
    }
