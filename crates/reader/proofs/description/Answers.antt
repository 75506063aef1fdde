-- `description` meets its contract: the fields of the one list, or the table's refusal.
-- Assumes nothing.
use native.Mathlib.Omega.{arith}
use Rattle.format.specs.Asked.{undescribed}
use Rattle.reader.proofs.Asking.{long, describes}
use Rattle.reader.proofs.description.Goals as goal

pub returns-in_default : goal.returns-in_default
returns-in_default c = undescribed (rw c.unwrap_err.ensures at c.read-answer.ensures)

pub description-requires : goal.description-requires
description-requires c = omega (arith, long _ _ (rw c.in-Ok.is at c.read-answer.ensures))

pub returns : goal.returns
returns c = describes _ _ _ (rw c.in-Ok.is at c.read-answer.ensures) c.description.ensures
