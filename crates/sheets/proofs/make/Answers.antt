-- `make` meets its contract: the sheet of the one list, or the refusal and the old sheet.
-- Assumes nothing.
use mathlib.Core.Path.{refl}
use native.Mathlib.Omega.{arith}
use Rattle.pinsheet.specs.Sheet.{sheet}
use Rattle.format.proofs.Refusals.{handed}
use Rattle.sheets.proofs.Only.{leaves, keeps}
use Rattle.sheets.proofs.make.Goals as goal

pub returns-in_err-count : goal.returns-in_err-count
returns-in_err-count c =
    rw (handed _ _ c.from_residual.ensures.1) (keeps _ _ sheet c.args.sheet.now _ c.in_err-count.ensures refl)

pub fill-requires : goal.fill-requires
fill-requires c =
    (_, c.in_ok-count.ensures)

pub returns : goal.returns
returns c =
    leaves _ _ sheet c.args.sheet.now _ _ (λ i. omega (arith, c.type_inv.table i))
    c.in_ok-count.ensures c.fill.ensures
