-- `forward` meets its contract: the old sheet with the last element of the one list, or the refusal and the old sheet.
-- Assumes nothing.
use mathlib.Core.Path.{refl}
use native.Mathlib.Omega.{arith}
use Rattle.pinsheet.specs.Sheet.{forward}
use Rattle.sheets.specs.Lines.{read}
use Rattle.format.proofs.Refusals.{handed}
use Rattle.sheets.proofs.Only.{leaves, keeps}
use Rattle.sheets.proofs.forward.Goals as goal

pub returns-in_err-n : goal.returns-in_err-n
returns-in_err-n c =
    let old = c.args.sheet.now in
    rw (handed _ _ c.from_residual.ensures.1) (keeps _ _ (λ d rs. forward rs (read old)) old _ c.in_err-n.ensures refl)

pub bring-requires : goal.bring-requires
bring-requires c =
    (λ i. omega (arith, c.type_inv.table i), c.in_ok-n.ensures)

pub returns : goal.returns
returns c =
    let old = c.args.sheet.now in
    leaves _ _ (λ d rs. forward rs (read old)) old _ _ (λ i. omega (arith, c.type_inv.table i))
    c.in_ok-n.ensures c.bring.ensures
