-- `esa_sheet_forward` meets its contract: no value is too large.
-- Assumes nothing.
use native.Mathlib.Omega.{arith}
use Rattle.pinsheet.specs.Sheet.{forward}
use Rattle.sheets.specs.Lines.{read}
use Rattle.esa.proofs.Sheets.{leaves_bound, sheet_for}
use Rattle.esa.proofs.esa_sheet_forward.Goals as goal

pub answer-requires : goal.answer-requires
answer-requires c =
    let old = c.args.sheet.now in
    let b = leaves_bound _ _ (λ d rs. forward rs (read old)) old _ _ c.forward.ensures in omega arith

pub returns : goal.returns
returns c =
    let old = c.args.sheet.now in
    sheet_for _ _ _ (λ d rs. forward rs (read old)) old _ _ c.ordinary.ensures c.forward.ensures c.answer.ensures
