-- `esa_sheet` meets its contract: no value is too large.
-- Assumes nothing.
use native.Mathlib.Omega.{arith}
use Rattle.pinsheet.specs.Sheet.{sheet}
use Rattle.esa.proofs.Sheets.{leaves_bound, sheet_for}
use Rattle.esa.proofs.esa_sheet.Goals as goal

pub answer-requires : goal.answer-requires
answer-requires c =
    let old = c.args.sheet.now in
    let b = leaves_bound _ _ sheet old _ _ c.make.ensures in omega arith

pub returns : goal.returns
returns c =
    let old = c.args.sheet.now in
    sheet_for _ _ _ sheet old _ _ c.ordinary.ensures c.make.ensures c.answer.ensures
