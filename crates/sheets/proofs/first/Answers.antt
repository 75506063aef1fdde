-- `first` meets its contract: the first claims, made at 0, on a blank sheet.
-- Assumes nothing.
use Rattle.sheets.proofs.Naming.{first_lines}
use Rattle.sheets.proofs.first.Goals as goal

pub returns : goal.returns
returns c =
    first_lines c.args.chip c.args.t.now _ _ c.own.ensures c.clear.ensures c.enter.ensures
