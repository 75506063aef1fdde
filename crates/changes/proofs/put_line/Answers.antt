-- `put_line` meets its contract: its parts, one behind another.
-- Assumes nothing.
use mathlib.Core.Path.{◌≡◌}
use Rattle.changes.proofs.Lining.{line_put}
use Rattle.changes.proofs.put_line.Goals as goal

pub returns : goal.returns
returns c =
    let place : c.from.result ≡ c.args.change.place = cc in
    let number : c.from-2.result ≡ c.args.change.number = cc in
    λ l k.
    line_put _ l k (rw place at c.put_decimal-a.ensures.0) c.put-b.ensures (rw number at c.put_decimal-c.ensures.0)
    c.put_change.ensures
