-- `put_bytes` meets its contract: a byte a turn.
-- Assumes nothing.
use lib.ListN.{drop}
use Rattle.differing.specs.Fields.{hex}
use Rattle.comparing.proofs.Midst.{Midst}
use Rattle.comparing.proofs.lines.put_bytes.Given as goal

abbrev pub invariant-loop-b : goal.invariant-loop-b
invariant-loop-b l = Midst l.initial.out l.at (hex l.p) l.end l.out (hex (drop l.b-index l.p))
