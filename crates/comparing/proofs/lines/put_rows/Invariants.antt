-- `put_rows` meets its contract: a row a turn.
-- Assumes nothing.
use Prim.Native.Nat.{◌+◌}
use Rattle.comparing.proofs.Lined.{Rowed}
use Rattle.comparing.proofs.lines.put_rows.Given as goal

abbrev pub invariant-loop-i : goal.invariant-loop-i
invariant-loop-i l = Rowed l.one l.two l.a l.b l.initial.out l.at l.from l.n (l.from + l.n) l.end l.out l.i
