-- `each` meets its contract: so many bytes of the piece are kept.
-- Assumes nothing.
use Rattle.underway.specs.Under.{CopiedIs}
use Rattle.underway.proofs.each.Given as goal

abbrev pub invariant-loop-j : goal.invariant-loop-j
invariant-loop-j l = CopiedIs l.from 0 l.j l.p l.initial.head l.head
