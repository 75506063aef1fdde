-- `spell` meets its contract: the digits that are still to come and those that stand there are the number's.
-- Assumes nothing.
use Rattle.decimals.proofs.Spelling.{Spelling}
use Rattle.decimals.proofs.spell.Given as goal

abbrev pub invariant-loop-m : goal.invariant-loop-m
invariant-loop-m l = Spelling l.n l.bytes l.from l.m

abbrev pub decreases-loop-m : goal.decreases-loop-m
decreases-loop-m l = l.m
