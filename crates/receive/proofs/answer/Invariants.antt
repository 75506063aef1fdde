-- Each report has a byte at least, and 4,097 are enough.
use Rattle.std.proofs.Common.{◌-◌, ◌≡◌, length}
use Rattle.receive.proofs.answer.Given as goal

abbrev pub invariant-loop-total : goal.invariant-loop-total
invariant-loop-total g l = length l.buffer ≡ 4096

abbrev pub decreases-loop-total : goal.decreases-loop-total
decreases-loop-total g l = 4097 - l.total
