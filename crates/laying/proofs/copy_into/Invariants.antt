-- `laying::copy_into` meets its contract. The loop's invariant: the buffer is as it was, with the bytes passed laid over it.
-- Assumes nothing.
use mathlib.Core.Path.{◌≡◌}
use lib.ListN.{length}
use lib.Seq.{paste}
use Rattle.laying.proofs.copy_into.Given as goal

abbrev pub invariant-loop-j : goal.invariant-loop-j
invariant-loop-j l = (length l.buf ≡ length l.initial.buf) × (l.buf ≡ paste l.initial.buf l.at l.new l.j)
