-- What stands from digit i on makes the whole of the number so far.
use Rattle.options.proofs.Digits.{Read}
use Rattle.options.proofs.numerals.below.Given as goal

abbrev pub invariant-loop-b : goal.invariant-loop-b
invariant-loop-b l = Read l.word l.limit l.n l.b-index
