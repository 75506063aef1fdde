-- `sift` meets its contract: what is left to do ends where the whole ends.
-- Assumes nothing.
use Rattle.sifting.proofs.Sifting.{Sifting}
use Rattle.sifting.proofs.sift.Given as goal

abbrev pub invariant-loop-kept : goal.invariant-loop-kept
invariant-loop-kept l =
    Sifting l.chip l.stage l.t l.from l.declared l.initial.held l.initial.log l.lines l.kept-index l.held l.c l.to l.log
