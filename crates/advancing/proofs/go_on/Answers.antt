-- `go_on` meets its contract: it can go on, or it is no pass.
-- Assumes nothing.
use borrow.Author.Tests.{not-true, not-false}
use Rattle.advancing.proofs.Placing.{goes_on, stands_still}
use Rattle.advancing.proofs.go_on.Goals as goal

pub returns-then-not-sound-clause-goes : goal.returns-then-not-sound-clause-goes
returns-then-not-sound-clause-goes c = stands_still _ _ _ _ _ _ _ (c.sound.ensures.no (not-true _ c.if-not-sound.true-raw))

pub pass_on-requires : goal.pass_on-requires
pass_on-requires c =
    let s = c.sound.ensures.yes (not-false _ c.if-not-sound.false-raw) in
    (s.ends, s.cut, s.low)

pub returns-clause-goes : goal.returns-clause-goes
returns-clause-goes c = goes_on _ _ _ _ _ _ _ _ _ _ _ _ c.pass_on.ensures.passes
