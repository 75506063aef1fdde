-- `ended` meets its contract: the end record alone, with more behind it, or none.
-- Assumes nothing.
use Rattle.fromhex.specs.Reading.{sends, fails}
use Rattle.fromhex.proofs.Judging.{begun}
use Rattle.fromhex.proofs.Walking.{ends_whole, ends_after, ends_bad}
use Rattle.fromhex.proofs.ended.Goals as goal

pub returns-then-rest-eq12 : goal.returns-then-rest-eq12
returns-then-rest-eq12 c =
    λ b e h. rw (← e) (sends (ends_whole (begun _ _ _ (c.if-starts_with.ensures.value)) c.if-rest-eq12.true))

pub returns-then-starts_with : goal.returns-then-starts_with
returns-then-starts_with c = λ b e h. fails (ends_after (begun _ _ _ (c.if-starts_with.ensures.value)) c.if-rest-eq12.false)

pub returns : goal.returns
returns c = λ b e h. fails (ends_bad (begun _ _ _ (c.if-starts_with.ensures.value)) (rw (← e) at h))
