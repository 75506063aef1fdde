-- `put_next` meets its contract: by its two cases.
-- Assumes nothing.
use native.Mathlib.Omega.{arith}
use borrow.Author.Tests.{eq-eqb, ne_eqb}
use Rattle.spelling.proofs.Putting.{put_none, then}
use Rattle.spelling.proofs.put_next.Goals as goal

pub returns-then-p-eq255 : goal.returns-then-p-eq255
returns-then-p-eq255 c = (rw (eq-eqb _ _ c.if-p-eq255.true) (put_none _ _), omega arith)

pub returns : goal.returns
returns c = (
  rw (ne_eqb _ _ c.if-p-eq255.false, ← c.pin_text-text.ensures) (then c.put-a.ensures c.put.ensures),
  omega (arith, c.put-a.ensures.ends, c.put.ensures.ends),
)
