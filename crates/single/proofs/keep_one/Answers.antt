-- `keep_one` meets its contract, by whether the byte is one of the first 30.
-- Assumes nothing.
use native.Mathlib.Omega.{arith}
use Rattle.underway.proofs.Keeping.{put_one}
use Rattle.single.proofs.Adding.{keep_late}
use Rattle.single.proofs.keep_one.Goals as goal

pub returns-then-from-lt30 : goal.returns-then-from-lt30
returns-then-from-lt30 c = record { keeps = λ v e h. put_one _ v _ h e c.if-from-lt30.true }

pub returns-else-from-lt30 : goal.returns-else-from-lt30
returns-else-from-lt30 c = record { keeps = λ v e h. keep_late _ v _ (omega (arith, e, c.if-from-lt30.false)) h }
