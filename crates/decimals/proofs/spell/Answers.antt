-- `spell` meets its contract: the digits that are still to come and those that stand there are the number's.
-- Assumes nothing.
use native.Mathlib.Omega.{arith}
use mathlib.Core.Path.{refl}
use lib.ListN.{replicate}
use Rattle.decimals.proofs.Spelling.{first_digit, more_room, next_digit, all_digits_lem}
use Rattle.decimals.proofs.spell.Goals as goal

pub loop-m-init : goal.loop-m-init
loop-m-init c = first_digit _ _ (replicate 20 0) refl (omega (arith, c.ranges)) c.digit.ensures

pub overflow_sub-from : goal.overflow_sub-from
overflow_sub-from c = more_room c.loop-m.invariant c.loop-m-test.true

pub bounds-bytes-from : goal.bounds-bytes-from
bounds-bytes-from c = let s = c.loop-m.invariant in omega
    (arith, s.within, s.twenty, more_room s c.loop-m-test.true)

pub loop-m-preserved : goal.loop-m-preserved
loop-m-preserved c = next_digit c.loop-m.invariant _ c.loop-m-test.true c.digit-in-loop-m.ensures

pub returns : goal.returns
returns c = all_digits_lem c.loop-m.invariant c.loop-m-test.false
