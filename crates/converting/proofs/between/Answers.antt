-- `between` meets its contract: an end weighed by at most 1023 fits, and the division gives the nearest.
-- Assumes nothing.
use Prim.Native.Nat.{ℕ, ◌+◌, ◌*◌, ◌/◌, ◌≤◌, ◌<◌, ◌^◌}
use native.Mathlib.Omega.{arith}
use lib.Dec.{lit<}
use Rattle.converting.specs.Rounding.{Nearest}
use Rattle.converting.specs.Conversions.{weighed}
use Rattle.converting.proofs.Rounding.{divided, down_up, weighed_most, within}
use Rattle.converting.proofs.between.Reads as reads
use Rattle.converting.proofs.between.Lts as lts
use Rattle.converting.proofs.between.Goals as goal

fits : (low high count : ℕ) → low < 65536 → high < 65536 → count ≤ 1023 → 2 * weighed low high count + 1023 < 2 ^ 32
fits low high count l h n = omega (arith, weighed_most low high count 65535 (omega arith) (omega arith) n)

near : (low high count : ℕ) → Nearest (weighed low high count) 1023 ((2 * weighed low high count + 1023) / 2046)
near low high count = (down_up (divided (2 * weighed low high count + 1023) (lit< tt))).nearest

module _ (c : lts.Start reads.Pre reads.Post) where
  abbrev low : ℕ
  low = c.args.low

  abbrev high : ℕ
  high = c.args.high

  abbrev count : ℕ
  count = c.args.count

  all : 2 * weighed low high count + 1023 < 2 ^ 32
  all = fits low high count (omega arith) (omega arith) c.requires

  small : (2 * weighed low high count + 1023) / 2046 ≤ 65535
  small = within (omega arith) (omega arith) c.requires (near low high count)

pub overflow_mul-result : goal.overflow_mul-result
overflow_mul-result c = omega (arith, all c)

pub overflow_mul-result-2 : goal.overflow_mul-result-2
overflow_mul-result-2 c = omega (arith, all c)

pub overflow_add-result : goal.overflow_add-result
overflow_add-result c = omega (arith, all c)

pub overflow_mul-result-3 : goal.overflow_mul-result-3
overflow_mul-result-3 c = omega (arith, all c)

pub overflow_add-result-2 : goal.overflow_add-result-2
overflow_add-result-2 c = omega (arith, all c)

pub overflow_cast-result-3 : goal.overflow_cast-result-3
overflow_cast-result-3 c = omega (arith, small c)

pub returns : goal.returns
returns c = near _ _ _
