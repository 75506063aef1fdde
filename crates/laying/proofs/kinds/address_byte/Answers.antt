-- `laying::kinds::address_byte` meets its contract, by the arm that was taken; a bus address with room is below 128.
-- Assumes nothing.
use native.Mathlib.Omega.{arith}
use borrow.Author.Tests.{ltb-true}
use Rattle.laying.proofs.kinds.address_byte.Goals as goal

pub overflow_mul-result : goal.overflow_mul-result
overflow_mul-result c =
    let r = rw c.in-Bus.is at c.requires in
    record { fits = omega (arith, ltb-true c.in-Bus.n 128 r) }

pub returns-in-Bus : goal.returns-in-Bus
returns-in-Bus c = rw c.in-Bus.is

pub returns-in-Select : goal.returns-in-Select
returns-in-Select c = rw c.in-Select.is
