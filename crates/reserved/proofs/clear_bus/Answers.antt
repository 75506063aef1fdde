-- `clear_bus` meets its contract: three stores.
-- Assumes nothing.
use native.Mathlib.Omega.{arith}
use mathlib.Core.Path.{refl}
use lib.ListN.{length-set}
use Rattle.reserved.proofs.clear_bus.Goals as goal

pub bounds-buf-at-4 : goal.bounds-buf-at-4
bounds-buf-at-4 c = simp length-set (omega arith)

pub bounds-buf-at-5 : goal.bounds-buf-at-5
bounds-buf-at-5 c = simp length-set (omega arith)

pub returns : goal.returns
returns c = rw c.address_byte-first.ensures refl
