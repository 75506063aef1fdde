-- `number` meets its contract: past the end a byte is 0.
-- Assumes nothing.
use Prim.Native.Nat.{ℕ}
use native.Mathlib.Omega.{arith}
use mathlib.Core.Path.{sym, ◌∙◌, ap}
use mathlib.Core.List.{List}
use lib.ListN.{drop_of_length-le}
use lib.Seq.{get_or-drop}
use Rattle.format.specs.Slots.{byte}
use Rattle.judging.proofs.number.Goals as goal

pub returns-then-u-lt4 : goal.returns-then-u-lt4
returns-then-u-lt4 c =
    record { says = λ v w. sym (ap (λ (l : List ℕ). byte l 0) (drop_of_length-le v {i = 3} (omega (arith, w.long, c.if-u-lt4.true)))) }

pub returns : goal.returns
returns c =
    record { says = λ v w. w.held.same 3 (omega arith) (omega (arith, w.long, c.if-u-lt4.false)) ∙ sym (get_or-drop 3 v 0 0) }
