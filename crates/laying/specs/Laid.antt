-- What a kind's function asks, and what it leaves, of an element of that kind.
-- Assumes nothing.
use Rattle.std.specs.Prelude.{ℕ, ◌+◌, ◌≤◌, ◌≡◌, true, List, length}
use Rattle.format.specs.Slots.{written}
use Rattle.format.specs.Layout.{fixed}
use Rattle.format.specs.Rules.{element_roomy}
use Rattle.format.specs.Writing.{overwritten}
use Rattle.format.specs.declared.records.Element.{Element}

-- each slot has room for its number, and the buffer has room for the bytes from the place on
pub record Roomed (e : Element) (at : ℕ) (b : List ℕ) : Type 0 where
  pub slots : element_roomy e ≡ true
  pub inside : at + length (fixed e) ≤ length b

-- the buffer then, from what it was
abbrev pub Laid : Element → ℕ → List ℕ → List ℕ → Type 0
Laid e at b after = after ≡ overwritten at (written (fixed e)) b
