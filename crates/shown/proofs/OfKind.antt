-- An element is of a kind: what is shown of the kind is shown of the element.
-- Assumes nothing.
use Prim.Native.Nat.{ℕ}
use mathlib.Core.Path.{◌≡◌}
use mathlib.Core.Bool.{Bool}
use mathlib.Core.List.{List}
use Rattle.std.specs.declared.option.Option.{Option}
use Rattle.format.specs.Rules.{in_use}
use Rattle.format.specs.declared.settings.Rules.TheVariants.{Ordinary}
use Rattle.format.specs.declared.records.Element.{Element}
use Rattle.shown.specs.Own.{own_pins, zone_of}
use Rattle.shown.specs.declared.OwnPins.{OwnPins}

module _ (e k : Element) (same : e ≡ k) where
  pub zoned : (p : List ℕ) {z : Option ℕ} → z ≡ zone_of k p → z ≡ zone_of e p
  zoned p h = rw same h

  pub pinned : {q : OwnPins} → q ≡ own_pins k → q ≡ own_pins e
  pinned h = rw same h

  pub used : {b : Bool} → b ≡ in_use Ordinary k → b ≡ in_use Ordinary e
  used h = rw same h

pub ruleset of_kind_lem = (zoned, pinned, used)
