-- A record with another placement: its layout differs in bytes 3 to 7 alone, and no rule of the record alone looks at them. By
-- cases, each computed.
-- Assumes nothing.
use mathlib.Core.Path.{◌≡◌, refl}
use mathlib.Core.List.{List, ◌++◌}
use lib.ListN.{take, drop}
use Rattle.format.specs.Slots.{Slot}
use Rattle.format.specs.Records.{Record, digital, analogue, fan, led, water, pump, voltage, current, controller, tachometer, zone}
use Rattle.format.specs.Records.{string, external, rgb}
use Rattle.format.specs.Layout.{placement, layout}
use Rattle.format.specs.Rules.{own_rules}
use Rattle.format.specs.ZonesAndStrings.{Role, placed, zoning, naming, role}
use Rattle.format.specs.Claims.{claims_of}
use Rattle.format.specs.Placed.{with_placement}
use Rattle.format.specs.declared.records.Placement.{Placement}
use Rattle.format.specs.declared.settings.Settings.{Settings}

-- the slots of an element with those of a placement in bytes 3 to 7, where it has one
abbrev pub replaced : Placement → Role → List Slot → List Slot
replaced p (placed q) ss = take 3 ss ++ placement p ++ drop 8 ss
replaced p (zoning bytes) ss = ss
replaced p (naming bytes) ss = ss

pub placement_layout : (p : Placement) (r : Record) → layout (with_placement p r) ≡ replaced p (role r) (layout r)
placement_layout p (digital d) = refl
placement_layout p (analogue a) = refl
placement_layout p (fan f) = refl
placement_layout p (led l) = refl
placement_layout p (water w) = refl
placement_layout p (pump f) = refl
placement_layout p (voltage v) = refl
placement_layout p (current c) = refl
placement_layout p (controller d bs) = refl
placement_layout p (tachometer d a b) = refl
placement_layout p (zone bytes) = refl
placement_layout p (string bytes) = refl
placement_layout p (external x r g b) = refl
placement_layout p (rgb r) = refl

pub placement_rules : (s : Settings) (p : Placement) (r : Record) → own_rules s (with_placement p r) ≡ own_rules s r
unfolding own_rules
placement_rules s p (digital d) = refl
placement_rules s p (analogue a) = refl
placement_rules s p (fan f) = refl
placement_rules s p (led l) = refl
placement_rules s p (water w) = refl
placement_rules s p (pump f) = refl
placement_rules s p (voltage v) = refl
placement_rules s p (current c) = refl
placement_rules s p (controller d bs) = refl
placement_rules s p (tachometer d a b) = refl
placement_rules s p (zone bytes) = refl
placement_rules s p (string bytes) = refl
placement_rules s p (external x r g b) = refl
placement_rules s p (rgb r) = refl

pub placement_claims : (p : Placement) (r : Record) → claims_of (with_placement p r) ≡ claims_of r
placement_claims p (digital d) = refl
placement_claims p (analogue a) = refl
placement_claims p (fan f) = refl
placement_claims p (led l) = refl
placement_claims p (water w) = refl
placement_claims p (pump f) = refl
placement_claims p (voltage v) = refl
placement_claims p (current c) = refl
placement_claims p (controller d bs) = refl
placement_claims p (tachometer d a b) = refl
placement_claims p (zone bytes) = refl
placement_claims p (string bytes) = refl
placement_claims p (external x r g b) = refl
placement_claims p (rgb r) = refl
