-- Answers of a small list, computed (of records that no table need have): a zone descriptor and a string with 5 at byte 7, a fan of zone
-- 1, a pump of zone 5, a fan of zone 5.
-- Assumes nothing.
use Prim.Native.Nat.{ℕ}
use mathlib.Core.Path.{◌≡◌, refl}
use mathlib.Core.Bool.{true, false}
use mathlib.Core.List.{List, [], ◌∷◌}
use Rattle.format.specs.Records.{Record, fan, pump, zone, string}
use Rattle.format.specs.Decode.{pin_of, placement_of, fan_of}
use Rattle.format.specs.declared.pins.Chip.TheVariants.{C8051F320}
use Rattle.std.specs.Prelude.{None}
use Rattle.format.specs.declared.records.PwmFan.{PwmFan}
use Rattle.fans.specs.InZone.{visit, in_zone}

abbrev motor_of : ℕ → PwmFan
motor_of z = fan_of (placement_of 0 0 0 0 z) (pin_of C8051F320 0x05) None 0 0 0 0

abbrev rows : List Record
rows =
    zone (1 ∷ 0 ∷ 0 ∷ 0 ∷ 5 ∷ [])
    ∷ string (2 ∷ 0x09 ∷ 0x04 ∷ 0x41 ∷ 5 ∷ [])
    ∷ fan (motor_of 1)
    ∷ pump (motor_of 5)
    ∷ fan (motor_of 5)
    ∷ []

-- the pump, and nothing before it
pub pump_is_met : in_zone 5 rows ≡ visit true 4
pump_is_met = refl

pub fan_is_met : in_zone 1 rows ≡ visit true 3
fan_is_met = refl

-- none: after all of them; 0 is no zone of these, though the descriptor and the string have it elsewhere
pub none_is_met : in_zone 0 rows ≡ visit false 5
none_is_met = refl

-- byte 7 of a zone descriptor and of a string is no zone identifier
pub no_zone_there : in_zone 5 (zone (1 ∷ 0 ∷ 0 ∷ 0 ∷ 5 ∷ []) ∷ string (2 ∷ 0x09 ∷ 0x04 ∷ 0x41 ∷ 5 ∷ []) ∷ []) ≡ visit false 2
no_zone_there = refl

-- no element
pub nothing_to_visit : in_zone 1 [] ≡ visit false 0
nothing_to_visit = refl
