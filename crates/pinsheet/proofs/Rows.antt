-- Entries of a small sheet, computed: a hardware revision pin on P3.0, an analogue sensor on P1.4 at 16 and one on P1.5 at 36, and a
-- digital sensor on a bus at 56 and one more at 77, of records that no table need have.
-- Assumes nothing.
use mathlib.Core.Path.{◌≡◌, refl}
use mathlib.Core.Bool.{true}
use mathlib.Core.List.{List, [], ◌∷◌}
use Prim.Native.Nat.{ℕ}
use Rattle.format.specs.Records.{Record, digital, analogue}
use Rattle.format.specs.Decode.{pin_of, placement_of, digital_of, analogue_of, description_of}
use Rattle.format.specs.declared.pins.Chip.TheVariants.{C8051F320}
use Rattle.std.specs.Prelude.{None, Some}
use Rattle.format.specs.declared.records.Description.{Description}
use Rattle.format.specs.declared.records.Address.TheVariants.{Bus}
use Rattle.pinsheet.specs.Sheet.{free, fault, place, entry}

abbrev strapped_one : Description
strapped_one = description_of 2 0 7 true 0 (Some (pin_of C8051F320 0x30)) None None

abbrev sensor : ℕ → Record
sensor pin = analogue (analogue_of (placement_of 0 0 0 0 1) 1 (pin_of C8051F320 pin) 850 700 500 320 200)

abbrev bus_sensor : ℕ → Record
bus_sensor a = digital (digital_of (placement_of 0 0 0 0 1) 0 (Bus a) 0 0 0 0 0 0)

abbrev rows : List Record
rows = sensor 0x14 ∷ sensor 0x15 ∷ bus_sensor 0x48 ∷ bus_sensor 0x49 ∷ []

-- of a shared pin the earliest
pub shared_first : entry strapped_one rows 0x07 ≡ place 16
shared_first = refl

pub bus_first : entry strapped_one rows 0x03 ≡ place 56
bus_first = refl

-- its own pins, the description's, the fault LED's, and a free one
pub its_own : entry strapped_one rows 0x15 ≡ place 36
its_own = refl

pub of_the_description : entry strapped_one rows 0x30 ≡ place 0
of_the_description = refl

pub of_the_fault_led : entry strapped_one rows 0x10 ≡ fault
of_the_fault_led = refl

pub of_nobody : entry strapped_one rows 0x20 ≡ free
of_nobody = refl
