-- What the elements of a small list are called, computed (of records that no table need have): a fan at 16, a zone descriptor at
-- 32, string 2 at 37 and string 3, which has no text, at 45. Assumes nothing.
use Prim.Native.Nat.{ℕ}
use mathlib.Core.Path.{◌≡◌, refl}
use mathlib.Core.List.{List, [], ◌∷◌}
use Rattle.format.specs.Records.{Record, fan, zone, string}
use Rattle.format.specs.Decode.{pin_of, placement_of, fan_of}
use Rattle.format.specs.ZonesAndStrings.{role}
use Rattle.format.specs.declared.pins.Chip.TheVariants.{C8051F320}
use Rattle.std.specs.Prelude.{None}
use Rattle.labels.specs.Called.{text, lent, called_of}

-- the fan and the zone descriptor by their string indices
abbrev fan_f : ℕ → Record
fan_f n = fan (fan_of (placement_of n 0 0 0 1) (pin_of C8051F320 0x05) None 0 0 0 0)

abbrev zone_z : ℕ → Record
zone_z n = zone (1 ∷ n ∷ [])

abbrev string_s : Record
string_s = string (2 ∷ 0x09 ∷ 0x04 ∷ 0x41 ∷ 0x00 ∷ [])

abbrev string_e : Record
string_e = string (3 ∷ 0x09 ∷ 0x04 ∷ [])

abbrev rows : ℕ → ℕ → List Record
rows n m = fan_f n ∷ zone_z m ∷ string_s ∷ string_e ∷ []

-- by its string, which comes later; by none
pub by_its_string : called_of (rows 2 0) 16 (role (fan_f 2)) ≡ text 37 (0x41 ∷ 0x00 ∷ [])
by_its_string = refl

pub by_the_lent_name : called_of (rows 0 2) 16 (role (fan_f 0)) ≡ lent
by_the_lent_name = refl

-- a zone descriptor has an index too
pub zone_by_its_string : called_of (rows 0 2) 32 (role (zone_z 2)) ≡ text 37 (0x41 ∷ 0x00 ∷ [])
zone_by_its_string = refl

-- a string by its own text; no text is an empty part of the table and not the lent name
pub by_its_own_text : called_of (rows 0 0) 37 (role string_s) ≡ text 37 (0x41 ∷ 0x00 ∷ [])
by_its_own_text = refl

pub by_no_text : called_of (rows 3 0) 16 (role (fan_f 3)) ≡ text 45 []
by_no_text = refl
