-- The spring accident's story, computed: a fan of zone 1, the descriptor of zone 1, the descriptor of zone 2, which has string 2, and four
-- strings, of which the description names the first.
-- Assumes nothing.
use Prim.Native.Nat.{ℕ}
use mathlib.Core.Path.{◌≡◌, refl}
use mathlib.Core.Bool.{true, false}
use mathlib.Core.List.{List, [], ◌∷◌, ◌++◌}
use lib.ListN.{drop}
use Rattle.format.specs.Records.{Record, fan, zone, string}
use Rattle.format.specs.Known.{after, fan_f, zone1}
use Rattle.format.specs.Decode.{pin_of, placement_of, fan_of, description_of}
use Rattle.format.specs.declared.pins.Chip.TheVariants.{C8051F320}
use Rattle.std.specs.Prelude.{None}
use Rattle.format.specs.declared.records.Description.{Description}
use Rattle.removal.specs.Taking.{without, named, closed}

abbrev box : Description
box = description_of 2 1 41 true 0 None None None

-- a fan of a zone, with a string index; a zone descriptor with its number and its string index; a string
abbrev fan_in : ℕ → ℕ → Record
fan_in z n = fan (fan_of (placement_of n 0 0 0 z) (pin_of C8051F320 0x05) None 0 0 0 0)

abbrev zone_of : ℕ → ℕ → Record
zone_of z n = zone (z ∷ n ∷ 1 ∷ [])

abbrev string_of : ℕ → Record
string_of n = string (n ∷ 0x09 ∷ 0x04 ∷ [])

abbrev rows : List Record
rows = fan_in 1 3 ∷ zone_of 1 0 ∷ zone_of 2 2 ∷ string_of 1 ∷ string_of 2 ∷ string_of 3 ∷ string_of 4 ∷ []

-- the zone that a fan still names stays; the other one can go, and its own descriptor does not name it
pub zone_stays : named box rows (zone_of 1 0) ≡ true
zone_stays = refl

pub zone_goes : named box rows (zone_of 2 2) ≡ false
zone_goes = refl

-- with the fan taken out first it can go
pub zone_goes_then : named box (without 0 rows) (zone_of 1 0) ≡ false
zone_goes_then = refl

-- a string stays when the description names it, a zone descriptor or an element; the last one can go
pub strings_stay : (named box rows (string_of 1) ≡ true) × (named box rows (string_of 2) ≡ true) × (named box rows (string_of 3) ≡ true)
strings_stay = (refl, refl, refl)

pub string_goes : named box rows (string_of 4) ≡ false
string_goes = refl

-- zone 0 can be named as any other
pub zone_0_stays : named box (fan_in 0 0 ∷ zone_of 0 0 ∷ []) (zone_of 0 0) ≡ true
zone_0_stays = refl

-- an element that is neither can always go
pub fan_goes : named box rows (fan_in 1 3) ≡ false
fan_goes = refl

-- the bytes: the fan of 16 bytes at 16 goes out of a table of 62 bytes, and the last 16 bytes stay as they are; so does the fan itself,
-- past the new length, where it stood last
abbrev spring : List ℕ
spring = after 62 (fan_f 0x05 0x06 ++ zone1)

pub fan_closed : closed spring 16 16 ≡ after 46 zone1 ++ drop 46 spring
fan_closed = refl

pub last_closed : closed (after 62 (zone1 ++ fan_f 0x05 0x06)) 46 16 ≡ after 46 zone1 ++ fan_f 0x05 0x06
last_closed = refl
