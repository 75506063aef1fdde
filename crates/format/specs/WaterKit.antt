-- Rows of the four kinds that request 1/14 brings: 05h, 06h, 07h and 0Dh. Their answers are proved of the verdict itself, under all
-- settings.
-- Assumes nothing.
use Rattle.std.specs.Prelude.{ℕ, zero, suc, List, [], ◌∷◌, ◌++◌}
use Rattle.format.specs.Known.{Row, ◌gives◌, table_a, table_of, after, zone1, sensor_t, by_rules}
use Rattle.format.specs.declared.settings.Rules.{Rules}
use Rattle.format.specs.Answers.{Gives as Accepted, Refused}

-- a water level in zone 1 on this pin, with these bytes of FULL, EMPTY and WARNING
abbrev pub levels_w : ℕ → List ℕ → List ℕ
levels_w pin levels = 0x05 ∷ 0x0f ∷ 0x00 ∷ 0x00 ∷ 0xff ∷ 0xff ∷ 0xff ∷ 0x01 ∷ pin ∷ levels

-- .. FULL by its two bytes, EMPTY and WARNING 0
abbrev pub tank_w : ℕ → ℕ → ℕ → List ℕ
tank_w pin low high = levels_w pin (low ∷ high ∷ 0x00 ∷ 0x00 ∷ 0x00 ∷ 0x00 ∷ [])

-- fan F as a pump: its identifier, tachometer pin and PPR
abbrev pub pump_p : ℕ → ℕ → List ℕ
pump_p tachometer ppr =
    0x06 ∷ 0x10 ∷ 0x00 ∷ 0x00 ∷ 0xff ∷ 0xff ∷ 0xff ∷ 0x01 ∷ 0x05 ∷ tachometer ∷ ppr ∷ 0x2c ∷ 0x01 ∷ 0xdc ∷ 0x05 ∷ 0x40 ∷ []

-- a voltage in zone 1, on this pin, of 14 volts and 0: 'the VMAX field would be 140 and the VMIN field 0'
abbrev pub rail_v : ℕ → List ℕ
rail_v pin = 0x07 ∷ 0x0b ∷ 0x00 ∷ 0x00 ∷ 0xff ∷ 0xff ∷ 0xff ∷ 0x01 ∷ pin ∷ 140 ∷ 0 ∷ []

-- a current in zone 1, on this pin
abbrev pub current_i : ℕ → List ℕ
current_i pin =
    0x08 ∷ 0x0e ∷ 0x00 ∷ 0x00 ∷ 0xff ∷ 0xff ∷ 0xff ∷ 0x01 ∷ pin ∷ 0x00 ∷ 0x00 ∷ 0x00 ∷ 0x00 ∷ 0x00 ∷ []

-- so many bytes of zero, and a block of so many pairs
abbrev pub zeros : ℕ → List ℕ
zeros zero = []
zeros (suc n) = 0x00 ∷ zeros n

abbrev pub pairs_of : ℕ → List ℕ
pairs_of zero = []
pairs_of (suc n) = 0x00 ∷ 0x00 ∷ 0x00 ∷ 0x00 ∷ pairs_of n

-- an external RGB LED in zone 1 without its blocks: its length by its two bytes, its bus type and its chip's identifier
abbrev pub head_x : ℕ → ℕ → ℕ → ℕ → List ℕ
head_x low high bus identifier =
    0x0d ∷ low ∷ high ∷ 0x00 ∷ 0xff ∷ 0xff ∷ 0xff ∷ 0x01 ∷ bus ∷ 0x40 ∷ 0x00 ∷ identifier ∷ []

-- one with no pair of any colour
abbrev pub light_x : ℕ → ℕ → List ℕ
light_x bus identifier = head_x 15 0 bus identifier ++ 0 ∷ 0 ∷ 0 ∷ []

-- table A of that many bytes with hardware revision 0 on P0.7, and after it an element and zone 1
abbrev pub strapped07 : ℕ → List ℕ → List ℕ
strapped07 n element = table_a 0x01 n 0x80 0x07 ++ element ++ zone1

-- of whatever settings
abbrev pub water_kit : List Row
water_kit =
    -- a voltage of 140 and 0; a level of 1023 and of 1024
    (after 57 (rail_v 0x14 ++ zone1) gives Accepted 2)
    ∷ (after 61 (tank_w 0x14 0xff 0x03 ++ zone1) gives Accepted 2)
    ∷ (after 61 (tank_w 0x14 0x00 0x04 ++ zone1) gives Refused 9 16)
    -- chip identifier 0, 1, 3, 4; no pair in any of the three blocks
    ∷ (after 61 (light_x 0 0 ++ zone1) gives Refused 9 16)
    ∷ (after 61 (light_x 0 1 ++ zone1) gives Accepted 2)
    ∷ (after 61 (light_x 0 3 ++ zone1) gives Accepted 2)
    ∷ (after 61 (light_x 0 4 ++ zone1) gives Refused 9 16)
    -- a pump without tachometer, and PPR 1 or 0; and with one
    ∷ (after 62 (pump_p 0xff 1 ++ zone1) gives Refused 9 16)
    ∷ (after 62 (pump_p 0xff 0 ++ zone1) gives Accepted 2)
    ∷ (after 62 (pump_p 0x06 2 ++ zone1) gives Accepted 2)
    -- without its zone; one byte short or long
    ∷ (after 32 (pump_p 0x06 2) gives Refused 13 16)
    ∷ (after 28 (0x07 ∷ 0x0c ∷ 0x00 ∷ zeros 9) gives Refused 8 16)
    ∷ (after 30 (0x0d ∷ 0x0e ∷ 0x00 ∷ zeros 11) gives Refused 8 16)
    -- P0.7 is shared among the four analogue kinds, and clashes with a hardware revision pin under each of them
    ∷ (after 106 (sensor_t 0x14 ++ tank_w 0x15 0 0 ++ rail_v 0x16 ++ current_i 0x17 ++ zone1) gives Accepted 5)
    ∷ (strapped07 66 (sensor_t 0x14) gives Refused 15 16)
    ∷ (strapped07 61 (tank_w 0x14 0 0) gives Refused 15 16)
    ∷ (strapped07 57 (rail_v 0x14) gives Refused 15 16)
    ∷ (strapped07 60 (current_i 0x14) gives Refused 15 16)
    -- what is left of 7
    ∷ (after 19 (0x00 ∷ 0x03 ∷ 0x00 ∷ []) gives Refused 7 16)
    ∷ (after 19 (0x0f ∷ 0x03 ∷ 0x00 ∷ []) gives Refused 7 16)
    ∷ []

-- 200 red pairs, 100 green and 50 blue: 1,415 bytes, in a table of 1,461
abbrev pub many_pairs : List Row
many_pairs =
    (table_of 0xb5 0x05
    ++ head_x 0x87 0x05 0 2 ++ (200 ∷ pairs_of 200) ++ (100 ∷ pairs_of 100) ++ (50 ∷ pairs_of 50) ++ zone1 gives Accepted 2)
    ∷ []

-- 0Dh on a bus type that is retired: 23 after 9, by the ordinary rules alone; and on one that has no code
abbrev pub light_retired : Rules → List Row
light_retired k =
    (after 61 (light_x 0x02 1 ++ zone1) gives by_rules k (Refused 23 16) (Accepted 2))
    ∷ (after 61 (light_x 0xf2 3 ++ zone1) gives by_rules k (Refused 23 16) (Accepted 2))
    ∷ (after 61 (light_x 0x02 0 ++ zone1) gives Refused 9 16)
    ∷ (after 61 (light_x 0x04 1 ++ zone1) gives Refused 9 16)
    ∷ []
