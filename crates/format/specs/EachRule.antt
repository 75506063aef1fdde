-- Rows for what no other row meets: 11, 12, 14 of an element and of a zone descriptor, 15 between elements, the pump in the fan list,
-- and cases of 3, 6, 8 and 9. Their answers are proved of the verdict itself, under all settings but where it is said.
-- Assumes nothing.
use Rattle.std.specs.Prelude.{ℕ, zero, suc, List, [], ◌∷◌, ◌++◌}
use Rattle.format.specs.Known.{Row, ◌gives◌, table_of, after, zone_z, zone1, fan_f, lamp_l, led_l, sensor_n, string_n, string_s}
use Rattle.format.specs.WaterKit.{zeros, levels_w, pump_p}
use Rattle.format.specs.Answers.{Gives as Accepted, Refused}

-- strings, and zone descriptors, numbered from n down to 1
abbrev pub strings : ℕ → List ℕ
strings zero = []
strings (suc n) = string_n (suc n) [] ++ strings n

abbrev pub zones : ℕ → List ℕ
zones zero = []
zones (suc n) = zone_z (suc n) 0x00 ++ zones n

-- a controller in zone 1 of this length, with so many speed blocks of one pair each
abbrev pub speeds : ℕ → List ℕ
speeds zero = []
speeds (suc n) = 0x05 ∷ 0x01 ∷ 0x07 ∷ 0x00 ∷ 0x0c ∷ 0x00 ∷ speeds n

abbrev pub controller_b : ℕ → ℕ → List ℕ
controller_b n blocks = 0x09 ∷ n ∷ 0x00 ∷ 0x00 ∷ 0xff ∷ 0xff ∷ 0xff ∷ 0x01 ∷ 0x00 ∷ 0x40 ∷ 0x00 ∷ speeds blocks

-- a controller RGB LED in zone 1 with this string index
abbrev pub rgb_named : ℕ → List ℕ
rgb_named index = 0x0e ∷ 0x0b ∷ 0x00 ∷ index ∷ 0xff ∷ 0xff ∷ 0xff ∷ 0x01 ∷ 0x05 ∷ 0x06 ∷ 0x11 ∷ []

abbrev pub each_rule : List Row
each_rule =
    -- 3: 4,096 bytes, of which the first element is none, and one more
    (table_of 0x00 0x10 ++ zeros 4080 gives Refused 6 16)
    ∷ (table_of 0x01 0x10 ++ zeros 4081 gives Refused 3 0)
    -- 6 by a length under 3, and past the end; before 7
    ∷ (after 19 (0x0f ∷ 0x02 ∷ 0x00 ∷ []) gives Refused 6 16)
    ∷ (after 19 (0x0f ∷ 0x04 ∷ 0x00 ∷ []) gives Refused 6 16)
    -- 11: 12 zones and a 13th, which comes before 12
    ∷ (table_of 0x78 0x01 ++ zones 12 gives Accepted 12)
    ∷ (table_of 0x96 0x01 ++ zones 13 gives Refused 11 376)
    ∷ (table_of 0x96 0x01 ++ zones 12 ++ zone1 gives Refused 11 376)
    -- 12 of a zone and of a string
    ∷ (after 76 (zone1 ++ zone1) gives Refused 12 46)
    ∷ (after 28 (string_s [] ++ string_s []) gives Refused 12 22)
    -- 8: 09h with no block, six and seven; a zone of 29 bytes and of 31; a string of 5
    ∷ (after 27 (controller_b 11 0) gives Refused 8 16)
    ∷ (after 93 (controller_b 47 6 ++ zone1) gives Accepted 2)
    ∷ (after 69 (controller_b 53 7) gives Refused 8 16)
    ∷ (after 45 (0x0b ∷ 29 ∷ 0x00 ∷ zeros 26) gives Refused 8 16)
    ∷ (after 47 (0x0b ∷ 31 ∷ 0x00 ∷ zeros 28) gives Refused 8 16)
    ∷ (after 21 (0x0c ∷ 5 ∷ 0x00 ∷ 0x01 ∷ 0x09 ∷ []) gives Refused 8 16)
    -- 9: a string numbered 0; a thermal type; VALUE100 of 1023 and 1024
    ∷ (after 22 (string_n 0 []) gives Refused 9 16)
    ∷ (after 36 (sensor_n 0x00 0x14 0x00 0x00) gives Refused 9 16)
    ∷ (after 36 (sensor_n 0x02 0x14 0x00 0x00) gives Refused 9 16)
    ∷ (after 66 (sensor_n 0x01 0x14 0xff 0x03 ++ zone1) gives Accepted 2)
    ∷ (after 36 (sensor_n 0x01 0x14 0x00 0x04) gives Refused 9 16)
    -- .. EMPTY and WARNING of 1024
    ∷ (after 31 (levels_w 0x14 (0x00 ∷ 0x00 ∷ 0x00 ∷ 0x04 ∷ 0x00 ∷ 0x00 ∷ [])) gives Refused 9 16)
    ∷ (after 31 (levels_w 0x14 (0x00 ∷ 0x00 ∷ 0x00 ∷ 0x00 ∷ 0x00 ∷ 0x04 ∷ [])) gives Refused 9 16)
    -- .. colours 0 and 6, purpose 5; colour 5 and purpose 4 are the last, and beside unused pins anything stands
    ∷ (after 30 (lamp_l 0x20 0x00 0x00) gives Refused 9 16)
    ∷ (after 30 (lamp_l 0x20 0x60 0x00) gives Refused 9 16)
    ∷ (after 30 (lamp_l 0x20 0x15 0x00) gives Refused 9 16)
    ∷ (after 60 (lamp_l 0x20 0x54 0xff ++ zone1) gives Accepted 2)
    -- 14 of an element and of a zone descriptor; with the string, which comes later
    ∷ (after 57 (rgb_named 0x01 ++ zone1) gives Refused 14 16)
    ∷ (after 63 (rgb_named 0x01 ++ zone1 ++ string_s []) gives Accepted 3)
    ∷ (after 46 (zone_z 0x01 0x01) gives Refused 14 16)
    ∷ (after 52 (zone_z 0x01 0x01 ++ string_s []) gives Accepted 2)
    -- 15 between elements: two lamps on one pin; of a, b, b, a the second b
    ∷ (after 74 (led_l 0x20 ++ led_l 0x20 ++ zone1) gives Refused 15 30)
    ∷ (after 102 (led_l 0x20 ++ led_l 0x21 ++ led_l 0x21 ++ led_l 0x20 ++ zone1) gives Refused 15 44)
    -- a pump is in the fan list: after a fan and before one
    ∷ (after 78 (fan_f 0x05 0x06 ++ pump_p 0x06 2 ++ zone1) gives Refused 10 32)
    ∷ (after 78 (pump_p 0x06 2 ++ fan_f 0x05 0x06 ++ zone1) gives Refused 10 32)
    ∷ (after 78 (pump_p 0x06 2 ++ fan_f 0x11 0x12 ++ zone1) gives Accepted 3)
    ∷ []

-- 11 again: 96 elements and a 97th, which comes before 7. They take long to compute, so their answers are proved on the 320 by the
-- ordinary rules alone.
abbrev pub full_table : List Row
full_table =
    (table_of 0x50 0x02 ++ strings 96 gives Accepted 96)
    ∷ (table_of 0x56 0x02 ++ strings 97 gives Refused 11 592)
    ∷ (table_of 0x53 0x02 ++ strings 96 ++ 0x0f ∷ 0x03 ∷ 0x00 ∷ [] gives Refused 11 592)
    ∷ []
