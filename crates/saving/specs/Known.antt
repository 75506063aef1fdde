-- Damaged tables with what is saved of them, worked out by hand from document 02: the new table and the lines. They are proved of
-- `new_table` and `new_text`, on both chips but where it is said.
-- Assumes nothing.
use Rattle.std.specs.Prelude.{ℕ, List, [], ◌∷◌, ◌++◌, take}
use Rattle.format.specs.Known.{head_with, table_a, table_with, table_of, after, zone_z, zone1, fan_f, sensor_on, sensor_s, sensor_t, tachometer_on}
use Rattle.format.specs.Known.{string_n, string_s}
use Rattle.format.specs.EachRule.{zones, strings, rgb_named}
use Rattle.format.specs.declared.pins.Chip.{Chip}
use Rattle.format.specs.declared.pins.Chip.TheVariants.{C8051F320, C8051F321}
use Rattle.saving.specs.Saving.{Line, line, left_out, cleared}

pub record Row : Type 0 where
  pub file : List ℕ
  pub table : List ℕ
  pub lines : List Line

abbrev pub row : List ℕ → List ℕ → List Line → Row
row file table lines = record { file = file; table = table; lines = lines }

-- table A with bytes behind it and a length that says nothing of them
abbrev pub damaged : List ℕ → List ℕ
damaged elements = table_of 0xaa 0x55 ++ elements

-- .. and string index 9
abbrev pub unnamed : List ℕ → List ℕ
unnamed elements = table_with 0x00 0x02 0x09 0x80 0xff ++ elements

-- a status LED in zone 1 with this string index, its first two lamps on these pins
abbrev pub lamps : ℕ → ℕ → ℕ → List ℕ
lamps index one two = 0x04 ∷ 0x0e ∷ 0x00 ∷ index ∷ 0xff ∷ 0xff ∷ 0xff ∷ 0x01 ∷ one ∷ 0x10 ∷ two ∷ 0x10 ∷ 0xff ∷ 0x00 ∷ []

-- a fan in this zone
abbrev pub fan_in : ℕ → ℕ → ℕ → List ℕ
fan_in z pwm tachometer =
    0x03 ∷ 0x10 ∷ 0x00 ∷ 0x00 ∷ 0xff ∷ 0xff ∷ 0xff ∷ z ∷ pwm ∷ tachometer ∷ 0x02 ∷ 0x2c ∷ 0x01 ∷ 0xdc ∷ 0x05 ∷ 0x40 ∷ []

-- an element of no kind, of four bytes
abbrev pub strange : List ℕ
strange = 0x0f ∷ 0x04 ∷ 0x00 ∷ 0x77 ∷ []

abbrev pub salvages : List Row
salvages =
    -- 'set the length'; reserved places at zero; 'the length and the stop get none': a header that 6 would meet, and what follows it
    row (damaged (sensor_on 0xf0 0x41 ++ zone1)) (after 67 (sensor_on 0x00 0x40 ++ zone1)) []
    ∷ row (damaged (zone1 ++ 0x0c ∷ 0x02 ∷ 0x00 ∷ string_s [])) (after 46 zone1) []
    ∷ row (damaged (zone1 ++ 0x0c ∷ 0x06 ∷ [])) (after 46 zone1) []
    -- 7, 8, 9, 23, a 13th zone, a number a second time; what stands behind each is kept
    ∷ row (damaged (strange ++ zone1)) (after 46 zone1) (line 16 7 left_out ∷ [])
    ∷ row (damaged (0x0c ∷ 0x05 ∷ 0x00 ∷ 0x01 ∷ 0x09 ∷ zone1)) (after 46 zone1) (line 16 8 left_out ∷ [])
    ∷ row (damaged (string_n 0 [] ++ string_s [])) (after 22 (string_s [])) (line 16 9 left_out ∷ [])
    ∷ row (damaged (zone1 ++ tachometer_on 0x02 ++ tachometer_on 0x01)) (after 60 (zone1 ++ tachometer_on 0x01)) (line 46 23 left_out ∷ [])
    ∷ row (damaged (zones 13)) (table_of 0x78 0x01 ++ take 360 (zones 13)) (line 376 11 left_out ∷ [])
    ∷ row (damaged (zone1 ++ zone1 ++ zone_z 0x02 0x00)) (after 76 (zone1 ++ zone_z 0x02 0x00)) (line 46 12 left_out ∷ [])
    -- the fan list is that of those kept: a fan that 9 leaves out does not count, the next is kept, the third breaks 10 against it
    ∷ row (damaged (zone1 ++ fan_in 1 0x11 0xff ++ fan_f 0x05 0x06 ++ fan_f 0x05 0x06)) (after 62 (zone1 ++ fan_f 0x05 0x06))
    (line 46 9 left_out ∷ line 78 10 left_out ∷ [])
    -- one that 13 leaves out later has counted, and brings none back
    ∷ row (damaged (zone1 ++ fan_in 2 0x11 0x12 ++ fan_f 0x05 0x06)) (after 46 zone1) (line 62 10 left_out ∷ line 46 13 left_out ∷ [])
    -- an undeclared zone and a missing string: 13, and not cleared
    ∷ row (damaged (rgb_named 0x05)) (after 16 []) (line 16 13 left_out ∷ [])
    -- missing strings: the description's first, a zone descriptor's; a string that was left out is missing
    ∷ row (unnamed (zone_z 0x01 0x09 ++ rgb_named 0x09)) (after 57 (zone1 ++ rgb_named 0x00))
    (line 0 14 cleared ∷ line 16 14 cleared ∷ line 46 14 cleared ∷ [])
    ∷ row (damaged (zone_z 0x01 0x01 ++ string_s (0x41 ∷ []))) (after 46 zone1) (line 46 9 left_out ∷ line 16 14 cleared ∷ [])
    -- all of 13 before the description's 14
    ∷ row (unnamed (fan_f 0x05 0x06)) (after 16 []) (line 16 13 left_out ∷ line 0 14 cleared ∷ [])
    -- cleared first, and left out by 15 then; an element behind it is cleared before that
    ∷ row (damaged (zone1 ++ lamps 0x00 0x20 0xff ++ lamps 0x09 0x20 0xff ++ lamps 0x09 0x21 0xff))
    (after 74 (zone1 ++ lamps 0x00 0x20 0xff ++ lamps 0x00 0x21 0xff))
    (line 60 14 cleared ∷ line 74 14 cleared ∷ line 60 15 left_out ∷ [])
    -- one that 15 leaves out frees its pins for later ones; a lamp twice on one pin; a pin of the description
    ∷ row (damaged (zone1 ++ lamps 0x00 0x20 0xff ++ lamps 0x00 0x21 0x20 ++ lamps 0x00 0x21 0xff))
    (after 74 (zone1 ++ lamps 0x00 0x20 0xff ++ lamps 0x00 0x21 0xff))
    (line 60 15 left_out ∷ [])
    ∷ row (damaged (lamps 0x00 0x20 0x20 ++ zone1)) (after 46 zone1) (line 16 15 left_out ∷ [])
    ∷ row (table_a 0x01 0x00 0x80 0x20 ++ lamps 0x00 0x20 0xff ++ zone1) (table_a 0x01 46 0x80 0x20 ++ zone1) (line 16 15 left_out ∷ [])
    -- two chip selects do not clash
    ∷ row (damaged (sensor_s 0x14 ++ sensor_s 0x14 ++ zone1)) (after 88 (sensor_s 0x14 ++ sensor_s 0x14 ++ zone1)) []
    ∷ []

-- by the chip: P2.4
abbrev pub by_chip : Chip → List Row
by_chip C8051F320 = row (damaged (sensor_t 0x24 ++ zone1)) (after 66 (sensor_t 0x24 ++ zone1)) [] ∷ []
by_chip C8051F321 = row (damaged (sensor_t 0x24 ++ zone1)) (after 46 zone1) (line 16 10 left_out ∷ []) ∷ []

-- 24: fewer than 16 bytes, a revision, a device type, power units, a pin that does not exist, and one that clashes with the fault LED's
abbrev pub lost : List (List ℕ)
lost =
    []
    ∷ head_with 0x01 0x10 0x02 0x00 0x80 0xff
    ∷ table_a 0x10 0x10 0x80 0xff
    ∷ table_with 0x10 0x04 0x00 0x80 0xff
    ∷ table_a 0x01 0x10 0x7e 0xff
    ∷ table_a 0x01 0x10 0x80 0x31
    ∷ table_a 0x01 0x10 0x80 0x10
    ∷ []

-- 'once 96 are kept': then nothing more is looked at. On the 320 alone, for it takes long to compute
abbrev pub full : List Row
full = row (damaged (strange ++ strings 97 ++ strange)) (table_of 0x50 0x02 ++ take 576 (strings 97)) (line 16 7 left_out ∷ []) ∷ []
