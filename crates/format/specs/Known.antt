-- The starred rows of 'Known tables', rows of two faults at once, of a zone descriptor after the element that names it, of pins and of
-- the fan list. Others tell the chips apart, the ordinary reader from the archive's, and well-formed text from malformed. Their answers
-- are proved of the verdict itself, under all settings.
-- Assumes nothing.
use Rattle.std.specs.Prelude.{ℕ, ◌+◌, List, [], ◌∷◌, ◌++◌, length}
use Rattle.format.specs.declared.pins.Chip.{Chip}
use Rattle.format.specs.declared.pins.Chip.TheVariants.{C8051F320, C8051F321}
use Rattle.format.specs.declared.settings.Rules.{Rules}
use Rattle.format.specs.declared.settings.Rules.TheVariants.{Ordinary, Archive}
use Rattle.format.specs.Answers.{Answer}
use Rattle.format.specs.Answers.{Gives as Accepted, Refused}

-- table A without its last byte, but for byte 0, byte 1, byte 3, byte 4, byte 8 and byte 9
abbrev pub head_with : ℕ → ℕ → ℕ → ℕ → ℕ → ℕ → List ℕ
head_with revision n device string power pin =
    revision ∷ n ∷ 0x00 ∷ device ∷ string ∷ 0x07 ∷ 0x00 ∷ 0x00 ∷ power ∷ pin ∷ 0xff ∷ 0xff ∷ 0x00 ∷ 0x00 ∷ 0x00 ∷ []

-- table A, but for byte 0, byte 1, byte 8 and byte 9
abbrev pub table_a : ℕ → ℕ → ℕ → ℕ → List ℕ
table_a revision n power pin = head_with revision n 0x02 0x00 power pin ++ 0x00 ∷ []

-- table A, but for its length by its two bytes
abbrev pub table_of : ℕ → ℕ → List ℕ
table_of low high =
    0x01 ∷ low ∷ high ∷ 0x02 ∷ 0x00 ∷ 0x07 ∷ 0x00 ∷ 0x00 ∷ 0x80 ∷ 0xff ∷ 0xff ∷ 0xff ∷ 0x00 ∷ 0x00 ∷ 0x00 ∷ 0x00 ∷ []

-- A with its length mended and an element added
abbrev pub after : ℕ → List ℕ → List ℕ
after n element = table_a 0x01 n 0x80 0xff ++ element

-- fan F without its last byte: its length, PWM and tachometer pin
abbrev pub head_f : ℕ → ℕ → ℕ → List ℕ
head_f n pwm tachometer =
    0x03 ∷ n ∷ 0x00 ∷ 0x00 ∷ 0xff ∷ 0xff ∷ 0xff ∷ 0x01 ∷ pwm ∷ tachometer ∷ 0x02 ∷ 0x2c ∷ 0x01 ∷ 0xdc ∷ 0x05 ∷ []

abbrev pub fan_f : ℕ → ℕ → List ℕ
fan_f pwm tachometer = head_f 0x10 pwm tachometer ++ 0x40 ∷ []

-- controller C: its bus type and its ENTRIES
abbrev pub controller_on : ℕ → ℕ → List ℕ
controller_on bus entries =
    0x09 ∷ 0x11 ∷ 0x00 ∷ 0x00 ∷ 0xff ∷ 0xff ∷ 0xff ∷ 0x01 ∷ bus ∷ 0x40 ∷ 0x00 ∷ 0x05 ∷ entries ∷ 0x07 ∷ 0x00 ∷ 0x0c ∷ 0x00 ∷ []

abbrev pub controller_c : ℕ → List ℕ
controller_c entries = controller_on 0x00 entries

pub record Row : Type 0 where
  pub bytes : List ℕ
  pub answer : Answer

infixr 4 ◌gives◌
abbrev pub ◌gives◌ : List ℕ → Answer → Row
bytes gives answer = record { bytes = bytes; answer = answer }

abbrev pub starred : List Row
starred =
    (table_a 0x01 0x10 0x80 0xff gives Accepted 0)
    ∷ (head_with 0x01 0x10 0x02 0x00 0x80 0xff gives Refused 1 0)
    ∷ ([] gives Refused 1 0)
    ∷ (table_a 0x10 0x10 0x80 0xff gives Refused 2 0)
    ∷ (table_a 0x01 17 0x80 0xff gives Refused 3 0)
    ∷ (table_a 0x01 0x10 0x7d 0xff gives Accepted 0)
    ∷ (table_a 0x01 0x10 0x7e 0xff gives Refused 5 0)
    ∷ (table_a 0x01 0x10 0x80 0x30 gives Accepted 0)
    ∷ (table_a 0x01 0x10 0x80 0x31 gives Refused 10 0)
    ∷ (table_a 0x01 0x10 0x80 0x10 gives Refused 15 0)
    ∷ (after 18 (0x03 ∷ 0x10 ∷ []) gives Refused 6 16)
    ∷ (after 32 (fan_f 0x05 0x06) gives Refused 13 16)
    ∷ (after 32 (fan_f 0x05 0xff) gives Refused 9 16)
    ∷ (after 32 (fan_f 0x06 0x05) gives Refused 10 16)
    ∷ (after 31 (head_f 15 0x05 0x06) gives Refused 8 16)
    ∷ (after 33 (controller_c 1) gives Refused 13 16)
    ∷ (after 33 (controller_c 2) gives Refused 8 16)
    ∷ (after 33 (controller_c 0) gives Refused 9 16)
    ∷ []

-- Two faults at once: the answer is the first in document 01's order.

-- table A, but for byte 1, byte 3, byte 4, byte 8 and byte 9
abbrev pub table_with : ℕ → ℕ → ℕ → ℕ → ℕ → List ℕ
table_with n device string power pin = head_with 0x01 n device string power pin ++ 0x00 ∷ []

abbrev pub twofold : List Row
twofold =
    -- 2 and 3, 4 and 5, 5 and 10, 10 of the description and 6
    (table_a 0x10 17 0x80 0xff gives Refused 2 0)
    ∷ (table_with 16 0x04 0x00 0x7e 0xff gives Refused 4 0)
    ∷ (table_with 16 0x02 0x00 0x7e 0x31 gives Refused 5 0)
    ∷ (table_with 18 0x02 0x00 0x80 0x31 ++ 0x03 ∷ 0x10 ∷ [] gives Refused 10 0)
    -- 9 and 10, 10 and 13
    ∷ (after 32 (fan_f 0x00 0xff) gives Refused 9 16)
    ∷ (after 32 (fan_f 0x00 0x06) gives Refused 10 16)
    -- 13 and 14 of the description, 14 and 15
    ∷ (table_with 32 0x02 0x09 0x80 0xff ++ fan_f 0x05 0x06 gives Refused 13 16)
    ∷ (table_with 16 0x02 0x09 0x80 0x10 gives Refused 14 0)
    ∷ []

-- 'Looking a zone up as its element is met: descriptors may come later.'

-- a zone descriptor with this number and string index
abbrev pub zone_z : ℕ → ℕ → List ℕ
zone_z number index =
    0x0b
    ∷ 0x1e ∷ 0x00
    ∷ number ∷ index ∷ 0x00
    ∷ 0x00 ∷ 0x00 ∷ 0x00 ∷ 0x00
    ∷ 0x00 ∷ 0x00 ∷ 0x00 ∷ 0x00
    ∷ 0x00 ∷ 0x00 ∷ 0x00 ∷ 0x00
    ∷ 0x00 ∷ 0x00 ∷ 0x00 ∷ 0x00
    ∷ 0x00 ∷ 0x00 ∷ 0x00 ∷ 0x00
    ∷ 0x00 ∷ 0x00 ∷ 0x00 ∷ 0x00
    ∷ []

abbrev pub zone1 : List ℕ
zone1 = zone_z 0x01 0x00

-- the row 'A, F, zone 1', and the same with the zone descriptor first
abbrev pub zoned : List Row
zoned =
    (after 62 (fan_f 0x05 0x06 ++ zone1) gives Accepted 2) ∷ (after 62 (zone1 ++ fan_f 0x05 0x06) gives Accepted 2) ∷ []

-- 'Refusing two SPI elements with one chip select'; a status LED has its own pins, and the fan list is none of them.

-- a digital sensor in zone 1, on this bus type, with this first byte of its address
abbrev pub sensor_on : ℕ → ℕ → List ℕ
sensor_on bus address =
    0x01
    ∷ 0x15 ∷ 0x00
    ∷ 0x00 ∷ 0xff ∷ 0xff ∷ 0xff ∷ 0x01
    ∷ bus ∷ address ∷ 0x00
    ∷ 0x00 ∷ 0x00 ∷ 0x00 ∷ 0x00
    ∷ 0x00 ∷ 0x00 ∷ 0x00 ∷ 0x00 ∷ 0x00 ∷ 0x00
    ∷ []

-- .. on SPI, with this chip select
abbrev pub sensor_s : ℕ → List ℕ
sensor_s select = sensor_on 0x03 select

-- a status LED in zone 1: its first lamp on this pin with this colour and purpose, the others unused and these beside them
abbrev pub lamp_l : ℕ → ℕ → ℕ → List ℕ
lamp_l pin code other =
    0x04
    ∷ 0x0e ∷ 0x00
    ∷ 0x00 ∷ 0xff ∷ 0xff ∷ 0xff ∷ 0x01
    ∷ pin ∷ code ∷ 0xff ∷ other ∷ 0xff ∷ other
    ∷ []

-- .. the lamp red
abbrev pub led_l : ℕ → List ℕ
led_l pin = lamp_l pin 0x10 0x00

abbrev pub of_pins : List Row
of_pins =
    (after 88 (sensor_s 0x14 ++ sensor_s 0x14 ++ zone1) gives Accepted 3)
    ∷ (after 60 (led_l 0x04 ++ zone1) gives Accepted 2)
    ∷ (after 60 (led_l 0x05 ++ zone1) gives Refused 10 16)
    ∷ []

-- 'The smaller chip': a pin that the 320 has and the 321 lacks.

-- an analogue sensor in zone 1: its thermal type, its pin, and VALUE100 by its two bytes
abbrev pub sensor_n : ℕ → ℕ → ℕ → ℕ → List ℕ
sensor_n thermal pin low high =
    0x02
    ∷ 0x14 ∷ 0x00
    ∷ 0x00 ∷ 0xff ∷ 0xff ∷ 0xff ∷ 0x01
    ∷ thermal ∷ pin
    ∷ 0x00 ∷ 0x00 ∷ 0x00 ∷ 0x00 ∷ 0x00 ∷ 0x00 ∷ 0x00 ∷ 0x00 ∷ low ∷ high
    ∷ []

-- .. a thermistor on this pin
abbrev pub sensor_t : ℕ → List ℕ
sensor_t pin = sensor_n 0x01 pin 0x00 0x00

-- an answer of the 320, and one of the 321
abbrev pub by : Chip → Answer → Answer → Answer
by C8051F320 a b = a
by C8051F321 a b = b

-- P2.4, P2.7, P2.5, P2.6, each in a use of its own; the zone left out: 10 before 13; P2.3 and P3.0 are on both
abbrev pub apart : Chip → List Row
apart c =
    (after 66 (sensor_t 0x24 ++ zone1) gives by c (Accepted 2) (Refused 10 16))
    ∷ (after 60 (led_l 0x27 ++ zone1) gives by c (Accepted 2) (Refused 10 16))
    ∷ (table_a 0x01 0x10 0x80 0x25 gives by c (Accepted 0) (Refused 10 0))
    ∷ (after 67 (sensor_s 0x26 ++ zone1) gives by c (Accepted 2) (Refused 10 16))
    ∷ (after 36 (sensor_t 0x24) gives by c (Refused 13 16) (Refused 10 16))
    ∷ (after 66 (sensor_t 0x23 ++ zone1) gives Accepted 2)
    ∷ (after 66 (sensor_t 0x30 ++ zone1) gives Accepted 2)
    ∷ []

-- 'The fan list runs through the whole table': 10 against the elements before.

-- a fan in zone 1 on this pin, without tachometer
abbrev pub fan_alone : ℕ → List ℕ
fan_alone pwm =
    0x03 ∷ 0x10 ∷ 0x00 ∷ 0x00 ∷ 0xff ∷ 0xff ∷ 0xff ∷ 0x01 ∷ pwm ∷ 0xff ∷ 0x00 ∷ 0x2c ∷ 0x01 ∷ 0xdc ∷ 0x05 ∷ 0x40 ∷ []

-- a controller RGB LED in zone 1
abbrev pub rgb_r : ℕ → ℕ → ℕ → List ℕ
rgb_r red green blue = 0x0e ∷ 0x0b ∷ 0x00 ∷ 0x00 ∷ 0xff ∷ 0xff ∷ 0xff ∷ 0x01 ∷ red ∷ green ∷ blue ∷ []

abbrev pub of_the_fan_list : List Row
of_the_fan_list =
    -- '"A, F, F" now answers 10 at 32, with or without the zone'
    (after 78 (fan_f 0x05 0x06 ++ fan_f 0x05 0x06 ++ zone1) gives Refused 10 32)
    ∷ (after 48 (fan_f 0x05 0x06 ++ fan_f 0x05 0x06) gives Refused 10 32)
    -- two fans in order, and 'its second fan before its first', next to it and further off
    ∷ (after 78 (fan_f 0x05 0x06 ++ fan_f 0x11 0x12 ++ zone1) gives Accepted 3)
    ∷ (after 78 (fan_f 0x11 0x12 ++ fan_f 0x05 0x06 ++ zone1) gives Refused 10 32)
    ∷ (after 78 (fan_f 0x11 0x12 ++ zone1 ++ fan_f 0x05 0x06) gives Refused 10 62)
    -- a fan without tachometer between two others, on the last pin used, and before a tachometer
    ∷ (after 94 (fan_f 0x05 0x06 ++ fan_alone 0x11 ++ fan_f 0x12 0x13 ++ zone1) gives Accepted 4)
    ∷ (after 94 (fan_f 0x05 0x06 ++ fan_alone 0x12 ++ fan_f 0x11 0x13 ++ zone1) gives Refused 10 48)
    ∷ (after 78 (fan_f 0x05 0x06 ++ fan_alone 0x06 ++ zone1) gives Refused 10 32)
    ∷ (after 78 (fan_f 0x05 0x11 ++ fan_alone 0x06 ++ zone1) gives Refused 10 32)
    -- RGB after a fan and before one
    ∷ (after 73 (fan_f 0x05 0x06 ++ rgb_r 0x11 0x12 0x13 ++ zone1) gives Accepted 3)
    ∷ (after 73 (fan_f 0x05 0x11 ++ rgb_r 0x06 0x12 0x13 ++ zone1) gives Refused 10 32)
    ∷ (after 73 (rgb_r 0x05 0x06 0x11 ++ fan_f 0x12 0x13 ++ zone1) gives Accepted 3)
    ∷ (after 73 (rgb_r 0x05 0x06 0x12 ++ fan_f 0x11 0x13 ++ zone1) gives Refused 10 27)
    -- a chip select and a hardware revision pin on P1.3 are not counted
    ∷ (after 83 (sensor_s 0x13 ++ fan_f 0x05 0x06 ++ zone1) gives Accepted 3)
    ∷ (table_with 62 0x02 0x00 0x80 0x13 ++ fan_f 0x05 0x06 ++ zone1 gives Accepted 2)
    -- 9 and 10; 10 and 12, of a later element; 10 and 14, of the description
    ∷ (after 78 (fan_f 0x05 0x06 ++ fan_f 0x05 0xff ++ zone1) gives Refused 9 32)
    ∷ (after 108 (fan_f 0x05 0x06 ++ fan_f 0x05 0x06 ++ zone1 ++ zone1) gives Refused 10 32)
    ∷ (table_with 78 0x02 0x09 0x80 0xff ++ fan_f 0x05 0x06 ++ fan_f 0x05 0x06 ++ zone1 gives Refused 10 32)
    ∷ []

-- 'SMBUS block mode is retired': 23 'directly after 9, at the element', by the ordinary rules alone.

-- an external tachometer in zone 1 on this bus type, with no entries
abbrev pub tachometer_on : ℕ → List ℕ
tachometer_on bus =
    0x0a ∷ 0x0e ∷ 0x00 ∷ 0x00 ∷ 0xff ∷ 0xff ∷ 0xff ∷ 0x01 ∷ bus ∷ 0x40 ∷ 0x00 ∷ 0x00 ∷ 0x00 ∷ 0x00 ∷ []

-- an answer by the ordinary rules, and one by the archive's
abbrev pub by_rules : Rules → Answer → Answer → Answer
by_rules Ordinary a b = a
by_rules Archive a b = b

abbrev pub retired : Rules → List Row
retired k =
    -- each kind that has a bus type; reserved bits beside it; after an element that has none
    (after 67 (sensor_on 0x02 0x40 ++ zone1) gives by_rules k (Refused 23 16) (Accepted 2))
    ∷ (after 63 (controller_on 0x02 1 ++ zone1) gives by_rules k (Refused 23 16) (Accepted 2))
    ∷ (after 60 (tachometer_on 0x02 ++ zone1) gives by_rules k (Refused 23 16) (Accepted 2))
    ∷ (after 63 (controller_on 0xf2 1 ++ zone1) gives by_rules k (Refused 23 16) (Accepted 2))
    ∷ (after 60 (zone1 ++ tachometer_on 0x02) gives by_rules k (Refused 23 46) (Accepted 2))
    -- the others stay
    ∷ (after 60 (tachometer_on 0x01 ++ zone1) gives Accepted 2)
    ∷ (after 60 (tachometer_on 0x04 ++ zone1) gives Refused 9 16)
    -- 8 and 23, 9 and 23: ENTRIES 2 and ENTRIES 0
    ∷ (after 33 (controller_on 0x02 2) gives Refused 8 16)
    ∷ (after 33 (controller_on 0x02 0) gives Refused 9 16)
    -- 10 needs a chip select, so SPI, and cannot meet it: P1.0, and the same byte as an address
    ∷ (after 67 (sensor_on 0x03 0x10 ++ zone1) gives Refused 10 16)
    ∷ (after 67 (sensor_on 0x02 0x10 ++ zone1) gives by_rules k (Refused 23 16) (Accepted 2))
    -- 23 and 12, of the same zone twice; 23 and 13, 14 of the description, 15 with a hardware revision pin on P0.3
    ∷ (after 90 (tachometer_on 0x02 ++ zone1 ++ zone1) gives by_rules k (Refused 23 16) (Refused 12 60))
    ∷ (after 30 (tachometer_on 0x02) gives by_rules k (Refused 23 16) (Refused 13 16))
    ∷ (table_with 60 0x02 0x09 0x80 0xff ++ tachometer_on 0x02 ++ zone1 gives by_rules k (Refused 23 16) (Refused 14 0))
    ∷ (table_with 60 0x02 0x00 0x80 0x03 ++ tachometer_on 0x02 ++ zone1 gives by_rules k (Refused 23 16) (Refused 15 16))
    ∷ []

-- 'Names that can be read': a string with this number and text, and string 1.
abbrev pub string_n : ℕ → List ℕ → List ℕ
string_n number text = 0x0c ∷ (6 + length text) ∷ 0x00 ∷ number ∷ 0x09 ∷ 0x04 ∷ text

abbrev pub string_s : List ℕ → List ℕ
string_s text = string_n 0x01 text

abbrev pub called : List ℕ → List ℕ
called text = after (22 + length text) (string_s text)

abbrev pub texts : List Row
texts =
    -- no text; a pair; FFFEh, D7FFh, E000h
    (called [] gives Accepted 1)
    ∷ (called (0x3d ∷ 0xd8 ∷ 0x0a ∷ 0xde ∷ []) gives Accepted 1)
    ∷ (called (0xfe ∷ 0xff ∷ []) gives Accepted 1)
    ∷ (called (0xff ∷ 0xd7 ∷ []) gives Accepted 1)
    ∷ (called (0x00 ∷ 0xe0 ∷ []) gives Accepted 1)
    -- a lone high surrogate, one at the end, a lone low one, low before high, an odd number of bytes
    ∷ (called (0x00 ∷ 0xd8 ∷ 0x41 ∷ 0x00 ∷ []) gives Refused 9 16)
    ∷ (called (0x41 ∷ 0x00 ∷ 0xff ∷ 0xdb ∷ []) gives Refused 9 16)
    ∷ (called (0x00 ∷ 0xdc ∷ []) gives Refused 9 16)
    ∷ (called (0x0a ∷ 0xde ∷ 0x3d ∷ 0xd8 ∷ []) gives Refused 9 16)
    ∷ (called (0x41 ∷ []) gives Refused 9 16)
    ∷ (called (0x41 ∷ 0x00 ∷ 0x42 ∷ []) gives Refused 9 16)
    -- malformed and with the number of the string before: 9 before 12
    ∷ (after 30 (string_s [] ++ string_s (0xff ∷ 0xdf ∷ [])) gives Refused 9 22)
    ∷ []
