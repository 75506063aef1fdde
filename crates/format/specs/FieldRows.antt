-- One element of each of the fourteen kinds as raw bytes, every field another number, and beside it the record that the tables of
-- the specification put there, field by field, its pins of the chip that the caller names. Reserved places are not zero. The bytes
-- were derived from the tables by hand and not from the layout. 31h to 39h fill fields of one byte, 41h to 4Ch those of two, lowest
-- byte first, and 96h to 99h reserved bytes.
-- Assumes nothing.
use Rattle.std.specs.Prelude.{ℕ, Bool, true, false, List, [], ◌∷◌}
use Rattle.format.specs.Records.{Block, Record, digital, analogue, fan, led, water, pump, voltage, current, controller, tachometer}
use Rattle.format.specs.Records.{zone, string, external, rgb}
use Rattle.format.specs.declared.pins.Chip.{Chip}
use Rattle.format.specs.declared.pins.Pin.{Pin}
use Rattle.std.specs.Prelude.{None, Some}
use Rattle.format.specs.declared.records.Description.{Description}
use Rattle.format.specs.declared.records.Placement.{Placement}
use Rattle.format.specs.declared.records.RegisterPair.{RegisterPair}
use Rattle.format.specs.declared.records.Address.TheVariants.{Bus, Select}

pub record FieldRow : Type 0 where
  pub bytes : List ℕ
  pub holds : Record

infixr 4 ◌holds◌
abbrev pub ◌holds◌ : List ℕ → Record → FieldRow
bytes holds r = record { bytes = bytes; holds = r }

-- bytes 3 to 7 of twelve of the kinds: STRING INDEX, X POS, Y POS, Z POS, ZONE IDENTIFIER
abbrev pub placed : Placement
placed = record { string = 0x31; x = record { 0 = 0x32 }; y = record { 0 = 0x33 }; z = record { 0 = 0x34 }; zone = 0x35 }

-- PORT and PIN as one byte
abbrev pub pin_at : Chip → ℕ → Pin
pin_at c b = record { 0 = b; 1 = c }

-- Table 23: REGISTER ADDRESS, REGISTER DATA
abbrev pub pair1 : RegisterPair
pair1 = record { address = 0x4241; «data» = 0x4443 }

abbrev pub pair2 : RegisterPair
pair2 = record { address = 0x4645; «data» = 0x4847 }

abbrev pub pair3 : RegisterPair
pair3 = record { address = 0x4a49; «data» = 0x4c4b }

-- Table 22: SPEED, ENTRIES 2 and ENTRIES 1
abbrev pub block1 : Block
block1 = record { speed = record { 0 = 0x37 }; pairs = pair1 ∷ pair2 ∷ [] }

abbrev pub block2 : Block
block2 = record { speed = record { 0 = 0x38 }; pairs = pair3 ∷ [] }

-- Table 30: ZONE IDENTIFIER, STRING INDEX, flags, six temperatures and fan speeds
abbrev pub zone_part : List ℕ
zone_part =
    0x31 ∷ 0x32 ∷ 0x33
    ∷ 0x41 ∷ 0x42 ∷ 0x43 ∷ 0x44
    ∷ 0x45 ∷ 0x46 ∷ 0x47 ∷ 0x48
    ∷ 0x49 ∷ 0x4a ∷ 0x4b ∷ 0x4c
    ∷ 0x4d ∷ 0x4e ∷ 0x4f ∷ 0x50
    ∷ 0x51 ∷ 0x52 ∷ 0x53 ∷ 0x54
    ∷ 0x55 ∷ 0x56 ∷ 0x57 ∷ 0x58
    ∷ []

-- Table 29: STRING ID, LOCALE ID, STRING DATA
abbrev pub string_part : List ℕ
string_part = 0x31 ∷ 0x41 ∷ 0x42 ∷ 0x43 ∷ 0x44 ∷ 0x45 ∷ 0x46 ∷ []

abbrev pub string_text : List ℕ
string_text = 0x43 ∷ 0x44 ∷ 0x45 ∷ 0x46 ∷ []

abbrev pub field_rows : Chip → List FieldRow
field_rows c =
    -- Table 11, byte 8 with BUS TYPE 1, byte 9 with BUS ADDRESS 36h
    (0x01 ∷ 0x15 ∷ 0x00 ∷ 0x31 ∷ 0x32 ∷ 0x33 ∷ 0x34 ∷ 0x35 ∷ 0xf1 ∷ 0x6d ∷ 0x99
    ∷ 0x41 ∷ 0x42 ∷ 0x43 ∷ 0x44 ∷ 0x45 ∷ 0x46 ∷ 0x37 ∷ 0x47 ∷ 0x48 ∷ 0x38 ∷ []
    holds digital (record {
      placement = placed;
      bus = 1;
      address = Bus 0x36;
      lsb = 0x4241;
      msb = 0x4443;
      minvalue = 0x4645;
      mintemp = record { 0 = 0x37 };
      maxvalue = 0x4847;
      maxtemp = record { 0 = 0x38 };
    }))
    -- Table 12
    ∷ (0x02 ∷ 0x14 ∷ 0x00 ∷ 0x31 ∷ 0x32 ∷ 0x33 ∷ 0x34 ∷ 0x35 ∷ 0xf9 ∷ 0x36
    ∷ 0x41 ∷ 0x42 ∷ 0x43 ∷ 0x44 ∷ 0x45 ∷ 0x46 ∷ 0x47 ∷ 0x48 ∷ 0x49 ∷ 0x4a ∷ []
    holds analogue (record {
      placement = placed;
      thermal = 9;
      pin = pin_at c 0x36;
      at0 = record { 0 = 0x4241 };
      at25 = record { 0 = 0x4443 };
      at50 = record { 0 = 0x4645 };
      at75 = record { 0 = 0x4847 };
      at100 = record { 0 = 0x4a49 };
    }))
    -- Table 14
    ∷ (0x03 ∷ 0x10 ∷ 0x00 ∷ 0x31 ∷ 0x32 ∷ 0x33 ∷ 0x34 ∷ 0x35
    ∷ 0x36 ∷ 0x37 ∷ 0x38 ∷ 0x41 ∷ 0x42 ∷ 0x43 ∷ 0x44 ∷ 0x39 ∷ []
    holds fan (record {
      placement = placed;
      pwm = pin_at c 0x36;
      tachometer = Some (pin_at c 0x37);
      ppr = 0x38;
      minrpm = record { 0 = 0x4241 };
      maxrpm = record { 0 = 0x4443 };
      duty = 0x39;
    }))
    -- the same, with no tachometer
    ∷ (0x03 ∷ 0x10 ∷ 0x00 ∷ 0x31 ∷ 0x32 ∷ 0x33 ∷ 0x34 ∷ 0x35
    ∷ 0x36 ∷ 0xff ∷ 0x38 ∷ 0x41 ∷ 0x42 ∷ 0x43 ∷ 0x44 ∷ 0x39 ∷ []
    holds fan (record {
      placement = placed;
      pwm = pin_at c 0x36;
      tachometer = None;
      ppr = 0x38;
      minrpm = record { 0 = 0x4241 };
      maxrpm = record { 0 = 0x4443 };
      duty = 0x39;
    }))
    -- Table 15
    ∷ (0x04 ∷ 0x0e ∷ 0x00 ∷ 0x31 ∷ 0x32 ∷ 0x33 ∷ 0x34 ∷ 0x35
    ∷ 0x36 ∷ 0x12 ∷ 0x37 ∷ 0x45 ∷ 0x38 ∷ 0x78 ∷ []
    holds led (record {
      placement = placed;
      one = record { pin = Some (pin_at c 0x36); colour = 1; purpose = 2 };
      two = record { pin = Some (pin_at c 0x37); colour = 4; purpose = 5 };
      three = record { pin = Some (pin_at c 0x38); colour = 7; purpose = 8 };
    }))
    -- Table 18
    ∷ (0x05 ∷ 0x0f ∷ 0x00 ∷ 0x31 ∷ 0x32 ∷ 0x33 ∷ 0x34 ∷ 0x35
    ∷ 0x36 ∷ 0x41 ∷ 0x42 ∷ 0x43 ∷ 0x44 ∷ 0x45 ∷ 0x46 ∷ []
    holds water (record {
      placement = placed;
      pin = pin_at c 0x36;
      full = record { 0 = 0x4241 };
      empty = record { 0 = 0x4443 };
      warning = record { 0 = 0x4645 };
    }))
    -- 8.9: Table 14 under 06h
    ∷ (0x06 ∷ 0x10 ∷ 0x00 ∷ 0x31 ∷ 0x32 ∷ 0x33 ∷ 0x34 ∷ 0x35
    ∷ 0x36 ∷ 0x37 ∷ 0x38 ∷ 0x41 ∷ 0x42 ∷ 0x43 ∷ 0x44 ∷ 0x39 ∷ []
    holds pump (record {
      placement = placed;
      pwm = pin_at c 0x36;
      tachometer = Some (pin_at c 0x37);
      ppr = 0x38;
      minrpm = record { 0 = 0x4241 };
      maxrpm = record { 0 = 0x4443 };
      duty = 0x39;
    }))
    -- Table 19, VMAX in byte 9 and VMIN in byte 10
    ∷ (0x07 ∷ 0x0b ∷ 0x00 ∷ 0x31 ∷ 0x32 ∷ 0x33 ∷ 0x34 ∷ 0x35 ∷ 0x36 ∷ 0x37 ∷ 0x38 ∷ []
    holds voltage (record {
      placement = placed;
      pin = pin_at c 0x36;
      vmax = record { 0 = 0x37 };
      vmin = record { 0 = 0x38 };
    }))
    -- Table 20
    ∷ (0x08 ∷ 0x0e ∷ 0x00 ∷ 0x31 ∷ 0x32 ∷ 0x33 ∷ 0x34 ∷ 0x35
    ∷ 0x36 ∷ 0x99 ∷ 0x41 ∷ 0x42 ∷ 0x43 ∷ 0x44 ∷ []
    holds current (record {
      placement = placed;
      pin = pin_at c 0x36;
      imin = record { 0 = 0x4241 };
      imax = record { 0 = 0x4443 };
    }))
    -- Table 21, byte 8 with BUS TYPE 3, byte 9 the chip select
    ∷ (0x09 ∷ 0x1b ∷ 0x00 ∷ 0x31 ∷ 0x32 ∷ 0x33 ∷ 0x34 ∷ 0x35 ∷ 0xf3 ∷ 0x36 ∷ 0x99
    ∷ 0x37 ∷ 0x02 ∷ 0x41 ∷ 0x42 ∷ 0x43 ∷ 0x44 ∷ 0x45 ∷ 0x46 ∷ 0x47 ∷ 0x48
    ∷ 0x38 ∷ 0x01 ∷ 0x49 ∷ 0x4a ∷ 0x4b ∷ 0x4c ∷ []
    holds controller (record { placement = placed; bus = 3; address = Select (pin_at c 0x36) }) (block1 ∷ block2 ∷ []))
    -- Table 24, byte 8 with BUS TYPE 2, byte 9 with BUS ADDRESS 36h
    ∷ (0x0a ∷ 0x1a ∷ 0x00 ∷ 0x31 ∷ 0x32 ∷ 0x33 ∷ 0x34 ∷ 0x35 ∷ 0xf2 ∷ 0x6d ∷ 0x99 ∷ 0x98
    ∷ 0x02 ∷ 0x41 ∷ 0x42 ∷ 0x43 ∷ 0x44 ∷ 0x45 ∷ 0x46 ∷ 0x47 ∷ 0x48
    ∷ 0x01 ∷ 0x49 ∷ 0x4a ∷ 0x4b ∷ 0x4c ∷ []
    holds tachometer (record { placement = placed; bus = 2; address = Bus 0x36 }) (pair1 ∷ pair2 ∷ []) (pair3 ∷ []))
    -- Table 30, Table 29
    ∷ (0x0b ∷ 0x1e ∷ 0x00 ∷ zone_part holds zone zone_part)
    ∷ (0x0c ∷ 0x0a ∷ 0x00 ∷ string_part holds string string_part)
    -- Table 27, byte 8 with BUS TYPE 1, byte 9 with BUS ADDRESS 36h; one red pair, no green and two blue
    ∷ (0x0d ∷ 0x1b ∷ 0x00 ∷ 0x31 ∷ 0x32 ∷ 0x33 ∷ 0x34 ∷ 0x35 ∷ 0xf1 ∷ 0x6d ∷ 0x99 ∷ 0x37
    ∷ 0x01 ∷ 0x41 ∷ 0x42 ∷ 0x43 ∷ 0x44
    ∷ 0x00
    ∷ 0x02 ∷ 0x45 ∷ 0x46 ∷ 0x47 ∷ 0x48 ∷ 0x49 ∷ 0x4a ∷ 0x4b ∷ 0x4c ∷ []
    holds external
    (record { device = record { placement = placed; bus = 1; address = Bus 0x36 }; identifier = 0x37 })
    (pair1 ∷ [])
    []
    (pair2 ∷ pair3 ∷ []))
    -- Table 26
    ∷ (0x0e ∷ 0x0b ∷ 0x00 ∷ 0x31 ∷ 0x32 ∷ 0x33 ∷ 0x34 ∷ 0x35 ∷ 0x36 ∷ 0x37 ∷ 0x38 ∷ []
    holds rgb (record {
      placement = placed;
      red = pin_at c 0x36;
      green = pin_at c 0x37;
      blue = pin_at c 0x38;
    }))
    ∷ []

-- Table 4, byte 8 with SPWR 1 and POWER UNITS 36h, and with SPWR 0; the third hardware revision pin is unused
abbrev pub opening_row : ℕ → List ℕ
opening_row power =
    0x01 ∷ 0x10 ∷ 0x00 ∷ 0x31 ∷ 0x32 ∷ 0x41 ∷ 0x42 ∷ 0x43 ∷ power ∷ 0x37 ∷ 0x38 ∷ 0xff ∷ 0x99 ∷ 0x98 ∷ 0x97 ∷ 0x96 ∷ []

abbrev pub description_row : Chip → Bool → Description
description_row c spwr =
    record {
      device = 0x31;
      string = 0x32;
      serial = 0x434241;
      spwr = spwr;
      power = record { 0 = 0x36 };
      revision0 = Some (pin_at c 0x37);
      revision1 = Some (pin_at c 0x38);
      revision2 = None;
    }

-- a position with FFh where a test is true
abbrev pub axis : Bool → ℕ
axis true = 0xff
axis false = 0x32

abbrev pub position : Bool → Bool → Bool → Placement
position x y z = record { string = 0x31; x = record { 0 = axis x }; y = record { 0 = axis y }; z = record { 0 = axis z }; zone = 0x35 }
