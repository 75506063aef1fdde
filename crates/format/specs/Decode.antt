-- From bytes to records, as a function: what a reader does. No statement of `Verdict` names it.
-- Assumes nothing.
use Rattle.std.specs.Prelude.{ℕ, zero, suc, ◌+◌, ◌-◌, ◌*◌, ◌/◌, ◌%◌, Bool, true, false, List, [], ◌∷◌, length, take, drop, eqb, leb}
use Rattle.std.proofs.Math.Option.{Option, none, some}
use Rattle.format.specs.Slots.{byte}
use Rattle.format.specs.Records.{Block, Record, digital, analogue, fan, led, water, pump, voltage, current, controller, tachometer}
use Rattle.format.specs.Records.{zone, string, external, rgb}
use Rattle.format.specs.Verdict.{stated}
use Rattle.format.specs.declared.pins.Chip.{Chip}
use Rattle.format.specs.declared.pins.Pin.{Pin}
use Rattle.std.specs.Prelude.{Option as Optional}
use Rattle.format.specs.declared.pins.Pin.{Pin}
use Rattle.std.specs.Prelude.{None, Some}
use Rattle.format.specs.declared.records.Description.{Description}
use Rattle.format.specs.declared.records.Placement.{Placement}
use Rattle.format.specs.declared.records.DigitalSensor.{DigitalSensor}
use Rattle.format.specs.declared.records.AnalogueSensor.{AnalogueSensor}
use Rattle.format.specs.declared.records.PwmFan.{PwmFan}
use Rattle.format.specs.declared.records.Lamp.{Lamp}
use Rattle.format.specs.declared.records.StatusLed.{StatusLed}
use Rattle.format.specs.declared.records.WaterLevel.{WaterLevel}
use Rattle.format.specs.declared.records.VoltageSensor.{VoltageSensor}
use Rattle.format.specs.declared.records.CurrentSensor.{CurrentSensor}
use Rattle.format.specs.declared.records.BusDevice.{BusDevice}
use Rattle.format.specs.declared.records.ExternalRgb.{ExternalRgb}
use Rattle.format.specs.declared.records.RgbLed.{RgbLed}
use Rattle.format.specs.declared.records.RegisterPair.{RegisterPair}
use Rattle.format.specs.declared.records.Address.{Address}
use Rattle.format.specs.declared.records.Address.TheVariants.{Bus, Select}

-- a pin of a chip by its byte, and what stands in a place that may be unused
abbrev pub pin_of : Chip → ℕ → Pin
pin_of c b = record { 0 = b; 1 = c }

abbrev pub pick_pin : Bool → Pin → Optional Pin
pick_pin true p = None
pick_pin false p = Some p

abbrev pub optional_of : Chip → ℕ → Optional Pin
optional_of c b = pick_pin (eqb b 0xff) (pin_of c b)

-- each record by its numbers and pins, in the order of its fields
abbrev pub placement_of : ℕ → ℕ → ℕ → ℕ → ℕ → Placement
placement_of s x y z n =
    record { string = s; x = record { 0 = x }; y = record { 0 = y }; z = record { 0 = z }; zone = n }

abbrev pub digital_of : Placement → ℕ → Address → ℕ → ℕ → ℕ → ℕ → ℕ → ℕ → DigitalSensor
digital_of p bus a lsb msb v t w u =
    record {
      placement = p;
      bus = bus;
      address = a;
      lsb = lsb;
      msb = msb;
      minvalue = v;
      mintemp = record { 0 = t };
      maxvalue = w;
      maxtemp = record { 0 = u };
    }

abbrev pub analogue_of : Placement → ℕ → Pin → ℕ → ℕ → ℕ → ℕ → ℕ → AnalogueSensor
analogue_of p t pin a b c d e =
    record {
      placement = p;
      thermal = t;
      pin = pin;
      at0 = record { 0 = a };
      at25 = record { 0 = b };
      at50 = record { 0 = c };
      at75 = record { 0 = d };
      at100 = record { 0 = e };
    }

abbrev pub fan_of : Placement → Pin → Optional Pin → ℕ → ℕ → ℕ → ℕ → PwmFan
fan_of p pwm t ppr a b duty =
    record {
      placement = p;
      pwm = pwm;
      tachometer = t;
      ppr = ppr;
      minrpm = record { 0 = a };
      maxrpm = record { 0 = b };
      duty = duty;
    }

abbrev pub lamp_of : Optional Pin → ℕ → ℕ → Lamp
lamp_of pin c u = record { pin = pin; colour = c; purpose = u }

abbrev pub led_of : Placement → Lamp → Lamp → Lamp → StatusLed
led_of p a b c = record { placement = p; one = a; two = b; three = c }

abbrev pub water_of : Placement → Pin → ℕ → ℕ → ℕ → WaterLevel
water_of p pin a b c =
    record { placement = p; pin = pin; full = record { 0 = a }; empty = record { 0 = b }; warning = record { 0 = c } }

abbrev pub voltage_of : Placement → Pin → ℕ → ℕ → VoltageSensor
voltage_of p pin a b =
    record { placement = p; pin = pin; vmax = record { 0 = a }; vmin = record { 0 = b } }

abbrev pub current_of : Placement → Pin → ℕ → ℕ → CurrentSensor
current_of p pin a b =
    record { placement = p; pin = pin; imin = record { 0 = a }; imax = record { 0 = b } }

abbrev pub device_of : Placement → ℕ → Address → BusDevice
device_of p bus a = record { placement = p; bus = bus; address = a }

abbrev pub external_of : BusDevice → ℕ → ExternalRgb
external_of d i = record { device = d; identifier = i }

abbrev pub rgb_of : Placement → Pin → Pin → Pin → RgbLed
rgb_of p r g b = record { placement = p; red = r; green = g; blue = b }

abbrev pub description_of : ℕ → ℕ → ℕ → Bool → ℕ → Optional Pin → Optional Pin → Optional Pin → Description
description_of k s n f u a b c =
    record {
      device = k;
      string = s;
      serial = n;
      spwr = f;
      power = record { 0 = u };
      revision0 = a;
      revision1 = b;
      revision2 = c;
    }

abbrev pub pair_of : ℕ → ℕ → RegisterPair
pair_of a v = record { address = a; «data» = v }

abbrev pub block_of : ℕ → List RegisterPair → Block
block_of s ps = record { speed = record { 0 = s }; pairs = ps }

-- the records in the bytes after the header, given byte by byte
abbrev pub word_at : (ℕ → ℕ) → ℕ → ℕ
word_at f i = f i + 256 * f (i + 1)

abbrev pub read_placement : (ℕ → ℕ) → Placement
read_placement f = placement_of (f 0) (f 1) (f 2) (f 3) (f 4)

abbrev pub pick_address : Chip → Bool → ℕ → Address
pick_address c true b = Select (pin_of c b)
pick_address c false b = Bus (b / 2)

abbrev pub read_address : Chip → (ℕ → ℕ) → Address
read_address c f = pick_address c (eqb (f 5 % 16) 3) (f 6)

abbrev pub read_digital : Chip → (ℕ → ℕ) → DigitalSensor
read_digital c f =
    digital_of (read_placement f) (f 5 % 16) (read_address c f) (word_at f 8) (word_at f 10) (word_at f 12) (f 14) (word_at f 15) (f 17)

abbrev pub read_analogue : Chip → (ℕ → ℕ) → AnalogueSensor
read_analogue c f =
    analogue_of (read_placement f) (f 5 % 16) (pin_of c (f 6)) (word_at f 7) (word_at f 9) (word_at f 11) (word_at f 13) (word_at f 15)

abbrev pub read_fan : Chip → (ℕ → ℕ) → PwmFan
read_fan c f = fan_of (read_placement f) (pin_of c (f 5)) (optional_of c (f 6)) (f 7) (word_at f 8) (word_at f 10) (f 12)

abbrev pub read_lamp : Chip → (ℕ → ℕ) → ℕ → Lamp
read_lamp c f i = lamp_of (optional_of c (f i)) (f (suc i) / 16) (f (suc i) % 16)

abbrev pub read_led : Chip → (ℕ → ℕ) → StatusLed
read_led c f = led_of (read_placement f) (read_lamp c f 5) (read_lamp c f 7) (read_lamp c f 9)

abbrev pub read_water : Chip → (ℕ → ℕ) → WaterLevel
read_water c f = water_of (read_placement f) (pin_of c (f 5)) (word_at f 6) (word_at f 8) (word_at f 10)

abbrev pub read_voltage : Chip → (ℕ → ℕ) → VoltageSensor
read_voltage c f = voltage_of (read_placement f) (pin_of c (f 5)) (f 6) (f 7)

abbrev pub read_current : Chip → (ℕ → ℕ) → CurrentSensor
read_current c f = current_of (read_placement f) (pin_of c (f 5)) (word_at f 7) (word_at f 9)

abbrev pub read_device : Chip → (ℕ → ℕ) → BusDevice
read_device c f = device_of (read_placement f) (f 5 % 16) (read_address c f)

abbrev pub read_external : Chip → (ℕ → ℕ) → ExternalRgb
read_external c f = external_of (read_device c f) (f 8)

abbrev pub read_rgb : Chip → (ℕ → ℕ) → RgbLed
read_rgb c f = rgb_of (read_placement f) (pin_of c (f 5)) (pin_of c (f 6)) (pin_of c (f 7))

abbrev pub read_description : Chip → (ℕ → ℕ) → Description
read_description c f =
    description_of (f 3) (f 4) (f 5 + 256 * f 6 + 65536 * f 7) (leb 128 (f 8)) (f 8 % 128) (optional_of c (f 9)) (optional_of c (f 10))
    (optional_of c (f 11))

-- the element's bytes after its header
abbrev pub content : List ℕ → List ℕ
content bs = take (stated bs - 3) (drop 3 bs)

-- so many register pairs
abbrev pub read_pairs : ℕ → List ℕ → List RegisterPair
read_pairs zero bs = []
read_pairs (suc n) bs = pair_of (word_at (byte bs) 0) (word_at (byte bs) 2) ∷ read_pairs n (drop 4 bs)

abbrev pub guard : {A : Type 0} → Bool → Option A → Option A
guard true a = a
guard false a = none

abbrev pub bind : {A B : Type 0} → Option A → (A → Option B) → Option B
bind none f = none
bind (some a) f = f a

-- ENTRIES and that many pairs, and what follows them
abbrev pub cut_entries : List ℕ → Option (List RegisterPair × List ℕ)
cut_entries [] = none
cut_entries (k ∷ bs) = guard (leb (4 * k) (length bs)) (some (read_pairs k bs, drop (4 * k) bs))

-- speed blocks to the end, of bytes that are no more than the first number
abbrev pub cut_blocks : ℕ → List ℕ → Option (List Block)
cut_blocks zero [] = some []
cut_blocks zero (s ∷ bs) = none
cut_blocks (suc n) [] = some []
cut_blocks (suc n) (s ∷ bs) =
    bind (cut_entries bs) (λ c. bind (cut_blocks n c.1) (λ more. some (block_of s c.0 ∷ more)))

-- two blocks of ENTRIES and pairs, to the end, and three
abbrev pub when_nil : {A : Type 0} → List ℕ → A → Option A
when_nil [] a = some a
when_nil (b ∷ bs) a = none

abbrev pub cut_two : List ℕ → Option (List RegisterPair × List RegisterPair)
cut_two bs = bind (cut_entries bs) (λ c. bind (cut_entries c.1) (λ d. when_nil d.1 (c.0, d.0)))

abbrev pub cut_three : List ℕ → Option (List RegisterPair × List RegisterPair × List RegisterPair)
cut_three bs = bind (cut_entries bs) (λ c. bind (cut_two c.1) (λ t. some (c.0, t.0, t.1)))

abbrev pub pick : Bool → Option Record → Option Record → Option Record
pick true a b = a
pick false a b = b

-- the record in the bytes after a header, by its identifier, where they have the layout's length
unfoldable pub decode : Chip → ℕ → List ℕ → Option Record
decode k id c =
    pick (eqb id 0x01) (guard (eqb (length c) 18) (some (digital (read_digital k (byte c)))))
    (pick (eqb id 0x02) (guard (eqb (length c) 17) (some (analogue (read_analogue k (byte c)))))
    (pick (eqb id 0x03) (guard (eqb (length c) 13) (some (fan (read_fan k (byte c)))))
    (pick (eqb id 0x04) (guard (eqb (length c) 11) (some (led (read_led k (byte c)))))
    (pick (eqb id 0x05) (guard (eqb (length c) 12) (some (water (read_water k (byte c)))))
    (pick (eqb id 0x06) (guard (eqb (length c) 13) (some (pump (read_fan k (byte c)))))
    (pick (eqb id 0x07) (guard (eqb (length c) 8) (some (voltage (read_voltage k (byte c)))))
    (pick (eqb id 0x08) (guard (eqb (length c) 11) (some (current (read_current k (byte c)))))
    (pick (eqb id 0x09)
    (guard (leb 8 (length c)) (bind (cut_blocks (length c) (drop 8 c)) (λ l. some (controller (read_device k (byte c)) l))))
    (pick (eqb id 0x0a)
    (guard (leb 9 (length c)) (bind (cut_two (drop 9 c)) (λ t. some (tachometer (read_device k (byte c)) t.0 t.1))))
    (pick (eqb id 0x0b) (some (zone c))
    (pick (eqb id 0x0c) (some (string c))
    (pick (eqb id 0x0d)
    (guard (leb 9 (length c))
    (bind (cut_three (drop 9 c)) (λ t. some (external (read_external k (byte c)) t.0 t.1 t.2))))
    (pick (eqb id 0x0e) (guard (eqb (length c) 8) (some (rgb (read_rgb k (byte c))))) none)))))))))))))
