-- The fan list through the whole table (2/14): 'the fan-list pins of all fans, pumps and controller RGB elements, taken in element
-- order, must rise'. A pin is its byte, whose order is that of the list.
-- Assumes nothing.
use Rattle.std.specs.Prelude.{ℕ, Bool, true, ◌&&◌, List, [], ◌∷◌, ◌++◌, ltb}
use Rattle.format.specs.Records.{Record, digital, analogue, fan, led, water, pump, voltage, current, controller, tachometer, zone}
use Rattle.format.specs.Records.{string, external, rgb}
use Rattle.std.specs.Prelude.{Option}
use Rattle.format.specs.declared.pins.Pin.{Pin}
use Rattle.std.specs.Prelude.{None, Some}

abbrev pub used_pin : Option Pin → List ℕ
used_pin None = []
used_pin (Some p) = p.0 ∷ []

-- those of one element, in field order; 'chip selects are not counted'
abbrev pub fan_pins : Record → List ℕ
fan_pins (digital d) = []
fan_pins (analogue a) = []
fan_pins (fan f) = f.pwm.0 ∷ used_pin f.tachometer
fan_pins (led l) = []
fan_pins (water w) = []
fan_pins (pump f) = f.pwm.0 ∷ used_pin f.tachometer
fan_pins (voltage v) = []
fan_pins (current c) = []
fan_pins (controller d bs) = []
fan_pins (tachometer d a b) = []
fan_pins (zone bytes) = []
fan_pins (string bytes) = []
fan_pins (external x r g b) = []
fan_pins (rgb r) = r.red.0 ∷ r.green.0 ∷ r.blue.0 ∷ []

-- those of all elements, 'taken in element order'
abbrev pub all_fan_pins : List Record → List ℕ
all_fan_pins [] = []
all_fan_pins (r ∷ rs) = fan_pins r ++ all_fan_pins rs

-- the last of some pins after another one
abbrev pub last_pin : ℕ → List ℕ → ℕ
last_pin p [] = p
last_pin p (q ∷ qs) = last_pin q qs

-- 'the last one used', however far back; 0, which comes before every pin of the list, where none is used
abbrev pub last_used : List Record → ℕ
last_used rs = last_pin 0 (all_fan_pins rs)

-- 10: 'an element whose first fan-list pin does not come after the last one used'; here, that it does
abbrev pub comes_after : ℕ → List ℕ → Bool
comes_after p [] = true
comes_after p (q ∷ qs) = ltb p q

abbrev pub in_order : List Record → Record → Bool
in_order before r = comes_after (last_used before) (fan_pins r)

-- pins that 'rise': each comes after the one before it, and the first after another one
abbrev pub rise : ℕ → List ℕ → Bool
rise p [] = true
rise p (q ∷ qs) = ltb p q && rise q qs
