-- The pins, each as its byte: the port in bits 7-4, the pin in bits 3-0. Which of them a chip has, and which a use permits.
-- Assumes nothing.
use Rattle.std.specs.Prelude.{ℕ, Bool, true, false, ◌&&◌, ◌||◌, not, List, [], ◌∷◌, ◌++◌, eqb}
use Rattle.format.specs.declared.pins.Use.{Use}
use Rattle.format.specs.declared.pins.Use.TheVariants.{FanPin, AnaloguePin, ChipSelect, StatusLed, HardwareRevision}
use Rattle.format.specs.declared.pins.Pin.{Pin}
use Rattle.std.specs.Prelude.{Option}
use Rattle.format.specs.declared.pins.Pin.{Pin}
use Rattle.std.specs.Prelude.{None, Some}
use Rattle.format.specs.declared.pins.Chip.{Chip}
use Rattle.format.specs.declared.pins.Chip.TheVariants.{C8051F320, C8051F321}

abbrev pub among : ℕ → List ℕ → Bool
among x [] = false
among x (y ∷ ys) = eqb x y || among x ys

-- P0.5 P0.6 P1.1 P1.2 P1.3, the 'fan list'; its order is that of the bytes
abbrev pub fan_list : List ℕ
fan_list = 0x05 ∷ 0x06 ∷ 0x11 ∷ 0x12 ∷ 0x13 ∷ []

-- 'P1.4 to P3.0, thirteen pins'
abbrev pub upper : List ℕ
upper =
    0x14 ∷ 0x15 ∷ 0x16 ∷ 0x17 ∷ 0x20 ∷ 0x21 ∷ 0x22 ∷ 0x23 ∷ 0x24 ∷ 0x25 ∷ 0x26 ∷ 0x27 ∷ 0x30 ∷ []

-- 'The pins are P0.0 to P2.7 and P3.0': 25
abbrev pub every : List ℕ
every = 0x00 ∷ 0x01 ∷ 0x02 ∷ 0x03 ∷ 0x04 ∷ 0x05 ∷ 0x06 ∷ 0x07 ∷ 0x10 ∷ 0x11 ∷ 0x12 ∷ 0x13 ∷ upper

-- 8/14: 'the C8051F321, which lacks four of the 320's pins': P2.4 to P2.7 (000, Annex A, note 3)
abbrev pub on_chip : Chip → ℕ → Bool
on_chip C8051F320 b = true
on_chip C8051F321 b = not (among b (0x24 ∷ 0x25 ∷ 0x26 ∷ 0x27 ∷ []))

abbrev pub kept_if : Bool → ℕ → List ℕ → List ℕ
kept_if true b bs = b ∷ bs
kept_if false b bs = bs

abbrev pub only : Chip → List ℕ → List ℕ
only c [] = []
only c (b ∷ bs) = kept_if (on_chip c b) b (only c bs)

-- the pins that each use permits: 'Permitted, from 000, clause 5.4'
abbrev pub listed : Use → List ℕ
listed FanPin = fan_list
listed AnaloguePin = upper
listed ChipSelect = upper ++ fan_list
listed StatusLed = upper ++ 0x00 ∷ 0x01 ∷ 0x02 ∷ 0x03 ∷ 0x04 ∷ []
listed HardwareRevision = every

-- .. of those that the chip has
abbrev pub permitted : Chip → Use → List ℕ
permitted c u = only c (listed u)

-- 'every pin in a record from now on carries its chip'
abbrev pub same_chip : Chip → Chip → Bool
same_chip C8051F320 C8051F320 = true
same_chip C8051F320 C8051F321 = false
same_chip C8051F321 C8051F320 = false
same_chip C8051F321 C8051F321 = true

abbrev pub of_chip : Chip → Pin → Bool
of_chip c p = same_chip c p.1

-- rule 10 of one pin: it is of the named chip, which has it, and its use permits it
abbrev pub allowed : Chip → Use → Pin → Bool
allowed c u p = of_chip c p && among p.0 (permitted c u)

-- 'FFh means unused. Only hardware revision, tachometer and status LED pins may be unused'
abbrev pub unused : Option Pin → Bool
unused None = true
unused (Some p) = false

abbrev pub allowed_or_unused : Chip → Use → Option Pin → Bool
allowed_or_unused c u None = true
allowed_or_unused c u (Some p) = allowed c u p

-- what stands in a place that may be unused: nothing, where the byte is FFh, or a pin of the named chip
abbrev pub standing : Chip → Option Pin → Bool
standing c None = true
standing c (Some p) = of_chip c p && not (eqb p.0 0xff)
