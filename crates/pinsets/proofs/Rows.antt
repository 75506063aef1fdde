-- The rows of the code are the lists of pins that each use permits: one test over all bytes, computed for each chip and use.
-- Assumes nothing.
use Prim.Native.Nat.{ℕ, ◌*◌, ◌^◌, ◌%◌, ◌<◌}
use mathlib.Core.Path.{◌≡◌, refl}
use mathlib.Core.Bool.{Bool, true, not}
use lib.Dec.{eqb, ltb}
use lib.Bits.{bit_and}
use borrow.Author.Tests.{eqb-true, ltb-true}
use Rattle.format.specs.Pins.{among, permitted, same_chip}
use Rattle.format.specs.declared.pins.Chip.{Chip}
use Rattle.format.specs.declared.pins.Chip.TheVariants.{C8051F320, C8051F321}
use Rattle.format.specs.declared.pins.Use.{Use}
use Rattle.format.specs.declared.pins.Use.TheVariants.{FanPin, AnaloguePin, ChipSelect, StatusLed, HardwareRevision}
use denote.Enum.Bare.{sameb}
use Rattle.format.specs.contracts.pins.Chip.{the_type}
use Rattle.pinsets.specs.Sets.{pin_index, pin_bit, row_of}
use Rattle.pinsets.proofs.Table.{same, same→eq, all_to, at_below}

-- a row has a pin's bit where the chip has the pin and its use permits it
abbrev pub in_row : ℕ → ℕ → Bool
in_row row p = not (eqb (bit_and row (pin_bit p)) 0)

abbrev permits : Chip → Use → ℕ → Bool
permits c u p = same (in_row (row_of c u) p) (among p (permitted c u))

all_right_lem : (c : Chip) (u : Use) → all_to 256 (permits c u) ≡ true
unfolding pin_bit pin_index row_of
all_right_lem C8051F320 FanPin = refl
all_right_lem C8051F320 AnaloguePin = refl
all_right_lem C8051F320 ChipSelect = refl
all_right_lem C8051F320 StatusLed = refl
all_right_lem C8051F320 HardwareRevision = refl
all_right_lem C8051F321 FanPin = refl
all_right_lem C8051F321 AnaloguePin = refl
all_right_lem C8051F321 ChipSelect = refl
all_right_lem C8051F321 StatusLed = refl
all_right_lem C8051F321 HardwareRevision = refl

pub row_permits : (c : Chip) (u : Use) (p : ℕ) → p < 256 → in_row (row_of c u) p ≡ among p (permitted c u)
row_permits c u p h = same→eq _ _ (at_below 256 (permits c u) (all_right_lem c u) p h)

-- two chips are the same where the derived test says so
pub same_derived : (c d : Chip) → sameb the_type c d ≡ same_chip c d
same_derived C8051F320 C8051F320 = refl
same_derived C8051F320 C8051F321 = refl
same_derived C8051F321 C8051F320 = refl
same_derived C8051F321 C8051F321 = refl

-- a pin's place is one of a word's, and so its bit is a shift
pub index_small : (p : ℕ) → p < 256 → pin_index p < 32
unfolding pin_index
index_small p h = ltb-true _ _ (at_below 256 (λ p. ltb (pin_index p) 32) refl p h)

pub shifted : (r : ℕ) → r < 32 → 1 * 2 ^ r % 4294967296 ≡ 2 ^ r
shifted r h = eqb-true _ _ (at_below 32 (λ r. eqb (1 * 2 ^ r % 4294967296) (2 ^ r)) refl r h)
