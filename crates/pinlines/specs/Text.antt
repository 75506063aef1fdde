-- The lines of a pin sheet (9/14), in ASCII codes: 'pin, and the place of its first claimant in claim order, with `L` for the fault LED, 0
-- for the description, or `-`'.
-- Assumes nothing.
use Rattle.std.specs.Prelude.{ℕ, zero, suc, cond, List, [], ◌∷◌, ◌++◌, get_or}
use Rattle.format.specs.Pins.{every, on_chip, allowed}
use Rattle.format.specs.Decode.{pin_of}
use Rattle.format.specs.declared.pins.Chip.{Chip}
use Rattle.format.specs.declared.pins.Use.TheVariants.{HardwareRevision}
use Rattle.spelling.specs.Spelling.{decimal, dash, pin_text, pin_or_dash}
use Rattle.pinsheet.specs.Sheet.{Claimant, free, fault, place}
use Rattle.sheets.specs.Lines.{claimant_of}

abbrev pub entry_text : Claimant → List ℕ
entry_text free = dash
entry_text fault = 76 ∷ []
entry_text (place n) = decimal n

-- two fields parted by a tab, and one line feed
abbrev pub line_text : List ℕ → Claimant → List ℕ
line_text pin e = pin ++ 9 ∷ [] ++ entry_text e ++ 10 ∷ []

-- the line of pin k of the 25, where the chip has it
abbrev pub line_at : Chip → List ℕ → ℕ → List ℕ
line_at c ns k = cond (on_chip c (get_or every k 0)) (line_text (pin_text (get_or every k 0)) (claimant_of (get_or ns k 0))) []

-- the lines of the first so many pins
abbrev pub lines_to : Chip → List ℕ → ℕ → List ℕ
lines_to c ns zero = []
lines_to c ns (suc k) = lines_to c ns k ++ line_at c ns k

-- THE TEXT of 25 numbers: 'a sheet of 25 lines (21 for the 321)'
unfoldable pub text : Chip → List ℕ → List ℕ
text c ns = lines_to c ns 25

-- the line of a pin byte and its number, where the chip has the pin: any pin of the chip may be a hardware revision pin
abbrev pub line_on : Chip → ℕ → ℕ → List ℕ
line_on c pin n = cond (allowed c HardwareRevision (pin_of c pin)) (line_text (pin_or_dash pin) (claimant_of n)) []
