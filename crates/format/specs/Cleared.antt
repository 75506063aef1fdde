-- Bytes with their reserved places at zero, where a list of slots says which places are reserved.
-- Assumes nothing.
use Rattle.std.specs.Prelude.{ℕ, ◌*◌, ◌/◌, ◌%◌, List, [], ◌∷◌}
use Rattle.format.specs.Slots.{Slot, whole, low, high, halves, flag, reserved}

abbrev pub cleared_byte : ℕ → Slot → ℕ
cleared_byte b (whole v) = b
cleared_byte b (low v) = b % 16
cleared_byte b (high v) = 2 * (b / 2)
cleared_byte b (halves t v) = b
cleared_byte b (flag t v) = b
cleared_byte b reserved = 0

abbrev pub cleared : List ℕ → List Slot → List ℕ
cleared bs [] = []
cleared [] (s ∷ ss) = []
cleared (b ∷ bs) (s ∷ ss) = cleared_byte b s ∷ cleared bs ss
