-- The text of table A's sheet, on which only P1.0 is taken, computed: 25 lines of seven bytes on the 320, 21 on the 321, the first and the
-- fault LED's.
-- Assumes nothing.
use Prim.Native.Nat.{ℕ}
use mathlib.Core.Path.{◌≡◌, refl}
use mathlib.Core.List.{List, [], ◌∷◌, ◌++◌}
use lib.ListN.{length, take, drop, replicate}
use Rattle.format.specs.declared.pins.Chip.TheVariants.{C8051F320, C8051F321}
use Rattle.pinlines.specs.Text.{text}

abbrev bare : List ℕ
bare = replicate 8 65535 ++ 65534 ∷ replicate 16 65535

pub on_the_320 : length (text C8051F320 bare) ≡ 175
unfolding text
on_the_320 = refl

pub on_the_321 : length (text C8051F321 bare) ≡ 147
unfolding text
on_the_321 = refl

-- `P0.0`, a tab, `-`, a line feed
pub first_line_lem : take 7 (text C8051F321 bare) ≡ 80 ∷ 48 ∷ 46 ∷ 48 ∷ 9 ∷ 45 ∷ 10 ∷ []
unfolding text
first_line_lem = refl

-- `P1.0`, a tab, `L`, a line feed
pub fault_line : take 7 (drop 56 (text C8051F321 bare)) ≡ 80 ∷ 49 ∷ 46 ∷ 48 ∷ 9 ∷ 76 ∷ 10 ∷ []
unfolding text
fault_line = refl
