-- The pins that an element claims, as bytes: three for its shared pins and three for its own, FFh where there is none.
-- Assumes nothing.
use Rattle.std.specs.Prelude.{ℕ, Bool, ◌||◌, cond, List, [], ◌∷◌, eqb}
use Rattle.format.specs.Claims.{Claim, claim, alone}
use Rattle.shown.specs.Own.{three, no_pins}
use Rattle.shown.specs.declared.OwnPins.{OwnPins}

-- a pin is one of three
abbrev pub is_one : ℕ → OwnPins → Bool
is_one pin p = eqb pin p.one || (eqb pin p.two || eqb pin p.three)

-- claims on three pins; the manner does not matter to a sheet
abbrev pub by_pins : OwnPins → List Claim
by_pins p = claim alone p.one ∷ claim alone p.two ∷ claim alone p.three ∷ []

-- 'P0.3 and P0.4 for bus types 0 to 2, P0.0 to P0.2 for SPI', which alone has a chip select
abbrev pub bus_pins : ℕ → OwnPins
bus_pins select = cond (eqb select 0xff) (three 0x03 0x04 0xff) (three 0x00 0x01 0x02)

-- of 01h, 09h, 0Ah and 0Dh; 'P0.7 for 02h and 08h', and for 05h and 07h; the others have none
abbrev pub on_a_bus : ℕ → Bool
on_a_bus id = eqb id 1 || eqb id 9 || eqb id 10 || eqb id 13

abbrev pub analogue : ℕ → Bool
analogue id = eqb id 2 || eqb id 5 || eqb id 7 || eqb id 8

abbrev pub shared_pins : ℕ → ℕ → OwnPins
shared_pins id select = cond (on_a_bus id) (bus_pins select) (cond (analogue id) (three 0x07 0xff 0xff) no_pins)
