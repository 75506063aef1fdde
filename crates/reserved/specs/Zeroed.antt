-- The bytes of an element with its reserved places at zero, by its identifier, where it starts at a place.
-- Assumes nothing.
use Rattle.std.specs.Prelude.{ℕ, ◌+◌, ◌*◌, ◌/◌, ◌%◌, Bool, ◌||◌, cond, List, set, eqb}
use Rattle.format.specs.Slots.{byte}

abbrev pub on_bus : ℕ → Bool
on_bus id = (eqb id 1 || eqb id 9) || eqb id 13

-- the first byte of a device address, by the bus type
abbrev pub address_byte : ℕ → ℕ → ℕ
address_byte bus b = cond (eqb bus 3) b (2 * (b / 2))

abbrev pub bus_zeroed : ℕ → List ℕ → List ℕ
bus_zeroed at b =
    set (set (set b (at + 8) (byte b (at + 8) % 16)) (at + 9) (address_byte (byte b (at + 8) % 16) (byte b (at + 9)))) (at + 10) 0

abbrev pub zeroed : ℕ → ℕ → List ℕ → List ℕ
zeroed id at b =
    cond (on_bus id) (bus_zeroed at b)
    (cond (eqb id 2) (set b (at + 8) (byte b (at + 8) % 16))
    (cond (eqb id 8) (set b (at + 9) 0) (cond (eqb id 10) (set (bus_zeroed at b) (at + 11) 0) b)))

-- how far that looks
abbrev pub reach : ℕ → ℕ
reach id = cond (on_bus id) 11 (cond (eqb id 2) 9 (cond (eqb id 8) 10 (cond (eqb id 10) 12 0)))
