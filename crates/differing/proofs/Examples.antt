-- Three computed texts: a serial number and a revision pin changed, a fan moved and given another zone, a fan for a zone.
-- Assumes nothing.
use Prim.Native.Nat.{ℕ}
use mathlib.Core.Path.{◌≡◌, refl}
use mathlib.Core.Bool.{true}
use mathlib.Core.List.{[], ◌∷◌}
use Rattle.format.specs.Records.{Record, fan, zone}
use Rattle.format.specs.Decode.{pin_of, optional_of, description_of, placement_of, fan_of}
use Rattle.std.specs.Prelude.{None, Some}
use Rattle.format.specs.declared.pins.Chip.TheVariants.{C8051F320}
use Rattle.format.specs.declared.records.Description.{Description}
use Rattle.spelling.specs.Spelling.{decimal}
use Rattle.differing.specs.Fields.{ascii}
use Rattle.differing.specs.Differences.{differences, paired, descriptionwise, line_of, lines}

-- table A's description with a serial number and a revision pin, and fan F with a place x and a zone
abbrev a : ℕ → ℕ → Description
a serial p = description_of 2 0 serial true 0 (optional_of C8051F320 p) None None

abbrev f : ℕ → ℕ → Record
f x z = fan (fan_of (placement_of 0 x 0xff 0xff z) (pin_of C8051F320 0x05) (Some (pin_of C8051F320 0x06)) 2 300 1500 64)

described_so : lines (differences (a 7 0xff) [] (a 41 0x30) [])
    ≡ ascii "D\t0\t0\tserial number\t7\t41\nD\t0\t0\thardware revision 0\t-\tP3.0\n"
unfolding line_of descriptionwise paired decimal
described_so = refl

moved_so : lines (differences (a 7 0xff) (f 0xff 1 ∷ []) (a 7 0xff) (f 120 2 ∷ []))
    ≡ ascii "D\t16\t16\tx pos\t255\t120\nD\t16\t16\tzone identifier\t1\t2\n"
unfolding line_of descriptionwise paired decimal
moved_so = refl

kind_so :
    lines (differences (a 7 0xff) (f 0xff 1 ∷ zone (1 ∷ 0xaf ∷ []) ∷ []) (a 7 0xff) (zone (1 ∷ []) ∷ zone (1 ∷ 0 ∷ []) ∷ f 0xff 1 ∷ []))
    ≡ ascii "D\t16\t16\tkind\t03\t0B\nD\t32\t20\tvariable part\t01AF\t0100\nD\t-\t25\tkind\t-\t03\n"
unfolding line_of descriptionwise paired decimal
kind_so = refl
