-- The fields of an element and of a description determine its bytes as they are written, reserved places at zero.
-- Assumes nothing.
use Prim.Native.Nat.{ℕ, ◌+◌, ◌*◌, ◌/◌, ◌%◌}
use mathlib.Core.Path.{◌≡◌, refl}
use mathlib.Core.Bool.{cond}
use mathlib.Core.List.{List, [], ◌∷◌, ◌++◌}
use lib.ListN.{get_or}
use lib.Dec.{eqb}
use Rattle.format.specs.Slots.{byte_of, written}
use Rattle.format.specs.Layout.{id_of, address, fixed, opening}
use Rattle.format.specs.declared.records.Description.{Description}
use Rattle.format.specs.declared.records.Address.{Address}
use Rattle.format.specs.declared.records.Address.TheVariants.{Bus, Select}
use Rattle.format.specs.declared.records.Element.{Element}
use Rattle.format.specs.declared.records.Element.TheVariants.{Digital, Analogue, Fan, Led, Water, Pump, Voltage, Current, Controller}
use Rattle.format.specs.declared.records.Element.TheVariants.{Tachometer, Zone, Text, External, Rgb}
use Rattle.differing.specs.Fields.{Content, number, pin, addressed, contents, described}

-- what stands at a place, its number, and the byte of an address
abbrev held : Content → ℕ
held (number v) = v
held (pin p) = p

abbrev at : List Content → ℕ → ℕ
at cs k = held (get_or cs k (number 0))

abbrev address_byte : Content → ℕ
address_byte (number v) = 2 * v
address_byte (pin p) = p

address_byte_lem : (a : Address) → byte_of (address a) ≡ address_byte (addressed a)
address_byte_lem (Bus v) = refl
address_byte_lem (Select p) = refl

abbrev two : ℕ → List ℕ
two v = v % 256 ∷ v / 256 ∷ []

abbrev placing : List Content → List ℕ → List ℕ
placing cs bs = at cs 0 ∷ at cs 1 ∷ at cs 2 ∷ at cs 3 ∷ at cs 4 ∷ bs

abbrev bus : List Content → List ℕ → List ℕ
bus cs bs = placing cs (at cs 5 ∷ address_byte (get_or cs 6 (number 0)) ∷ 0 ∷ bs)

abbrev motored : List Content → List ℕ
motored cs = placing cs (at cs 5 ∷ at cs 6 ∷ at cs 7 ∷ two (at cs 8) ++ two (at cs 9) ++ at cs 10 ∷ [])

-- the bytes of an identifier and its contents
pub bytes_from : ℕ → List Content → List ℕ
bytes_from id cs =
    cond (eqb id 0x01) (bus cs (two (at cs 7) ++ two (at cs 8) ++ two (at cs 9) ++ at cs 10 ∷ two (at cs 11) ++ at cs 12 ∷ []))
    (cond (eqb id 0x02)
    (placing cs (at cs 5 ∷ at cs 6 ∷ two (at cs 7) ++ two (at cs 8) ++ two (at cs 9) ++ two (at cs 10) ++ two (at cs 11)))
    (cond (eqb id 0x03) (motored cs)
    (cond (eqb id 0x04)
    (placing cs
    (at cs 5 ∷ (16 * at cs 6 + at cs 7) ∷ at cs 8 ∷ (16 * at cs 9 + at cs 10) ∷ at cs 11 ∷ (16 * at cs 12 + at cs 13) ∷ []))
    (cond (eqb id 0x05) (placing cs (at cs 5 ∷ two (at cs 6) ++ two (at cs 7) ++ two (at cs 8)))
    (cond (eqb id 0x06) (motored cs)
    (cond (eqb id 0x07) (placing cs (at cs 5 ∷ at cs 6 ∷ at cs 7 ∷ []))
    (cond (eqb id 0x08) (placing cs (at cs 5 ∷ 0 ∷ two (at cs 6) ++ two (at cs 7)))
    (cond (eqb id 0x09) (bus cs [])
    (cond (eqb id 0x0a) (bus cs (0 ∷ []))
    (cond (eqb id 0x0b) [] (cond (eqb id 0x0c) []
    (cond (eqb id 0x0d) (bus cs (at cs 7 ∷ [])) (placing cs (at cs 5 ∷ at cs 6 ∷ at cs 7 ∷ []))))))))))))))

pub element_bytes : (e : Element) → written (fixed e) ≡ bytes_from (id_of e) (contents e)
unfolding bytes_from
element_bytes (Digital d) = rw (address_byte_lem d.address) refl
element_bytes (Analogue a) = refl
element_bytes (Fan f) = refl
element_bytes (Led l) = refl
element_bytes (Water w) = refl
element_bytes (Pump f) = refl
element_bytes (Voltage v) = refl
element_bytes (Current c) = refl
element_bytes (Controller d) = rw (address_byte_lem d.address) refl
element_bytes (Tachometer d) = rw (address_byte_lem d.address) refl
element_bytes Zone = refl
element_bytes Text = refl
element_bytes (External x) = rw (address_byte_lem x.device.address) refl
element_bytes (Rgb r) = refl

-- the description
pub opening_from : ℕ → List Content → List ℕ
opening_from n cs =
    1
    ∷ two n
    ++ at cs 0
    ∷ at cs 1
    ∷ at cs 2 % 256
    ∷ at cs 2 / 256 % 256
    ∷ at cs 2 / 65536
    ∷ (128 * at cs 3 + at cs 4)
    ∷ at cs 5
    ∷ at cs 6
    ∷ at cs 7
    ∷ 0
    ∷ 0
    ∷ 0
    ∷ 0
    ∷ []

pub opening_bytes : (d : Description) (n : ℕ) → written (opening d n) ≡ opening_from n (described d)
unfolding opening_from
opening_bytes d n = refl
