-- The fields of each kind as rows of a table: how a field stands in the bytes, at which offset, and its name.
-- Assumes nothing.
use Rattle.std.specs.Prelude.{ℕ, zero, suc, ◌+◌, ◌-◌, ◌*◌, ◌/◌, ◌%◌, cond, List, [], ◌∷◌, ◌++◌, get_or, eqb, ltb}
use Prim.Native.String.{String}
use Rattle.format.specs.Slots.{byte}
use Rattle.spelling.specs.Spelling.{decimal, pin_or_dash}
use Rattle.listing.specs.Lines.{line}
use Rattle.differing.specs.Fields.{hex, ascii}
use Rattle.comparing.specs.declared.rows.Way.{Way}
use Rattle.comparing.specs.declared.rows.Way.TheVariants.{Byte, LowNibble, HighNibble, Word, Pin, Address, Triple, TopBit, LowBits}
use Rattle.differing.specs.Differences.{same}

-- How a field stands at its offset: 0 the byte; 1 bits 3-0; 2 bits 7-4; 3 two bytes; 4 a pin; 5 BUS TYPE, and the address behind it;
-- 6 three bytes; 7 bit 7; 8 bits 6-0. No row names a reserved place.
unfoldable pub ways : List ℕ
ways =
    0 ∷ 0 ∷ 0 ∷ 0 ∷ 0 ∷ 0 ∷ 0 ∷ 6 ∷ 7 ∷ 8 ∷ 4 ∷ 4 ∷ 4 ∷ 1 ∷ 5 ∷ 3 ∷ 3 ∷ 3 ∷ 0 ∷ 3 ∷ 0 ∷ 1 ∷ 4 ∷ 3 ∷ 3 ∷ 3 ∷ 3 ∷ 3 ∷ 4 ∷ 4 ∷ 0 ∷
    3 ∷ 3 ∷ 0 ∷ 4 ∷ 2 ∷ 1 ∷ 4 ∷ 2 ∷ 1 ∷ 4 ∷ 2 ∷ 1 ∷ 4 ∷ 3 ∷ 3 ∷ 3 ∷ 4 ∷ 0 ∷ 0 ∷ 4 ∷ 3 ∷ 3 ∷ 1 ∷ 5 ∷ 0 ∷ 4 ∷ 4 ∷ 4 ∷ []

-- the offset from the start of the element; of the description from the start of the table
unfoldable pub offsets : List ℕ
offsets =
    3 ∷ 4 ∷ 5 ∷ 6 ∷ 7 ∷ 3 ∷ 4 ∷ 5 ∷ 8 ∷ 8 ∷ 9 ∷ 10 ∷ 11 ∷ 8 ∷ 8 ∷ 11 ∷ 13 ∷ 15 ∷ 17 ∷ 18 ∷ 20 ∷ 8 ∷ 9 ∷ 10 ∷ 12 ∷ 14 ∷ 16 ∷
    18 ∷ 8 ∷ 9 ∷ 10 ∷ 11 ∷ 13 ∷ 15 ∷ 8 ∷ 9 ∷ 9 ∷ 10 ∷ 11 ∷ 11 ∷ 12 ∷ 13 ∷ 13 ∷ 8 ∷ 9 ∷ 11 ∷ 13 ∷ 8 ∷ 9 ∷ 10 ∷ 8 ∷ 10 ∷ 12 ∷ 8 ∷
    8 ∷ 11 ∷ 8 ∷ 9 ∷ 10 ∷ []

-- rows 0 to 4 are those of every element but zones and strings, 5 to 12 the description's
unfoldable pub names : List String
names =
    "string index" ∷ "x pos" ∷ "y pos" ∷ "z pos" ∷ "zone identifier" ∷ "esa device type" ∷ "string index" ∷ "serial number" ∷
    "spwr" ∷ "power units" ∷ "hardware revision 0" ∷ "hardware revision 1" ∷ "hardware revision 2" ∷ "bus type" ∷
    "device address" ∷ "temperature lsb read register" ∷ "temperature msb read register" ∷ "minimum value" ∷ "minimum temp" ∷
    "maximum value" ∷ "maximum temp" ∷ "thermal analog type" ∷ "pin" ∷ "value0" ∷ "value25" ∷ "value50" ∷ "value75" ∷
    "value100" ∷ "pwm" ∷ "tach" ∷ "ppr" ∷ "minimum rpm" ∷ "maximum rpm" ∷ "minimum duty cycle" ∷ "pin1" ∷ "color1" ∷
    "purpose1" ∷ "pin2" ∷ "color2" ∷ "purpose2" ∷ "pin3" ∷ "color3" ∷ "purpose3" ∷ "pin" ∷ "full" ∷ "empty" ∷ "warning" ∷
    "pin" ∷ "vmax" ∷ "vmin" ∷ "pin" ∷ "imin" ∷ "imax" ∷ "bus type" ∷ "device address" ∷ "chip identifier" ∷ "red" ∷ "green" ∷
    "blue" ∷ []

-- the first of a kind's own rows, and how many they are, by its identifier
unfoldable pub firsts : List ℕ
firsts = 0 ∷ 13 ∷ 21 ∷ 28 ∷ 34 ∷ 43 ∷ 28 ∷ 47 ∷ 50 ∷ 13 ∷ 13 ∷ 0 ∷ 0 ∷ 53 ∷ 56 ∷ []

unfoldable pub counts : List ℕ
counts = 0 ∷ 8 ∷ 7 ∷ 6 ∷ 9 ∷ 4 ∷ 6 ∷ 3 ∷ 3 ∷ 2 ∷ 2 ∷ 0 ∷ 0 ∷ 3 ∷ 3 ∷ []

-- how many of rows 0 to 4 it has: all, but none of zones and strings
unfoldable pub placeds : List ℕ
placeds = 0 ∷ 5 ∷ 5 ∷ 5 ∷ 5 ∷ 5 ∷ 5 ∷ 5 ∷ 5 ∷ 5 ∷ 5 ∷ 0 ∷ 0 ∷ 5 ∷ 5 ∷ []

-- a content as one number: pins are over all others
abbrev pub pin_code : ℕ → ℕ
pin_code p = 16777216 + p

abbrev pub code_text : ℕ → List ℕ
code_text n = cond (ltb n 16777216) (decimal n) (pin_or_dash (n - 16777216))

-- the number of a way
abbrev pub way_number : Way → ℕ
way_number Byte = 0
way_number LowNibble = 1
way_number HighNibble = 2
way_number Word = 3
way_number Pin = 4
way_number Address = 5
way_number Triple = 6
way_number TopBit = 7
way_number LowBits = 8

-- the content of a field, from the three bytes at its offset
unfoldable pub reading : ℕ → ℕ → ℕ → ℕ → ℕ
reading w x y z =
    cond (eqb w 0) x
    (cond (eqb w 1) (x % 16)
    (cond (eqb w 2) (x / 16)
    (cond (eqb w 3) (x + 256 * y)
    (cond (eqb w 4) (pin_code x)
    (cond (eqb w 5) (cond (eqb (x % 16) 3) (pin_code y) (y / 2))
    (cond (eqb w 6) (x + 256 * y + 65536 * z)
    (cond (eqb w 7) (x / 128) (x % 128))))))))

-- the content of row i, of what stands at a place of a table
abbrev pub code_at : List ℕ → ℕ → ℕ → ℕ
code_at t at i =
    let k = at + get_or offsets i 0 in
    reading (get_or ways i 0) (byte t k) (byte t (k + 1)) (byte t (k + 2))

abbrev pub name_text : ℕ → List ℕ
name_text i = ascii (get_or names i "")

-- a line of row i
abbrev pub field_line : ℕ → ℕ → ℕ → ℕ → ℕ → List ℕ
field_line a b i v w = line ((68 ∷ []) ∷ decimal a ∷ decimal b ∷ name_text i ∷ code_text v ∷ code_text w ∷ [])

-- the line of row i, if its contents differ
abbrev pub row_text : List ℕ → List ℕ → ℕ → ℕ → ℕ → List ℕ
row_text one two a b i =
    cond (eqb (code_at one a i) (code_at two b i)) [] (field_line a b i (code_at one a i) (code_at two b i))

-- the lines of so many rows from row i on
abbrev pub rows_text : List ℕ → List ℕ → ℕ → ℕ → ℕ → ℕ → List ℕ
rows_text one two a b i zero = []
rows_text one two a b i (suc n) = row_text one two a b i ++ rows_text one two a b (i + 1) n

-- the lines of an identifier's rows
abbrev pub fields_text : List ℕ → List ℕ → ℕ → ℕ → ℕ → List ℕ
fields_text one two a b id =
    rows_text one two a b 0 (get_or placeds id 0) ++ rows_text one two a b (get_or firsts id 0) (get_or counts id 0)

-- the line of two variable parts
abbrev pub part_text : ℕ → ℕ → List ℕ → List ℕ → List ℕ
part_text a b p q =
    cond (same p q) [] (line ((68 ∷ []) ∷ decimal a ∷ decimal b ∷ ascii "variable part" ∷ hex p ∷ hex q ∷ []))
