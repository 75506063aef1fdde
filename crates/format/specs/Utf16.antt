-- Well-formed text: UTF-16, low byte first. Said of units, again as a step from byte to byte, and as the Unicode standard has it (D91 of
-- version 4.0 and later): scalar values, each as one unit or two. `proofs/Utf16` and `Scalars` say that the three agree.
-- Assumes nothing.
use Rattle.std.specs.Prelude.{ℕ, ◌+◌, ◌-◌, ◌*◌, ◌/◌, ◌%◌, Bool, true, false, ◌&&◌, ◌||◌, not, cond, List, [], ◌∷◌, ◌++◌, length, eqb, ltb, leb}
use Rattle.format.specs.declared.text.Reached.{Reached}
use Rattle.format.specs.declared.text.Reached.TheVariants.{Even, Half, High, HalfAfterHigh, Bad}

-- the units of a text: two bytes each, the low one first
abbrev pub units : List ℕ → List ℕ
units [] = []
units (a ∷ []) = []
units (a ∷ b ∷ bytes) = (a + 256 * b) ∷ units bytes

-- D91: a scalar value above FFFFh is a pair, a high surrogate and a low one; surrogates stand for nothing else
abbrev pub high_surrogate : ℕ → Bool
high_surrogate u = leb 0xd800 u && leb u 0xdbff

abbrev pub low_surrogate : ℕ → Bool
low_surrogate u = leb 0xdc00 u && leb u 0xdfff

-- a unit is a low surrogate where the one before it is a high surrogate, and only there; and the last is no high surrogate
abbrev pub agrees : Bool → Bool → Bool
agrees true b = b
agrees false b = not b

abbrev pub paired_after : Bool → List ℕ → Bool
paired_after high [] = not high
paired_after high (u ∷ us) = agrees high (low_surrogate u) && paired_after (high_surrogate u) us

abbrev pub paired : List ℕ → Bool
paired us = paired_after false us

-- 'String text must now be well-formed UTF-16, low byte first', and 'an odd number of bytes' is not
abbrev pub well_formed : List ℕ → Bool
well_formed bytes = eqb (length bytes % 2) 0 && paired (units bytes)

-- The same, byte by byte: the second byte of a unit tells what the unit is.
abbrev pub high_byte : ℕ → Bool
high_byte b = leb 0xd8 b && leb b 0xdb

abbrev pub low_byte : ℕ → Bool
low_byte b = leb 0xdc b && leb b 0xdf

abbrev pub text_step : Reached → ℕ → Reached
text_step Even b = Half
text_step Half b = cond (low_byte b) Bad (cond (high_byte b) High Even)
text_step High b = HalfAfterHigh
text_step HalfAfterHigh b = cond (low_byte b) Even Bad
text_step Bad b = Bad

abbrev pub reached : Reached → List ℕ → Reached
reached s [] = s
reached s (b ∷ bytes) = reached (text_step s b) bytes

-- where a text may end
abbrev pub ends : Reached → Bool
ends Even = true
ends Half = false
ends High = false
ends HalfAfterHigh = false
ends Bad = false

-- D91 itself: the units of a scalar value, and of a list of them (Table 3-5)
abbrev pub scalar : ℕ → Bool
scalar c = ltb c 0xd800 || leb 0xe000 c && leb c 0x10ffff

abbrev pub units_of : ℕ → List ℕ
units_of c =
    cond (ltb c 0x10000) (c ∷ []) ((0xd800 + (c - 0x10000) / 0x400) ∷ (0xdc00 + (c - 0x10000) % 0x400) ∷ [])

abbrev pub utf16 : List ℕ → List ℕ
utf16 [] = []
utf16 (c ∷ cs) = units_of c ++ utf16 cs

abbrev pub scalars : List ℕ → Bool
scalars [] = true
scalars (c ∷ cs) = scalar c && scalars cs
