-- Taking element k out of a table (13/14): the records without it, what still names it, and the bytes closed up.
-- Assumes nothing.
use Rattle.std.specs.Prelude.{ℕ, zero, suc, ◌-◌, Bool, false, List, [], ◌∷◌, ◌++◌, length, take, drop}
use Rattle.format.specs.Slots.{word, written}
use Rattle.format.specs.Records.{Record, zone_number, string_number}
use Rattle.format.specs.Layout.{place_after}
use Rattle.format.specs.Pins.{among}
use Rattle.format.specs.ZonesAndStrings.{Role, placed, zoning, naming, role, gathered, zone_named, string_named}
use Rattle.format.specs.Writing.{overwritten}
use Rattle.format.specs.declared.records.Description.{Description}

-- 'The other records stay the same in the same order': the list without element k
abbrev pub without : ℕ → List Record → List Record
without k [] = []
without zero (r ∷ rs) = rs
without (suc k) (r ∷ rs) = r ∷ without k rs

-- where element k stands: after those before it
abbrev pub place_of : List Record → ℕ → ℕ
place_of rs k = place_after (take k rs)

-- the zones that elements name; the strings that the description, elements and zone descriptors name
abbrev pub zones_named : List Record → List ℕ
zones_named rs = gathered zone_named rs

abbrev pub strings_named : Description → List Record → List ℕ
strings_named d rs = d.string ∷ gathered string_named rs

-- 22: 'something still names it', by what an element is to the others. No string is numbered 0, and so the index 0 names none
abbrev pub named_as : Description → List Record → Role → Bool
named_as d rs (placed p) = false
named_as d rs (zoning bytes) = among (zone_number bytes) (zones_named rs)
named_as d rs (naming bytes) = among (string_number bytes) (strings_named d rs)

abbrev pub named : Description → List Record → Record → Bool
named d rs r = named_as d rs (role r)

-- 'its bytes closed up': the bytes without so many at a place
abbrev pub cut : List ℕ → ℕ → ℕ → List ℕ
cut b at n = take at b ++ drop n (drop at b)

-- 'and the length mended': bytes 1-2 tell how many there are now
abbrev pub mended : List ℕ → List ℕ
mended b = overwritten 1 (written (word (length b))) b

abbrev pub closed_up : List ℕ → ℕ → ℕ → List ℕ
closed_up b at n = mended (cut b at n)

-- 'and so do the bytes past the new length': they stay the same
abbrev pub closed : List ℕ → ℕ → ℕ → List ℕ
closed b at n = closed_up b at n ++ drop (length b - n) b
