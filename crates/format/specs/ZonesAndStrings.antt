-- Zone numbers and string numbers: 11 and 12, which look at the elements before, as the fan list's 10 does; 13 and 14, which look at
-- all of them.
-- Assumes nothing.
use Rattle.std.specs.Prelude.{ℕ, ◌+◌, Bool, true, ◌&&◌, not, List, [], ◌∷◌, ◌++◌, length, leb}
use Rattle.std.proofs.Math.Option.{Option, none}
use Rattle.format.specs.Records.{Record, digital, analogue, fan, led, water, pump, voltage, current, controller, tachometer, zone}
use Rattle.format.specs.Records.{string, external, rgb, zone_number, zone_string, string_number}
use Rattle.format.specs.Layout.{layout}
use Rattle.format.specs.Pins.{among}
use Rattle.format.specs.Rules.{Rule, rule, unless_kept}
use Rattle.format.specs.FanList.{in_order}
use Rattle.format.specs.declared.records.Placement.{Placement}
use Rattle.format.specs.declared.records.Description.{Description}

-- what an element is to the others: it is placed in a zone, or it is a zone descriptor, or a string
pub data Role : Type 0 where
  placed : Placement → Role
  zoning : List ℕ → Role
  naming : List ℕ → Role

abbrev pub role : Record → Role
role (digital d) = placed d.placement
role (analogue a) = placed a.placement
role (fan f) = placed f.placement
role (led l) = placed l.placement
role (water w) = placed w.placement
role (pump f) = placed f.placement
role (voltage v) = placed v.placement
role (current c) = placed c.placement
role (controller d bs) = placed d.placement
role (tachometer d a b) = placed d.placement
role (zone bytes) = zoning bytes
role (string bytes) = naming bytes
role (external x r g b) = placed x.device.placement
role (rgb r) = placed r.placement

-- the zone number and the string number that an element declares, if any
abbrev pub zone_declared : Role → List ℕ
zone_declared (placed p) = []
zone_declared (zoning bytes) = zone_number bytes ∷ []
zone_declared (naming bytes) = []

abbrev pub string_declared : Role → List ℕ
string_declared (placed p) = []
string_declared (zoning bytes) = []
string_declared (naming bytes) = string_number bytes ∷ []

-- all numbers that elements declare, or name, by a function of what each is to the others
abbrev pub gathered : (Role → List ℕ) → List Record → List ℕ
gathered numbers [] = []
gathered numbers (r ∷ rs) = numbers (role r) ++ gathered numbers rs

abbrev pub zones : List Record → List ℕ
zones rs = gathered zone_declared rs

abbrev pub strings : List Record → List ℕ
strings rs = gathered string_declared rs

-- 11: '.. or a 13th zone'
abbrev pub zones_fit : List Record → Record → Bool
zones_fit before r = leb (length (zone_declared (role r)) + length (zones before)) 12

-- 12: 'a string or zone number a second time'
abbrev pub none_among : List ℕ → List ℕ → Bool
none_among [] ys = true
none_among (x ∷ xs) ys = not (among x ys) && none_among xs ys

abbrev pub fresh : List Record → Record → Bool
fresh before r = none_among (zone_declared (role r)) (zones before) && none_among (string_declared (role r)) (strings before)

-- the rules of an element against those before it, in their order
unfoldable pub rules_against : List Record → Record → List Rule
rules_against before r = rule 10 (in_order before r) ∷ rule 11 (zones_fit before r) ∷ rule 12 (fresh before r) ∷ []

-- the zone that an element names, and its string index, if it has one
abbrev pub zone_named : Role → List ℕ
zone_named (placed p) = p.zone ∷ []
zone_named (zoning bytes) = []
zone_named (naming bytes) = []

abbrev pub string_named : Role → List ℕ
string_named (placed p) = p.string ∷ []
string_named (zoning bytes) = zone_string bytes ∷ []
string_named (naming bytes) = []

-- where the first element stands that names a number which is not declared, of elements that start at a place
abbrev pub all_among : List ℕ → List ℕ → Bool
all_among [] ys = true
all_among (x ∷ xs) ys = among x ys && all_among xs ys

abbrev pub first_naming : (Role → List ℕ) → List ℕ → ℕ → List Record → Option ℕ
first_naming names declared at [] = none
first_naming names declared at (r ∷ rs) =
    unless_kept (all_among (names (role r)) declared) at (first_naming names declared (at + length (layout r)) rs)

-- 13: 'the zone of an element has no descriptor'; the descriptors may come later
abbrev pub zoneless : List Record → Option ℕ
zoneless rs = first_naming zone_named (zones rs) 16 rs

-- 14: 'a string index that is not 0 and has no string', over the description and all elements
abbrev pub nameless : Description → List Record → Option ℕ
nameless d rs =
    unless_kept (among d.string (0 ∷ strings rs)) 0 (first_naming string_named (0 ∷ strings rs) 16 rs)
