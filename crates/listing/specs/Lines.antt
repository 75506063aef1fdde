-- The listing of a table (01, 'The listing'): 'one record a line, fields parted by tabs', in ASCII codes.
-- Assumes nothing.
use Rattle.std.specs.Prelude.{ℕ, ◌+◌, ◌*◌, Bool, true, false, cond, List, [], ◌∷◌, ◌++◌, length}
use Rattle.std.specs.declared.option.Option.{Option}
use Rattle.std.specs.declared.option.Option.TheVariants.{Some, None}
use Rattle.format.specs.Slots.{written}
use Rattle.format.specs.Records.{Record, element_of}
use Rattle.format.specs.Layout.{optional_byte, id_of, part, layout}
use Rattle.format.specs.Rules.{in_use}
use Rattle.format.specs.Verdict.{Accepts, Verdict}
use Rattle.format.specs.declared.records.Description.{Description}
use Rattle.format.specs.declared.records.Element.{Element}
use Rattle.format.specs.Answers.{Refused}
use Rattle.spelling.specs.Spelling.{decimal, hex_pair, dash, pin_or_dash, joined, used, Put}
use Rattle.shown.specs.Own.{own_pins, zone_of}
use Rattle.shown.specs.declared.OwnPins.{OwnPins}
use Rattle.format.specs.declared.settings.Settings.{Settings}
use Rattle.format.specs.declared.settings.Rules.TheVariants.{Ordinary}

-- fields parted by tabs, and one line feed at the end
abbrev pub line : List (List ℕ) → List ℕ
line [] = 10 ∷ []
line (f ∷ []) = f ++ 10 ∷ []
line (f ∷ g ∷ fs) = f ++ 9 ∷ [] ++ line (g ∷ fs)

-- '`self` or milliamps': power units are of 4 mA
abbrev pub supply : Description → List ℕ
supply d = cond d.spwr (115 ∷ 101 ∷ 108 ∷ 102 ∷ []) (decimal (4 * d.power.0))

-- '.. three hardware pins or `-`'
abbrev pub hardware_pins : Description → List (List ℕ)
hardware_pins d = pin_or_dash (optional_byte d.revision0) ∷ pin_or_dash (optional_byte d.revision1)
    ∷ pin_or_dash (optional_byte d.revision2) ∷ []

-- the fields after the type
abbrev pub after_type : Description → List (List ℕ)
after_type d = decimal d.string ∷ decimal d.serial ∷ supply d ∷ hardware_pins d

-- 'First `T`, revision, length, type, string, serial, `self` or milliamps, three hardware pins or `-`'
unfoldable pub table_line : ℕ → Description → List ℕ
table_line n d = line ((84 ∷ []) ∷ (48 ∷ 46 ∷ 57 ∷ 48 ∷ []) ∷ decimal n ∷ decimal d.device ∷ after_type d)

-- 'its own used pins parted by commas or `-`'
abbrev pub pins_text : OwnPins → List ℕ
pins_text p = joined (used p.one ++ used p.two ++ used p.three)

-- 'zone (of a zone descriptor its own number) or `-`'
abbrev pub zone_text : Option ℕ → List ℕ
zone_text None = dash
zone_text (Some z) = decimal z

-- 12/14: 'lists such elements with a last field `retired`': those that the ordinary rules have not in use, which the archive's
-- reader alone accepts
abbrev pub last_field : Bool → List (List ℕ)
last_field true = []
last_field false = (114 ∷ 101 ∷ 116 ∷ 105 ∷ 114 ∷ 101 ∷ 100 ∷ []) ∷ []

-- 'Then per element `E`, offset, identifier .., zone .., its own used pins ..': of an element and its variable part
unfoldable pub element_line : ℕ → Element → List ℕ → List ℕ
element_line at e p =
    line ((69 ∷ []) ∷ decimal at ∷ hex_pair (id_of e) ∷ zone_text (zone_of e p) ∷ pins_text (own_pins e) ∷ last_field (in_use Ordinary e))

-- 'A refused table prints only `R`, number, place'
unfoldable pub refused_line : ℕ → ℕ → List ℕ
refused_line k p = line ((82 ∷ []) ∷ decimal k ∷ decimal p ∷ [])

-- the lines of elements that start at a place
abbrev pub element_lines : ℕ → List Record → List ℕ
element_lines at [] = []
element_lines at (r ∷ rs) =
    element_line at (element_of r) (written (part r)) ++ element_lines (at + length (layout r)) rs

-- the text that a table's bytes are to be given, under settings σ; it names no chip
pub data Listing (σ : Settings) (b : List ℕ) : List ℕ → Type 0 where
  listed : (d : Description) (rs : List Record) → Accepts σ b d rs → Listing σ b (table_line (length b) d ++ element_lines 16 rs)
  refused : {k p : ℕ} → Verdict σ b (Refused k p) → Listing σ b (refused_line k p)

-- that text at the front of the lent buffer, and how long it is; the rest of the buffer is as it was
pub record Listed (σ : Settings) (b c : List ℕ) (n : ℕ) (after : List ℕ) : Type 0 where
  pub text : List ℕ
  pub is : Listing σ b text
  pub put : Put c 0 text n after
