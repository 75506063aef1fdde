-- What the writer answers and what it leaves in the lent buffer: 'The writer starts a table .. or appends one element'.
-- Assumes nothing.
use Rattle.std.specs.Prelude.{ℕ, ◌+◌, Bool, true, false, ◌&&◌, List, ◌++◌, map, length, take, drop, leb}
use Rattle.std.proofs.Math.Option.{Option, none, some}
use Rattle.format.specs.Slots.{Slot, whole, word, written}
use Rattle.format.specs.Records.{Record, digital, analogue, fan, led, water, pump, voltage, current, controller, tachometer, zone}
use Rattle.format.specs.Records.{string, external, rgb}
use Rattle.format.specs.Layout.{opening, fixed, id_of, headed}
use Rattle.format.specs.Rules.{first_broken, own_rules, description_roomy, element_roomy}
use Rattle.format.specs.Table.{description_breaks}
use Rattle.format.specs.Verdict.{stated}
use Rattle.format.specs.Decode.{bind, when_nil, cut_blocks, cut_two, cut_three}
use Rattle.format.specs.declared.pins.Chip.{Chip}
use Rattle.format.specs.declared.settings.Settings.{Settings}
use Rattle.format.specs.declared.settings.Rules.TheVariants.{Ordinary}
use Rattle.format.specs.declared.records.Description.{Description}
use Rattle.format.specs.declared.records.Element.{Element}
use Rattle.format.specs.declared.records.Element.TheVariants.{Digital, Analogue, Fan, Led, Water, Pump, Voltage, Current}
use Rattle.format.specs.declared.records.Element.TheVariants.{Controller, Tachometer, Zone, Text, External, Rgb}
use Rattle.format.specs.Answers.{Written}
use Rattle.format.specs.Answers.{Gives as Length, Refused}

-- the record of an element and its part, where the part is one of its kind: none, blocks that fill it, or any bytes
abbrev pub assemble : Element → List ℕ → Option Record
assemble (Digital d) p = when_nil p (digital d)
assemble (Analogue a) p = when_nil p (analogue a)
assemble (Fan f) p = when_nil p (fan f)
assemble (Led l) p = when_nil p (led l)
assemble (Water w) p = when_nil p (water w)
assemble (Pump f) p = when_nil p (pump f)
assemble (Voltage v) p = when_nil p (voltage v)
assemble (Current c) p = when_nil p (current c)
assemble (Controller d) p = bind (cut_blocks (length p) p) (λ l. some (controller d l))
assemble (Tachometer d) p = bind (cut_two p) (λ t. some (tachometer d t.0 t.1))
assemble Zone p = some (zone p)
assemble Text p = some (string p)
assemble (External x) p = bind (cut_three p) (λ t. some (external x t.0 t.1 t.2))
assemble (Rgb r) p = when_nil p (rgb r)

-- the first of 8, 9, 23 and 10 that an element with its part breaks
abbrev pub assembled_breaks : Settings → Option Record → Option ℕ
assembled_breaks s none = some 8
assembled_breaks s (some r) = first_broken (own_rules s r)

unfoldable pub part_breaks : Settings → Element → List ℕ → Option ℕ
part_breaks s e p = assembled_breaks s (assemble e p)

-- the slots of an element with its part
abbrev pub element_slots : Element → List ℕ → List Slot
element_slots e p = headed (id_of e) (fixed e ++ map whole p)

-- a refusal where a test fails, or where a rule is broken, and else what comes later
abbrev pub or_refused : Bool → ℕ → ℕ → Written → Written
or_refused true k p later = later
or_refused false k p later = Refused k p

abbrev pub unless_broken_at : Option ℕ → ℕ → Written → Written
unless_broken_at none p later = later
unless_broken_at (some k) p later = Refused k p

-- the writer's settings: the caller names the chip alone, and the rules are the ordinary ones
abbrev pub writing : Chip → Settings
writing c = record { chip = c; rules = Ordinary }

-- start: 'checks 1, 25, 4, 5, 10; writes 16 bytes with length 16'
unfoldable pub start_answer : Chip → List ℕ → Description → Written
start_answer c b d =
    or_refused (leb 16 (length b)) 1 0 (or_refused (description_roomy d) 25 0 (unless_broken_at (description_breaks c d) 0 (Length 16)))

-- append: '1; 3, when that length is under 16, over 4,096 or past the buffer; then 25, 8, 9', 23, '10 on the record, where the length
-- so far stands for "element" ..; then 16, when the new length would pass the buffer or 4,096'
abbrev pub new_length : List ℕ → Element → List ℕ → ℕ
new_length b e p = stated b + length (element_slots e p)

abbrev pub length_stands : List ℕ → Bool
length_stands b = leb 16 (stated b) && (leb (stated b) 4096 && leb (stated b) (length b))

abbrev pub has_room : List ℕ → ℕ → Bool
has_room b n = leb n (length b) && leb n 4096

unfoldable pub append_answer : Chip → List ℕ → Element → List ℕ → Written
append_answer c b e p =
    or_refused (leb 16 (length b)) 1 0
    (or_refused (length_stands b) 3 0
    (or_refused (element_roomy e) 25 0
    (unless_broken_at (part_breaks (writing c) e p) (stated b)
    (or_refused (has_room b (new_length b e p)) 16 0 (Length (new_length b e p))))))

-- 'It changes bytes 1-2 and the new element's bytes only'; 'Every refusal returns number and place, and all lent bytes stay'
abbrev pub overwritten : ℕ → List ℕ → List ℕ → List ℕ
overwritten at new b = take at b ++ new ++ drop (at + length new) b

abbrev pub start_leaves : Written → List ℕ → Description → List ℕ
start_leaves (Length n) b d = overwritten 0 (written (opening d 16)) b
start_leaves (Refused k p) b d = b

abbrev pub append_leaves : Written → List ℕ → Element → List ℕ → List ℕ
append_leaves (Length n) b e p = overwritten 1 (written (word n)) (overwritten (stated b) (written (element_slots e p)) b)
append_leaves (Refused k p) b e q = b
