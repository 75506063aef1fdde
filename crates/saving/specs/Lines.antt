-- What salvage answers, and what it leaves in the two lent buffers (14/14). Quotations are the request's own.
-- Assumes nothing.
use Rattle.std.specs.Prelude.{ℕ, cond, List, [], ◌∷◌, ◌++◌, length, leb}
use Rattle.format.specs.Slots.{byte, written}
use Rattle.format.specs.Layout.{table}
use Rattle.format.specs.Decode.{read_description}
use Rattle.format.specs.Writing.{overwritten, writing}
use Rattle.format.specs.declared.pins.Chip.{Chip}
use Rattle.format.specs.declared.records.Description.{Description}
use Rattle.spelling.specs.Spelling.{decimal}
use Rattle.saving.specs.Saving.{taken, salvageable, Change, left_out, cleared, Line, Saved, records, string_indexes}
use Rattle.saving.specs.Saving.{mended_description, in_zones, ending}
use Rattle.saving.specs.Salvaged.{Salvaged}
use Rattle.saving.specs.Salvaged.{Done, Refused}

-- `left out` or `cleared`
abbrev pub change_text : Change → List ℕ
change_text left_out = 108 ∷ 101 ∷ 102 ∷ 116 ∷ 32 ∷ 111 ∷ 117 ∷ 116 ∷ []
change_text cleared = 99 ∷ 108 ∷ 101 ∷ 97 ∷ 114 ∷ 101 ∷ 100 ∷ []

-- 'one line per change': its fields parted by tabs, and a line feed
abbrev pub line_text : Line → List ℕ
line_text l = decimal l.place ++ 9 ∷ decimal l.number ++ 9 ∷ change_text l.change ++ 10 ∷ []

abbrev pub text_of : List Line → List ℕ
text_of [] = []
text_of (l ∷ ls) = line_text l ++ text_of ls

-- 'Write the new table': of a description that is sound and what is kept in zones
abbrev pub table_of : Description → Saved → List ℕ
table_of d s = written (table (mended_description (string_indexes s) d) (records (ending d s).kept))

-- with the ordinary rules; the description is the one that stands in the first 16 bytes
unfoldable pub new_table : Chip → List ℕ → List ℕ
new_table c file = table_of (read_description c (byte (taken file))) (in_zones (writing c) (taken file))

unfoldable pub new_text : Chip → List ℕ → List ℕ
new_text c file = text_of (ending (read_description c (byte (taken file))) (in_zones (writing c) (taken file))).lines

-- 'Refusals: 24 at 0 ..; then 16', where a buffer of so many bytes has no room; else both lengths
unfoldable pub answer : Chip → List ℕ → ℕ → Salvaged
answer c file room =
    cond (salvageable c (taken file))
    (cond (leb (length (new_table c file)) room) (Done (length (new_table c file)) (length (new_text c file))) (Refused 16 0))
    (Refused 24 0)

-- the new bytes at the front of a buffer, the others as they were; 'Both leave the output buffer untouched'
abbrev pub leaves_of : Salvaged → List ℕ → List ℕ → List ℕ
leaves_of (Done n m) new b = overwritten 0 new b
leaves_of (Refused k p) new b = b
