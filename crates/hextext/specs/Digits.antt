-- Hex digits put into a buffer, and the byte that two of them stand for. Of other characters it is some byte: a line is judged by
-- spelling it again.
-- Assumes nothing.
use Rattle.std.specs.Prelude.{ℕ, ◌+◌, ◌*◌, ◌/◌, ◌%◌, ◌≡◌, List, length}
use Rattle.format.specs.Slots.{byte}
use Rattle.spelling.specs.Spelling.{Put}
use Rattle.hextext.specs.Text.{hex_text, data_line}

-- the digits of some bytes, and the line of a data record, put at a place: how long they are
abbrev pub PutDigits : List ℕ → ℕ → List ℕ → ℕ → List ℕ → Type 0
PutDigits c at d end after = Put c at (hex_text d) end after × (end ≡ at + 2 * length d)

abbrev pub PutLine : List ℕ → ℕ → ℕ → List ℕ → ℕ → List ℕ → Type 0
PutLine c at a d end after = Put c at (data_line a d) end after × (end ≡ at + 12 + 2 * length d)

-- the value of a capital hex digit
abbrev pub digit_value : ℕ → ℕ
digit_value c = c % 16 + 9 * (c / 64)

-- the byte that stands at a place of a text
unfoldable pub pair_at : List ℕ → ℕ → ℕ
pair_at t i = (16 * digit_value (byte t i) + digit_value (byte t (i + 1))) % 256
