-- Intel HEX as text, in ASCII codes (02, 11/14): one line for each record, and the text of a list of bytes.
-- Assumes nothing.
use Rattle.std.specs.Prelude.{ℕ, zero, suc, ◌+◌, ◌-◌, ◌*◌, ◌/◌, ◌%◌, List, [], ◌∷◌, ◌++◌, length, take, drop}
use Rattle.spelling.specs.Spelling.{hex_pair}

-- 'capitals': two hex digits for each byte
abbrev pub hex_text : List ℕ → List ℕ
hex_text [] = []
hex_text (b ∷ bs) = hex_pair b ++ hex_text bs

-- the sum of a record's bytes
abbrev pub sum : List ℕ → ℕ
sum [] = 0
sum (b ∷ bs) = b + sum bs

-- the byte that brings the sum of a record to a multiple of 256
abbrev pub checksum : List ℕ → ℕ
checksum bs = (256 - sum bs % 256) % 256

-- the line of a record: a colon, its bytes, their checksum, 'closed by one line feed'
abbrev pub line : List ℕ → List ℕ
line bs = 58 ∷ hex_text bs ++ hex_pair (checksum bs) ++ 10 ∷ []

-- a data record: its length, its address with the high byte first, type 0, its bytes
unfoldable pub data_line : ℕ → List ℕ → List ℕ
data_line a d = line (length d ∷ a / 256 ∷ a % 256 ∷ 0 ∷ d)

-- 'the end record': no bytes, address 0, type 1
abbrev pub end_line : List ℕ
end_line = line (0 ∷ 0 ∷ 0 ∷ 1 ∷ [])

-- the first k lines of a list of bytes: 'data records of 16 bytes from address 0, the last one shorter if need be'
abbrev pub data_lines : ℕ → List ℕ → List ℕ
data_lines zero b = []
data_lines (suc k) b = data_lines k b ++ data_line (16 * k) (take 16 (drop (16 * k) b))

-- how many there are
abbrev pub line_count : ℕ → ℕ
line_count n = (n + 15) / 16

abbrev pub data_text : List ℕ → List ℕ
data_text b = data_lines (line_count (length b)) b

-- THE TEXT of a list of bytes: '.. then the end record'
unfoldable pub hex_of : List ℕ → List ℕ
hex_of b = data_text b ++ end_line
