-- Numbers of two and four bytes, lowest byte first: read from bytes, and as bytes.
-- Assumes nothing.
use Rattle.std.specs.Prelude.{ℕ, ◌+◌, ◌*◌, ◌/◌, ◌%◌, List, [], ◌∷◌}

-- a number in four bytes; `word_at` of `format` is one in two
abbrev pub long_at : (ℕ → ℕ) → ℕ → ℕ
long_at f i = f i + 256 * f (i + 1) + 65536 * f (i + 2) + 16777216 * f (i + 3)

-- a number as two bytes, and as four
abbrev pub two_bytes : ℕ → List ℕ
two_bytes v = v % 256 ∷ v / 256 ∷ []

abbrev pub four_bytes : ℕ → List ℕ
four_bytes v = v % 256 ∷ v / 256 % 256 ∷ v / 65536 % 256 ∷ v / 16777216 ∷ []
