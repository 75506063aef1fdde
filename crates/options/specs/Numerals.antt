-- The number that a word is, in decimal.
-- Assumes nothing.
use Rattle.std.specs.Prelude.{ℕ, ◌+◌, ◌*◌, ◌-◌, Bool, true, false, ◌&&◌, ◌||◌, not, List, [], ◌∷◌, length, eqb, ltb, Option, Some, None}

-- no digit: before '0', or behind '9'
abbrev pub no_digit : ℕ → Bool
no_digit b = ltb b 48 || ltb 57 b

abbrev pub all_digits : List ℕ → Bool
all_digits [] = true
all_digits (b ∷ w) = not (no_digit b) && all_digits w

-- digits behind a number
abbrev pub value_after : ℕ → List ℕ → ℕ
value_after n [] = n
value_after n (b ∷ w) = value_after (10 * n + (b - 48)) w

-- no bytes, or more than 9
abbrev pub no_numeral : List ℕ → Bool
no_numeral w = eqb (length w) 0 || ltb 9 (length w)

abbrev pub pick_number : Bool → ℕ → Option ℕ
pick_number true n = Some n
pick_number false n = None

-- 1 to 9 digits, and the number is below the limit
abbrev pub number_below : ℕ → List ℕ → Option ℕ
number_below limit w = pick_number (not (no_numeral w) && all_digits w && ltb (value_after 0 w) limit) (value_after 0 w)
