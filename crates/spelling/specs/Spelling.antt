-- Numbers and pins as text, in ASCII codes, and text put into a buffer.
-- Assumes nothing.
use Rattle.std.specs.Prelude.{ℕ, ◌+◌, ◌/◌, ◌%◌, ◌≡◌, cond, List, [], ◌∷◌, ◌++◌, length, take, drop, ltb, eqb}

-- the last digit of a number
abbrev pub digit : ℕ → ℕ
digit n = 48 + n % 10

-- the digit at a power of ten that the number reaches
abbrev pub digit_at : ℕ → ℕ → List ℕ
digit_at power n = cond (ltb n power) [] (digit (n / power) ∷ [])

-- its four upper digits, of eight
abbrev pub upper : ℕ → List ℕ
upper n = digit_at 10000000 n ++ digit_at 1000000 n ++ digit_at 100000 n ++ digit_at 10000 n

-- a number under 100,000,000 in plain decimals, without a zero in front
unfoldable pub decimal : ℕ → List ℕ
decimal n = upper n ++ digit_at 1000 n ++ digit_at 100 n ++ digit_at 10 n ++ digit n ∷ []

-- an identifier 'in two capital hex digits'
abbrev pub hex_digit : ℕ → ℕ
hex_digit n = cond (ltb n 10) (48 + n) (55 + n)

abbrev pub hex_pair : ℕ → List ℕ
hex_pair n = hex_digit (n / 16) ∷ hex_digit (n % 16) ∷ []

-- `-`
abbrev pub dash : List ℕ
dash = 45 ∷ []

-- a pin byte as `P`, port, `.`, pin
abbrev pub pin_text : ℕ → List ℕ
pin_text p = 80 ∷ digit (p / 16) ∷ 46 ∷ digit (p % 16) ∷ []

-- 'FFh means unused'
abbrev pub pin_or_dash : ℕ → List ℕ
pin_or_dash p = cond (eqb p 0xff) dash (pin_text p)

-- 'parted by commas or `-`'
abbrev pub joined : List ℕ → List ℕ
joined [] = dash
joined (p ∷ []) = pin_text p
joined (p ∷ q ∷ ps) = pin_text p ++ 44 ∷ joined (q ∷ ps)

-- a comma and a used pin
abbrev pub next : ℕ → List ℕ
next p = cond (eqb p 0xff) [] (44 ∷ pin_text p)

abbrev pub used : ℕ → List ℕ
used p = cond (eqb p 0xff) [] (p ∷ [])

-- text put into a buffer at a place: where it ends, and the buffer then; what follows it is as it was
pub record Put (c : List ℕ) (at : ℕ) (text : List ℕ) (end : ℕ) (after : List ℕ) : Type 0 where
  pub ends : end ≡ at + length text
  pub front : take end after ≡ take at c ++ text
  pub rest : drop end after ≡ drop end c
  pub long : length after ≡ length c
