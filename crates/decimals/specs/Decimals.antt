-- A number in plain decimals, however long: its last digit behind those of its tenth part, which has none where it is 0.
-- Assumes nothing.
use Rattle.std.specs.Prelude.{ℕ, zero, suc, ◌/◌, ◌≤◌, ◌≡◌, cond, List, [], ◌∷◌, ◌++◌, eqb, length, drop}
use Rattle.spelling.specs.Spelling.{digit}

-- the digits of a number of at most k of them, none of 0
abbrev pub leading : ℕ → ℕ → List ℕ
leading zero n = []
leading (suc k) n = cond (eqb n 0) [] (leading k (n / 10) ++ digit n ∷ [])

-- a number under 10^20, without a zero in front
unfoldable pub decimals : ℕ → List ℕ
decimals n = leading 19 (n / 10) ++ digit n ∷ []

-- its digits are the last of 20 bytes
pub record Spelt (n : ℕ) (bytes : List ℕ) (from : ℕ) : Type 0 where
  pub text : drop from bytes ≡ decimals n
  pub within : from ≤ 19
  pub twenty : length bytes ≡ 20
