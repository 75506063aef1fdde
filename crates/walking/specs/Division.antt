-- What a walk by the stated lengths asks of the bytes from a place on: whole elements stand there, one after the other.
-- Assumes nothing.
use Rattle.std.specs.Prelude.{ℕ, ◌+◌, ◌≤◌, ◌≡◌, List, [], ◌∷◌, length, drop}
use Rattle.format.specs.Verdict.{stated}

-- they are of these lengths
abbrev pub OfLengths : List ℕ → ℕ → List ℕ → Type 0
OfLengths t at [] = length t ≤ at
OfLengths t at (n ∷ ns) = (n ≡ stated (drop at t)) × (3 ≤ n) × (at + n ≤ length t) × OfLengths t (at + n) ns

pub record Divided (t : List ℕ) (at : ℕ) : Type 0 where
  pub lengths : List ℕ
  pub by : OfLengths t at lengths
