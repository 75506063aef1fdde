-- The pass over the elements as a step from byte to byte: it holds the elements gone by, the place of the element under way and
-- that element's bytes so far.
-- Assumes nothing.
use Rattle.std.specs.Prelude.{ℕ, ◌+◌, Bool, true, false, ◌&&◌, ◌||◌, List, [], ◌∷◌, ◌++◌, length, ltb, leb}
use Rattle.format.specs.Records.{Record}
use Rattle.format.specs.Verdict.{stated}
use Rattle.format.specs.Reader.{Outcome, took, stop, step, Result, halted, through}
use Rattle.format.specs.declared.settings.Settings.{Settings}

-- the elements gone by, the place of the one under way and its bytes so far; or the rule that stopped the pass, and its place
pub data Run : Type 0 where
  going : List Record → ℕ → List ℕ → Run
  broken : ℕ → ℕ → Run

-- whether an element cannot be judged yet: its header is not there, or gives a length that is not reached
abbrev pub unready : List ℕ → Bool
unready u = ltb (length u) 3 || leb 3 (stated u) && ltb (length u) (stated u)

-- what a judged element of so many bytes leaves
abbrev pub past : List Record → ℕ → ℕ → Outcome → Run
past before at n (took r) = going (before ++ r ∷ []) (at + n) []
past before at n (stop k) = broken k at

abbrev pub settled : Settings → List Record → ℕ → List ℕ → Bool → Run
settled σ before at u true = going before at u
settled σ before at u false = past before at (length u) (step σ before u)

-- one byte more, and many
abbrev pub run_byte : Settings → Run → ℕ → Run
run_byte σ (going before at u) x = settled σ before at (u ++ x ∷ []) (unready (u ++ x ∷ []))
run_byte σ (broken k p) x = broken k p

abbrev pub run_bytes : Settings → Run → List ℕ → Run
run_bytes σ s [] = s
run_bytes σ s (x ∷ xs) = run_bytes σ (run_byte σ s x) xs

abbrev pub begin : Run
begin = going [] 16 []

-- what the pass has come to where the bytes end: an element under way is cut short (6)
abbrev pub finish : Run → Result
finish (going before at []) = through before
finish (going before at (x ∷ u)) = halted 6 at
finish (broken k p) = halted k p
