-- 3/14: 'The program's running tallies, one set per element, are updated at each line and equal least, greatest and number of all
-- readings so far': the answers that lines gave to one element.
-- Assumes nothing.
use Rattle.std.specs.Prelude.{ℕ, zero, suc, cond, List, [], ◌∷◌, ◌++◌, eqb, replicate, Result, Ok, Err}
use Rattle.parsing.specs.Scanning.{read}
use Rattle.format.specs.declared.answers.Rule.{Rule}
use Rattle.converting.specs.declared.Outcome.{Outcome}
use Rattle.answering.specs.Text.{tally_text}
use Rattle.tallying.specs.Tallies.{tally_of}
use Rattle.tallying.specs.declared.Tally.{Tally}
use Rattle.gauges.specs.Numbers.{tally_at}
use Rattle.tracing.specs.Lines.{asked_of, outcome_at, later}
use Rattle.tracing.specs.Whole.{tallies}
use Rattle.tracing.specs.declared.Asked.{Asked}

-- what a line that asks this answers to element k: nothing, unless it has a count of that element
abbrev pub given : List ℕ → ℕ → Result Asked Rule → List (Result Outcome Rule)
given sensors k (Ok a) = cond (eqb a.element k) (outcome_at sensors (Ok a) ∷ []) []
given sensors k (Err r) = []

-- the answers to element k of lines in their order, after so many others
abbrev pub outcomes_of : List ℕ → ℕ → ℕ → ℕ → List (List ℕ) → List (Result Outcome Rule)
outcomes_of sensors elements k n [] = []
outcomes_of sensors elements k n (l ∷ ls) =
    given sensors k (asked_of elements (later n) (read l)) ++ outcomes_of sensors elements k (later n) ls

-- the tallies of element k after lines, of which the first is line 1: all are 0 before it
abbrev pub tally_after : List ℕ → ℕ → ℕ → List (List ℕ) → Tally
tally_after sensors elements k ls = tally_at (tallies sensors elements 0 (replicate 480 0) ls) k

-- the text of the tallies that so many elements have after lines: 'at the end come the tallies by element'
abbrev pub tally_rows : List ℕ → ℕ → List (List ℕ) → ℕ → List ℕ
tally_rows sensors elements ls zero = []
tally_rows sensors elements ls (suc k) = tally_rows sensors elements ls k ++ tally_text k (tally_of (outcomes_of sensors elements k 0 ls))
