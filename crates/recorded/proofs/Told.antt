-- The calls carry and print these tallies: in the state after pieces that end with a line, and in the text of the whole trace.
-- Assumes nothing.
use Prim.Native.Nat.{ℕ, zero, suc, ◌≤◌, min}
use native.Mathlib.Omega.{arith}
use mathlib.Core.Path.{◌≡◌, refl, sym, ◌∙◌, ap}
use mathlib.Core.List.{List, [], ◌∷◌, ◌++◌}
use lib.ListN.{replicate}
use borrow.Author.Tests.{ne_eqb}
use Rattle.parsing.specs.Scanning.{begin, step, scanned, read}
use Rattle.parsing.specs.declared.Scan.{Scan}
use Rattle.answering.specs.Text.{by_number, answer_text, tally_text}
use Rattle.tallying.specs.Tallies.{tally_of}
use Rattle.tallying.specs.declared.Tally.{Tally}
use Rattle.gauges.specs.Numbers.{tally_at}
use Rattle.tracing.specs.Lines.{asked_of, outcome_at, tallied, later}
use Rattle.tracing.specs.Running.{Run, run, over, tally_lines}
use Rattle.tracing.specs.State.{scan_of, elements_in}
use Rattle.tracing.specs.Whole.{lines_of, answers, tallies, trace_text}
use Rattle.tracing.specs.Cutting.{together, Pieces, fresh}
use Rattle.tracing.proofs.Whole.{over_append}
use Rattle.tracing.proofs.EveryCutting.{through}
use Rattle.recorded.specs.Outcomes.{outcomes_of, tally_rows}
use Rattle.recorded.specs.Feeding.{fed, Unfed, AllUnfed}
use Rattle.recorded.proofs.Tallies.{tallies_are}

module _ (sensors : List ℕ) (elements : ℕ) where
  -- bytes without a line feed are scanned
  inside_line : (n : ℕ) (s : Scan) (ts t l : List ℕ) → Unfed l → over sensors elements (run n s ts t) l ≡ run n (scanned s l) ts t
  inside_line n s ts t [] h = refl
  inside_line n s ts t (b ∷ l) h = rw (ne_eqb b 10 h.0) (inside_line n (step s b) ts t l h.1)

  -- after lines that have ended, the tallies are those of the lines
  after_lines :
      (ls : List (List ℕ)) (n : ℕ) (ts t : List ℕ)
      → AllUnfed ls
      → (over sensors elements (run n begin ts t) (fed ls)).tallies ≡ tallies sensors elements n ts ls
  after_lines [] n ts t h = refl
  after_lines (l ∷ ls) n ts t h =
      let q = asked_of elements (later n) (read l) in
      ap (λ (r : Run). r.tallies) (over_append sensors elements (run n begin ts t) l (10 ∷ fed ls))
      ∙ ap (λ (r : Run). (over sensors elements r (10 ∷ fed ls)).tallies) (inside_line n begin ts t l h.0)
      ∙ after_lines ls (later n) (tallied sensors ts q) (t ++ answer_text (by_number (outcome_at sensors q)) (later n)) h.1

  -- a line of tallies for each element
  each_row :
      (ls : List (List ℕ)) (k : ℕ)
      → elements ≤ 96
      → tally_lines (tallies sensors elements 0 (replicate 480 0) ls) k ≡ tally_rows sensors elements ls k
  each_row ls zero few = refl
  each_row ls (suc k) few =
      ap (λ (l : List ℕ). l ++ tally_text k (tally_at (tallies sensors elements 0 (replicate 480 0) ls) k)) (each_row ls k few)
      ∙ ap (λ (t : Tally). tally_rows sensors elements ls k ++ tally_text k t) (tallies_are sensors elements few k ls)

  -- the text of a trace ends with the tallies of all answers to each element
  pub rows_told :
      (s : List ℕ)
      → elements ≤ 96
      → trace_text sensors elements s
      ≡ answers sensors elements 0 (lines_of s) ++ tally_rows sensors elements (lines_of s) elements
  rows_told s few = ap (λ (l : List ℕ). answers sensors elements 0 (lines_of s) ++ l) (each_row (lines_of s) elements few)

-- 'updated at each line': however the lines so far are cut into pieces, the state has for element k the tallies of all its answers
pub state_told :
    (sensors : List ℕ) (k : ℕ) (ls : List (List ℕ)) {count : ℕ} {text n' ts' : List ℕ} {ps : List (List ℕ)}
    → Pieces sensors (fresh count) (replicate 480 0) ps text n' ts'
    → together ps ≡ fed ls
    → AllUnfed ls
    → tally_at ts' k ≡ tally_of (outcomes_of sensors (min count 96) k 0 ls)
unfolding scan_of elements_in
state_told sensors k ls {count} g e h =
    let m : ℕ = min count 96 in
    ap (λ (r : Run). tally_at r.tallies k) (sym (through sensors g).1)
    ∙ ap (λ (l : List ℕ). tally_at (over sensors m (run 0 begin (replicate 480 0) []) l).tallies k) e
    ∙ ap (λ (l : List ℕ). tally_at l k) (after_lines sensors m ls 0 (replicate 480 0) [] h)
    ∙ tallies_are sensors m (omega arith) k ls
