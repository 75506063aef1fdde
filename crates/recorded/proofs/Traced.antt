-- A WHOLE TRACE, from its start to its end: of an accepted table the calls give the text over its records, an answer for each line and
-- a line of tallies for every element.
-- Assumes nothing.
use Prim.Native.Nat.{ℕ, ◌≤◌, min}
use native.Mathlib.Omega.{arith}
use mathlib.Core.Path.{◌≡◌, ◌∙◌, ap}
use mathlib.Core.List.{List, [], ◌++◌}
use lib.ListN.{length, take, replicate}
use Rattle.format.specs.Slots.{Bytes}
use Rattle.format.specs.Records.{Record}
use Rattle.format.specs.Verdict.{Accepts}
use Rattle.format.specs.declared.settings.Settings.{Settings}
use Rattle.format.specs.declared.records.Description.{Description}
use Rattle.format.specs.Answers.{Gives as Accepted}
use Rattle.format.proofs.Lengths.{at_most_96}
use Rattle.format.proofs.Demand3.{accepted_exactly, only_one_list}
use Rattle.readying.specs.Starting.{laid, StartIs}
use Rattle.readying.specs.Starting.StartIs.{begun}
use Rattle.tracing.specs.Calls.{EndIs}
use Rattle.tracing.specs.Cutting.{together, Pieces}
use Rattle.tracing.specs.Whole.{lines_of, answers, trace_text}
use Rattle.tracing.proofs.EveryCutting.{every_cutting}
use Rattle.recorded.specs.Outcomes.{tally_rows}
use Rattle.recorded.proofs.Told.{rows_told}

pub whole_trace :
    (σ : Settings) (t n s ts : List ℕ) {count r : ℕ} {n₁ s₁ ts₁ text n' ts' out out' : List ℕ} {ps : List (List ℕ)}
    {d : Description} {rs : List Record}
    → Bytes t
    → Accepts σ t d rs
    → StartIs σ t n s ts (Accepted count) n₁ s₁ ts₁
    → Pieces s₁ n₁ ts₁ ps text n' ts'
    → EndIs n' s₁ ts' out r out'
    → text ++ take r out'
    ≡ answers (laid (replicate 576 0) 0 rs) (length rs) 0 (lines_of (together ps))
    ++ tally_rows (laid (replicate 576 0) 0 rs) (length rs) (lines_of (together ps)) (length rs)
whole_trace σ t n s ts {count} {s₁ = s₁} {ps = ps} {d} {rs} small a (begun v g) pieces end =
    let all : List ℕ = together ps in
    let few : length rs ≤ 96 = omega (arith, at_most_96 σ [] rs (omega arith) a.keeps.passed) in
    let x = (accepted_exactly σ t count).0 v in
    let counted : count ≡ length rs = x.3 ∙ ap length (only_one_list σ t x.0 d x.1 rs small x.2 a).1 in
    let laying : s₁ ≡ laid (replicate 576 0) 0 rs =
    g.sensors ∙ ap (laid (replicate 576 0) 0) (only_one_list σ t g.d d g.rs rs small g.accepts a).1 in
    let most : min count 96 ≡ length rs = omega (arith, counted, few) in
    every_cutting s₁ pieces end
    ∙ ap (λ (l : List ℕ). trace_text l (min count 96) all) laying
    ∙ ap (λ (m : ℕ). trace_text (laid (replicate 576 0) 0 rs) m all) most
    ∙ rows_told (laid (replicate 576 0) 0 rs) (length rs) all few
