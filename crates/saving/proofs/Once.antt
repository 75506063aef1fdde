-- What a result of salvage says is said by no other result.
-- Assumes nothing.
use mathlib.Core.Path.{◌≡◌, refl, sym, ◌∙◌, ap}
use Rattle.std.specs.Prelude.{Result, Ok, Err}
use Rattle.format.specs.Answers.{Answered, Gives, told}
use Rattle.format.specs.Answers as answer
use Rattle.format.specs.declared.answers.Refusal.{Refusal}
use Rattle.format.proofs.Refusals.{told_once}
use Rattle.saving.specs.Salvaged.{Salvaged, Done, Refused, salvaged}
use Rattle.saving.specs.declared.Lengths.{Lengths}

abbrev answered : Salvaged → Answered Lengths
answered (Done n m) = Gives (record { table = n; lines = m })
answered (Refused k p) = answer.Refused k p

salvaged_told : (r : Result Lengths Refusal) → answered (salvaged r) ≡ told r
salvaged_told (Ok l) = refl
salvaged_told (Err r) = refl

pub salvaged_once : (r q : Result Lengths Refusal) → salvaged r ≡ salvaged q → r ≡ q
salvaged_once r q e = told_once r q (sym (salvaged_told r) ∙ ap answered e ∙ salvaged_told q)
