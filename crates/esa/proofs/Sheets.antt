-- The pin sheet over numbers: no answer is too large, and there is no second outcome.
-- Assumes nothing.
use Prim.Native.Nat.{ℕ, ◌≤◌}
use mathlib.Core.Path.{◌≡◌, sym, ◌∙◌, ap, subst}
use mathlib.Core.List.{List}
use lib.ListN.{length}
use Rattle.format.specs.Slots.{Bytes}
use Rattle.format.specs.Records.{Record}
use Rattle.format.specs.Verdict.{accepted}
use Rattle.format.specs.Writing.{writing}
use Rattle.format.specs.Answers.{value_of}
use Rattle.format.specs.declared.pins.Chip.{Chip}
use Rattle.format.specs.declared.settings.Settings.{Settings}
use Rattle.format.specs.declared.records.Description.{Description}
use Rattle.format.specs.Answers.{Answer}
use Rattle.format.specs.Answers.{Gives as Accepted, Refused}
use Rattle.reader.proofs.Bounds.{value_bound}
use Rattle.pinsheet.specs.Sheet.{Claimant}
use Rattle.sheets.specs.Lines.{Leaves, filled, kept}
use Rattle.sheets.proofs.Only.{only_leaves}
use Rattle.esa.specs.Face.{packed}
use Rattle.esa.specs.Sheets.{SheetFor}

pub leaves_bound :
    (σ : Settings) (b : List ℕ) (f : Description → List Record → List Claimant) (old : List ℕ) (a : Answer) (new : List ℕ)
    → Leaves σ b f old a new
    → value_of a ≤ 4096
leaves_bound σ b f old a new (filled w) = value_bound σ b (Accepted (length w.rs)) (accepted w.d w.rs w.accepts)
leaves_bound σ b f old a new (kept {k = k} {p = p} v) = value_bound σ b (Refused k p) v

pub sheet_for :
    (c : Chip) (σ : Settings) (b : List ℕ) (f : Description → List Record → List Claimant) (old : List ℕ)
    (a : Answer) (new : List ℕ) {r : ℕ}
    → σ ≡ writing c
    → Leaves σ b f old a new
    → r ≡ packed a
    → SheetFor c b f old r new
sheet_for c σ b f old a new e l n =
    record { answer = a; leaves = subst (λ (s : Settings). Leaves s b f old a new) e l; number = n }

-- no second outcome
pub sheet_unique :
    (c : Chip) (b : List ℕ) (f : Description → List Record → List Claimant) (old : List ℕ) (r r' : ℕ) (after after' : List ℕ)
    → Bytes b
    → SheetFor c b f old r after
    → SheetFor c b f old r' after'
    → (r ≡ r') × (after ≡ after')
sheet_unique c b f old r r' after after' small s s' =
    let q = only_leaves (writing c) b f old s.answer s'.answer after after' small s.leaves s'.leaves in
    (s.number ∙ ap packed q.0 ∙ sym s'.number, q.1)
