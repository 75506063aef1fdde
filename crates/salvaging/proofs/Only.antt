-- No second outcome keeps the words, nor a second result: the answer and both buffers are those of the definitions.
-- Assumes nothing.
use Prim.Native.Nat.{ℕ}
use mathlib.Core.Path.{◌≡◌, sym, ◌∙◌, ap}
use mathlib.Core.List.{List}
use Rattle.std.specs.Prelude.{Result}
use Rattle.format.specs.declared.pins.Chip.{Chip}
use Rattle.format.specs.declared.answers.Refusal.{Refusal}
use Rattle.saving.specs.Lines.{new_table, new_text, leaves_of}
use Rattle.saving.specs.Salvaged.{Salvaged, salvaged}
use Rattle.saving.specs.declared.Lengths.{Lengths}
use Rattle.saving.proofs.Once.{salvaged_once}
use Rattle.salvaging.specs.Salvages.{Salvages}

pub only_salvage :
    (c : Chip) (file out lines : List ℕ) (r r' : Salvaged) (o o' l l' : List ℕ)
    → Salvages c file out lines r o l
    → Salvages c file out lines r' o' l'
    → (r ≡ r') × (o ≡ o') × (l ≡ l')
only_salvage c file out lines r r' o o' l l' p q =
    let same : r ≡ r' = p.answers ∙ sym q.answers in (
      same,
      p.table ∙ ap (λ (x : Salvaged). leaves_of x (new_table c file) out) same ∙ sym q.table,
      p.text ∙ ap (λ (x : Salvaged). leaves_of x (new_text c file) lines) same ∙ sym q.text,
    )

-- over the call's own result
pub only_salvage_result :
    (c : Chip) (file out lines : List ℕ) (r r' : Result Lengths Refusal) (o o' l l' : List ℕ)
    → Salvages c file out lines (salvaged r) o l
    → Salvages c file out lines (salvaged r') o' l'
    → (r ≡ r') × (o ≡ o') × (l ≡ l')
only_salvage_result c file out lines r r' o o' l l' p q =
    let s = only_salvage c file out lines (salvaged r) (salvaged r') o o' l l' p q in
    (salvaged_once r r' s.0, s.1, s.2)
