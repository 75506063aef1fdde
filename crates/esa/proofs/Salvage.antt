-- The call of salvage over numbers: no length is too large, and there is no second outcome.
-- Assumes nothing.
use Prim.Native.Nat.{ℕ}
use native.Mathlib.Omega.{arith}
use mathlib.Core.Path.{◌≡◌, sym, ◌∙◌, ap}
use mathlib.Core.Bool.{Bool, true, false, cond}
use mathlib.Core.List.{List}
use lib.ListN.{length}
use lib.Dec.{leb}
use Rattle.format.specs.Slots.{Bytes}
use Rattle.format.specs.declared.pins.Chip.{Chip}
use Rattle.saving.specs.Saving.{taken, salvageable}
use Rattle.saving.specs.Lines.{new_table, new_text, answer}
use Rattle.saving.specs.Salvaged.{Salvaged}
use Rattle.saving.specs.Salvaged.{Done, Refused}
use Rattle.saving.proofs.Bounds.{table_short}
use Rattle.saving.proofs.Texts.{text_short}
use Rattle.salvaging.specs.Salvages.{Salvages}
use Rattle.salvaging.proofs.Only.{only_salvage}
use Rattle.esa.specs.Salvage.{packed_salvaged, SalvageFits, SalvagedFor}

module _ (chip : Chip) (file out lines : List ℕ) where
  answer_fits : Bytes file → (room : ℕ) → SalvageFits (answer chip file room)
  unfolding answer
  answer_fits small room = go (salvageable chip (taken file)) (leb (length (new_table chip file)) room)
    where
      go :
          (a b : Bool)
          → SalvageFits (cond a (cond b (Done (length (new_table chip file)) (length (new_text chip file))) (Refused 16 0)) (Refused 24 0))
      go true true = ((table_short chip file small).0, omega (arith, text_short chip file small))
      go true false = omega arith
      go false b = omega arith

  pub salvage_fits : {r : Salvaged} {out' lines' : List ℕ} → Bytes file → Salvages chip file out lines r out' lines' → SalvageFits r
  salvage_fits small s = rw s.answers (answer_fits small (length out))

  pub salvage_unique :
      (r r' : ℕ) (o o' l l' : List ℕ)
      → SalvagedFor chip file out lines r o l
      → SalvagedFor chip file out lines r' o' l'
      → (r ≡ r') × (o ≡ o') × (l ≡ l')
  salvage_unique r r' o o' l l' s s' =
      let q = only_salvage chip file out lines s.answer s'.answer o o' l l' s.salvages s'.salvages in
      (s.number ∙ ap packed_salvaged q.0 ∙ sym s'.number, q.1, q.2)
