-- The label call over numbers: no place is too large for its bits, and there is no second outcome.
-- Assumes nothing.
use Prim.Native.Nat.{ℕ}
use mathlib.Core.Path.{◌≡◌, refl, sym, ◌∙◌, ap}
use mathlib.Core.List.{List}
use lib.ListN.{length}
use Rattle.format.specs.Slots.{Bytes}
use Rattle.format.specs.declared.settings.Settings.{Settings}
use Rattle.labels.specs.Called.{Found}
use Rattle.labels.specs.Called.{Source}
use Rattle.labels.specs.Called.{Text, Lent, Refused}
use Rattle.labels.proofs.Giving.{found_room, found_refused}
use Rattle.labels.proofs.Only.{only_find}
use Rattle.esa.specs.Labels.{packed_label, Fitting, LabelFor}

pub label_fits : (σ : Settings) (b : List ℕ) (k : ℕ) (x : Source) → Found σ b k x → Fitting x
label_fits σ b k (Text p n) f = (found_room σ b k (Text p n) f refl).1
label_fits σ b k Lent f = tt
label_fits σ b k (Refused j p) f = found_refused σ b k (Refused j p) f refl

-- no second outcome
pub label_unique :
    (σ : Settings) (b : List ℕ) (k : ℕ) (name : List ℕ) (r r' : ℕ)
    → Bytes b
    → LabelFor σ b k name r
    → LabelFor σ b k name r'
    → r ≡ r'
label_unique σ b k name r r' small l l' =
    l.number
    ∙ ap (λ (x : Source). packed_label x (length name)) (only_find σ b k small l.answer l'.answer l.found l'.found)
    ∙ sym l'.number
