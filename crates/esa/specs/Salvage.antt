-- Saving what can be saved: the answer as one number, and the bytes that are left in both buffers.
-- Assumes nothing.
use Rattle.std.specs.Prelude.{ℕ, ◌+◌, ◌*◌, ◌≤◌, ◌≡◌, List}
use Rattle.format.specs.declared.pins.Chip.{Chip}
use Rattle.saving.specs.Salvaged.{Salvaged}
use Rattle.saving.specs.Salvaged.{Done, Refused}
use Rattle.salvaging.specs.Salvages.{Salvages}
use Rattle.esa.specs.Face.{packs}

-- beside 0 the length of the new table and that of the text
abbrev pub packed_salvaged : Salvaged → ℕ
packed_salvaged (Done n m) = packs 0 (n + 65536 * m)
packed_salvaged (Refused k p) = packs k p

-- no length and no place is too large for that
abbrev pub SalvageFits : Salvaged → Type 0
SalvageFits (Done n m) = (n ≤ 4096) × (m ≤ 32768)
SalvageFits (Refused k p) = p ≤ 4096

pub record SalvagedFor (chip : Chip) (file out lines : List ℕ) (r : ℕ) (out' lines' : List ℕ) : Type 0 where
  pub answer : Salvaged
  pub salvages : Salvages chip file out lines answer out' lines'
  pub number : r ≡ packed_salvaged answer
