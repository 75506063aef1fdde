-- What the call promises: the answer, and every byte of the two lent buffers.
-- Assumes nothing.
use Rattle.std.specs.Prelude.{ℕ, ◌≡◌, List, length}
use Rattle.format.specs.declared.pins.Chip.{Chip}
use Rattle.saving.specs.Lines.{answer, new_table, new_text, leaves_of}
use Rattle.saving.specs.Salvaged.{Salvaged}

pub record Salvages (c : Chip) (file out lines : List ℕ) (r : Salvaged) (out' lines' : List ℕ) : Type 0 where
  pub answers : r ≡ answer c file (length out)
  pub table : out' ≡ leaves_of r (new_table c file) out
  pub text : lines' ≡ leaves_of r (new_text c file) lines
