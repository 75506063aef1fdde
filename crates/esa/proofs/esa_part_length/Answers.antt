-- `esa_part_length` meets its contract, by what `part` ensures.
-- Assumes nothing.
use mathlib.Core.Path.{refl}
use Rattle.esa.proofs.esa_part_length.Goals as goal

pub returns : goal.returns
returns c =
    rw (← c.settings_of.ensures)
    (record { answer = c.part-part.ensures.beside; part = _; gives = c.part-part.ensures.gives; number = refl })
