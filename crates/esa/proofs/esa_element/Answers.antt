-- `esa_element` meets its contract: no place is too large.
-- Assumes nothing.
use Rattle.format.specs.Answers.{told}
use Rattle.reader.proofs.Bounds.{place_bound}
use Rattle.esa.proofs.esa_element.Goals as goal

pub asked-requires : goal.asked-requires
asked-requires c = place_bound _ _ _ _ _ c.element.ensures.gives

pub returns : goal.returns
returns c =
    let g = c.element.ensures in
    rw (← c.settings_of.ensures)
    (record { answer = told c.element.result; part = g.beside; gives = g.gives; number = c.asked.ensures })
