-- `enter_element` meets its contract: the pins that the element's claims name, those that it shares and its own.
-- Assumes nothing.
use Rattle.sheets.proofs.Naming.{both_lines}
use Rattle.sheets.proofs.enter_element.Goals as goal

pub returns : goal.returns
returns c = λ x h p.
    both_lines _ x _ _ _ _ p (c.element_at-e.ensures x h) c.id_of.ensures c.shown-w.ensures.1
    c.shared_pins.ensures c.enter.ensures c.enter-2.ensures
