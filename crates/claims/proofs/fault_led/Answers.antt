-- The fault LED's claim as a set of one pin.
-- Assumes nothing.
use Rattle.claims.proofs.Elements.{fault_led_lem}
use Rattle.claims.proofs.fault_led.Goals as goal

pub returns : goal.returns
returns c = fault_led_lem
