-- `element_roomy` meets its contract, by the arm that was taken; the numbers of the kinds that are not tested fit by their types.
-- Assumes nothing.
use native.Mathlib.Omega.{arith}
use Rattle.widths.proofs.Roomy.{water_roomy, voltage_roomy, current_roomy, rgb_roomy}
use Rattle.widths.proofs.element_roomy.Goals as goal

pub returns-in-Digital : goal.returns-in-Digital
returns-in-Digital c = rw c.in-Digital.is c.digital_roomy.ensures

pub returns-in-Analogue : goal.returns-in-Analogue
returns-in-Analogue c = rw c.in-Analogue.is c.analogue_roomy.ensures

pub returns-in-Fan : goal.returns-in-Fan
returns-in-Fan c = rw c.in-Fan.is c.fan_roomy.ensures.0

pub returns-in-Led : goal.returns-in-Led
returns-in-Led c = rw c.in-Led.is c.led_roomy.ensures

pub returns-in-Water : goal.returns-in-Water
returns-in-Water c =
    let g = rw c.in-Water.is at c.well_formed in
    rw c.in-Water.is
    (water_roomy c.in-Water.field-0 (omega arith, omega arith, omega arith, omega arith, omega arith)
    (omega arith) (omega arith) (omega arith) (omega arith))

pub returns-in-Pump : goal.returns-in-Pump
returns-in-Pump c = rw c.in-Pump.is c.fan_roomy-in-Pump.ensures.1

pub returns-in-Voltage : goal.returns-in-Voltage
returns-in-Voltage c =
    let g = rw c.in-Voltage.is at c.well_formed in
    rw c.in-Voltage.is
    (voltage_roomy c.in-Voltage.field-0 (omega arith, omega arith, omega arith, omega arith, omega arith)
    (omega arith) (omega arith) (omega arith))

pub returns-in-Current : goal.returns-in-Current
returns-in-Current c =
    let g = rw c.in-Current.is at c.well_formed in
    rw c.in-Current.is
    (current_roomy c.in-Current.field-0 (omega arith, omega arith, omega arith, omega arith, omega arith)
    (omega arith) (omega arith) (omega arith))

pub returns-in-Controller : goal.returns-in-Controller
returns-in-Controller c = rw c.in-Controller.is c.device_roomy.ensures.0

pub returns-in-Tachometer : goal.returns-in-Tachometer
returns-in-Tachometer c = rw c.in-Tachometer.is c.device_roomy-in-Tachometer.ensures.1

pub returns-in-External : goal.returns-in-External
returns-in-External c = rw c.in-External.is c.external_roomy.ensures

pub returns-in-Rgb : goal.returns-in-Rgb
returns-in-Rgb c =
    let g = rw c.in-Rgb.is at c.well_formed in
    rw c.in-Rgb.is
    (rgb_roomy c.in-Rgb.field-0 (omega arith, omega arith, omega arith, omega arith, omega arith)
    (omega arith) (omega arith) (omega arith))
