-- `element_of` meets its contract: the arm that was taken is the identifier's, and its reader reads the record.
-- Assumes nothing.
use mathlib.Core.Path.{ap}
use Rattle.format.specs.declared.records.Element.TheVariants.{Digital, Analogue, Fan, Led, Water, Pump, Voltage, Current, Controller}
use Rattle.format.specs.declared.records.Element.TheVariants.{Tachometer, External, Rgb}
use Rattle.elements.proofs.Which.{is_digital, is_analogue, is_fan, is_led, is_water, is_pump, is_voltage, is_current}
use Rattle.elements.proofs.Which.{is_controller, is_tachometer, is_external, is_rgb, long_enough, reads, is_text, is_zone}
use Rattle.elements.proofs.element_of.Goals as goal

pub returns-in-12 : goal.returns-in-12
returns-in-12 c = λ x d. is_text _ _ x (rw c.in-12.is at d)

pub returns-in_default : goal.returns-in_default
returns-in_default c = λ x d. search is_zone

pub digital-requires : goal.digital-requires
digital-requires c = long_enough _ _ is_digital c.in-1.is c.requires

pub analogue-requires : goal.analogue-requires
analogue-requires c = long_enough _ _ is_analogue c.in-2.is c.requires

pub fan-requires : goal.fan-requires
fan-requires c = long_enough _ _ is_fan c.in-3.is c.requires

pub led-requires : goal.led-requires
led-requires c = long_enough _ _ is_led c.in-4.is c.requires

pub water-requires : goal.water-requires
water-requires c = long_enough _ _ is_water c.in-5.is c.requires

pub fan-requires-in-6 : goal.fan-requires-in-6
fan-requires-in-6 c = long_enough _ _ is_pump c.in-6.is c.requires

pub voltage-requires : goal.voltage-requires
voltage-requires c = long_enough _ _ is_voltage c.in-7.is c.requires

pub current-requires : goal.current-requires
current-requires c = long_enough _ _ is_current c.in-8.is c.requires

pub device-requires : goal.device-requires
device-requires c = long_enough _ _ is_controller c.in-9.is c.requires

pub device-requires-in-10 : goal.device-requires-in-10
device-requires-in-10 c = long_enough _ _ is_tachometer c.in-10.is c.requires

pub external-requires : goal.external-requires
external-requires c = long_enough _ _ is_external c.in-13.is c.requires

pub rgb-requires : goal.rgb-requires
rgb-requires c = long_enough _ _ is_rgb c.in-14.is c.requires

pub returns-in-1 : goal.returns-in-1
returns-in-1 c = reads _ _ is_digital c.in-1.is (ap Digital c.digital.ensures)

pub returns-in-2 : goal.returns-in-2
returns-in-2 c = reads _ _ is_analogue c.in-2.is (ap Analogue c.analogue.ensures)

pub returns-in-3 : goal.returns-in-3
returns-in-3 c = reads _ _ is_fan c.in-3.is (ap Fan c.fan.ensures)

pub returns-in-4 : goal.returns-in-4
returns-in-4 c = reads _ _ is_led c.in-4.is (ap Led c.led.ensures)

pub returns-in-5 : goal.returns-in-5
returns-in-5 c = reads _ _ is_water c.in-5.is (ap Water c.water.ensures)

pub returns-in-6 : goal.returns-in-6
returns-in-6 c = reads _ _ is_pump c.in-6.is (ap Pump c.fan-in-6.ensures)

pub returns-in-7 : goal.returns-in-7
returns-in-7 c = reads _ _ is_voltage c.in-7.is (ap Voltage c.voltage.ensures)

pub returns-in-8 : goal.returns-in-8
returns-in-8 c = reads _ _ is_current c.in-8.is (ap Current c.current.ensures)

pub returns-in-9 : goal.returns-in-9
returns-in-9 c = reads _ _ is_controller c.in-9.is (ap Controller c.device.ensures)

pub returns-in-10 : goal.returns-in-10
returns-in-10 c = reads _ _ is_tachometer c.in-10.is (ap Tachometer c.device-in-10.ensures)

pub returns-in-13 : goal.returns-in-13
returns-in-13 c = reads _ _ is_external c.in-13.is (ap External c.external.ensures)

pub returns-in-14 : goal.returns-in-14
returns-in-14 c = reads _ _ is_rgb c.in-14.is (ap Rgb c.rgb.ensures)
