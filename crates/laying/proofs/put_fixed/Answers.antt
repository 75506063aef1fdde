-- `laying::put_fixed` meets its contract: the arm that was taken is the element's kind, whose function lays its bytes; a zone
-- descriptor and a string have none.
-- Assumes nothing.
use mathlib.Core.Path.{refl}
use Rattle.laying.proofs.OfKind.{roomed, laid, bare, as_fan}
use Rattle.laying.proofs.put_fixed.Goals as goal

pub digital-requires : goal.digital-requires
digital-requires c = search roomed

pub analogue-requires : goal.analogue-requires
analogue-requires c = search roomed

pub fan-requires : goal.fan-requires
fan-requires c = search roomed

pub led-requires : goal.led-requires
led-requires c = search roomed

pub water-requires : goal.water-requires
water-requires c = search roomed

pub fan-requires-in-Pump : goal.fan-requires-in-Pump
fan-requires-in-Pump c = search (as_fan, roomed)

pub voltage-requires : goal.voltage-requires
voltage-requires c = search roomed

pub current-requires : goal.current-requires
current-requires c = search roomed

pub controller-requires : goal.controller-requires
controller-requires c = search roomed

pub tachometer-requires : goal.tachometer-requires
tachometer-requires c = search roomed

pub external-requires : goal.external-requires
external-requires c = search roomed

pub rgb-requires : goal.rgb-requires
rgb-requires c = search roomed

pub returns-in-Digital : goal.returns-in-Digital
returns-in-Digital c = search laid

pub returns-in-Analogue : goal.returns-in-Analogue
returns-in-Analogue c = search laid

pub returns-in-Fan : goal.returns-in-Fan
returns-in-Fan c = search laid

pub returns-in-Led : goal.returns-in-Led
returns-in-Led c = search laid

pub returns-in-Water : goal.returns-in-Water
returns-in-Water c = search laid

pub returns-in-Pump : goal.returns-in-Pump
returns-in-Pump c = search laid

pub returns-in-Voltage : goal.returns-in-Voltage
returns-in-Voltage c = search laid

pub returns-in-Current : goal.returns-in-Current
returns-in-Current c = search laid

pub returns-in-Controller : goal.returns-in-Controller
returns-in-Controller c = search laid

pub returns-in-Tachometer : goal.returns-in-Tachometer
returns-in-Tachometer c = search laid

pub returns-in-Zone : goal.returns-in-Zone
returns-in-Zone c = search (bare, refl)

pub returns-in-Text : goal.returns-in-Text
returns-in-Text c = search (bare, refl)

pub returns-in-External : goal.returns-in-External
returns-in-External c = search laid

pub returns-in-Rgb : goal.returns-in-Rgb
returns-in-Rgb c = search laid
