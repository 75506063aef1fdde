-- `claims_of` meets its contract: by the kind.
-- Assumes nothing.
use Rattle.claiming.proofs.Bare.{by_kind}
use Rattle.claiming.proofs.claims_of.Goals as goal

pub returns-in-Digital : goal.returns-in-Digital
returns-in-Digital c = by_kind c.in-Digital.is c.bus_claims.ensures

pub returns-in-Analogue : goal.returns-in-Analogue
returns-in-Analogue c = by_kind c.in-Analogue.is c.analogue_claims.ensures

pub returns-in-Fan : goal.returns-in-Fan
returns-in-Fan c = by_kind c.in-Fan.is c.fan_claims.ensures

pub returns-in-Led : goal.returns-in-Led
returns-in-Led c = by_kind c.in-Led.is c.led_claims.ensures

pub returns-in-Water : goal.returns-in-Water
returns-in-Water c = by_kind c.in-Water.is c.analogue_claims-in-Water.ensures

pub returns-in-Pump : goal.returns-in-Pump
returns-in-Pump c = by_kind c.in-Pump.is c.fan_claims-in-Pump.ensures

pub returns-in-Voltage : goal.returns-in-Voltage
returns-in-Voltage c = by_kind c.in-Voltage.is c.analogue_claims-in-Voltage.ensures

pub returns-in-Current : goal.returns-in-Current
returns-in-Current c = by_kind c.in-Current.is c.analogue_claims-in-Current.ensures

pub returns-in-Controller : goal.returns-in-Controller
returns-in-Controller c = by_kind c.in-Controller.is c.bus_claims-in-Controller.ensures

pub returns-in-Tachometer : goal.returns-in-Tachometer
returns-in-Tachometer c = by_kind c.in-Tachometer.is c.bus_claims-in-Tachometer.ensures

pub returns-in-Zone : goal.returns-in-Zone
returns-in-Zone c = by_kind c.in-Zone.is (λ k h. c.no_claims.ensures)

pub returns-in-Text : goal.returns-in-Text
returns-in-Text c = by_kind c.in-Text.is (λ k h. c.no_claims-in-Text.ensures)

pub returns-in-External : goal.returns-in-External
returns-in-External c = by_kind c.in-External.is c.bus_claims-in-External.ensures

pub returns-in-Rgb : goal.returns-in-Rgb
returns-in-Rgb c = by_kind c.in-Rgb.is c.rgb_claims.ensures
