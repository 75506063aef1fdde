-- `part_breaks` meets its contract, by the arm that was taken.
-- Assumes nothing.
use mathlib.Core.Path.{refl}
use Rattle.format.specs.Writing.{part_breaks}
use Rattle.checks.proofs.Parting.{of_kind_lem, alone}
use Rattle.checks.proofs.part_breaks.Goals as goal

pub returns-in-Zone : goal.returns-in-Zone
unfolding part_breaks
returns-in-Zone c = of_kind_lem _ _ _ _ c.in-Zone.is (c.zone_breaks.ensures _)

pub returns-in-Text : goal.returns-in-Text
unfolding part_breaks
returns-in-Text c = of_kind_lem _ _ _ _ c.in-Text.is (c.text_breaks.ensures _)

pub returns-in-Digital : goal.returns-in-Digital
returns-in-Digital c = search (alone, refl)

pub returns-in-Analogue : goal.returns-in-Analogue
returns-in-Analogue c = search (alone, refl)

pub returns-in-Fan : goal.returns-in-Fan
returns-in-Fan c = search (alone, refl)

pub returns-in-Led : goal.returns-in-Led
returns-in-Led c = search (alone, refl)

pub returns-in-Water : goal.returns-in-Water
returns-in-Water c = search (alone, refl)

pub returns-in-Pump : goal.returns-in-Pump
returns-in-Pump c = search (alone, refl)

pub returns-in-Voltage : goal.returns-in-Voltage
returns-in-Voltage c = search (alone, refl)

pub returns-in-Current : goal.returns-in-Current
returns-in-Current c = search (alone, refl)

pub returns-in-Controller : goal.returns-in-Controller
returns-in-Controller c = search of_kind_lem

pub returns-in-Tachometer : goal.returns-in-Tachometer
returns-in-Tachometer c = search of_kind_lem

pub returns-in-External : goal.returns-in-External
returns-in-External c = search of_kind_lem

pub returns-in-Rgb : goal.returns-in-Rgb
returns-in-Rgb c = search (alone, refl)
