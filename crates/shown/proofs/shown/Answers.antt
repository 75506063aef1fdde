-- `shown` meets its contract: by the kind.
-- Assumes nothing.
use Rattle.shown.proofs.OfKind.{of_kind_lem}
use Rattle.shown.proofs.shown.Goals as goal

pub returns-in-Digital : goal.returns-in-Digital
returns-in-Digital c = search of_kind_lem

pub returns-in-Analogue : goal.returns-in-Analogue
returns-in-Analogue c = search of_kind_lem

pub returns-in-Fan : goal.returns-in-Fan
returns-in-Fan c = search of_kind_lem

pub returns-in-Led : goal.returns-in-Led
returns-in-Led c = search of_kind_lem

pub returns-in-Water : goal.returns-in-Water
returns-in-Water c = search of_kind_lem

pub returns-in-Pump : goal.returns-in-Pump
returns-in-Pump c = search of_kind_lem

pub returns-in-Voltage : goal.returns-in-Voltage
returns-in-Voltage c = search of_kind_lem

pub returns-in-Current : goal.returns-in-Current
returns-in-Current c = search of_kind_lem

pub returns-in-Controller : goal.returns-in-Controller
returns-in-Controller c = search of_kind_lem

pub returns-in-Tachometer : goal.returns-in-Tachometer
returns-in-Tachometer c = search of_kind_lem

pub returns-in-External : goal.returns-in-External
returns-in-External c = search of_kind_lem

pub returns-in-Rgb : goal.returns-in-Rgb
returns-in-Rgb c = search of_kind_lem
