-- `pass` meets its contract: all flags are clear but that of the description's string index.
-- Assumes nothing.
use native.Mathlib.Omega.{arith}
use mathlib.Core.Path.{refl}
use Rattle.reader.proofs.Reading.{at_start}
use Rattle.salvaging.proofs.pass.Goals as goal

pub scan-requires : goal.scan-requires
scan-requires c =
    let p = c.requires in
    let w = c.from-index in
    (p.0, p.1, p.2, at_start _ _ w.result (omega arith) w.ensures refl refl p.3 refl, p.4, p.5)
