-- `packed_own` meets its contract: our own thermistor's answer to the shortened count.
-- Assumes nothing.
use Rattle.std.specs.Prelude.{Some}
use Rattle.sensing.specs.declared.Sensor.TheVariants.{Points}
use Rattle.thermistor.specs.Ready.{ours}
use Rattle.metering.proofs.Shortening.{unshortened}
use Rattle.metering.proofs.packed_own.Goals as goal

pub returns : goal.returns
returns c =
    record {
      answer = c.ours.result;
      reads = unshortened (Some (Points ours)) c.ours.result c.shortened.ensures c.ours.ensures;
      number = rw (← c.told.ensures, ← c.at_zero.ensures) c.packed.ensures;
    }
