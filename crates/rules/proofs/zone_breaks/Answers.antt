-- The length after the header decides, and so the length with it.
-- Assumes nothing.
use mathlib.Core.Path.{refl}
use lib.ListN.{length}
use Rattle.format.specs.Records.{zone}
use Rattle.rules.proofs.Contents.{zone_size}
use Rattle.rules.proofs.zone_breaks.Goals as goal

pub returns : goal.returns
returns c = λ s. c.own_breaks.ensures s (zone _) (zone_size (length c.args.part.now)) refl refl refl
