-- The same answers by the records: speed block j of a list of blocks, block w of the lists of 0Ah or 0Dh, and pair i of either.
-- Assumes nothing.
use Rattle.std.specs.Prelude.{ℕ, List, length, Option as Answer, Some, None}
use Rattle.std.proofs.Math.Option.{Option, none, some}
use Rattle.std.proofs.Math.ListN.{get_elem?}
use Rattle.format.specs.Records.{Block}
use Rattle.format.specs.declared.records.RegisterPair.{RegisterPair}
use Rattle.parts.specs.declared.SpeedBlock.{SpeedBlock}

-- the block's speed, and how many pairs it has
abbrev pub block_field : Option Block → Answer SpeedBlock
block_field none = None
block_field (some b) = Some (record { speed = b.speed; entries = length b.pairs })

-- the pair itself
abbrev pub pair_field : Option RegisterPair → Answer RegisterPair
pair_field none = None
pair_field (some p) = Some p

-- pair i of a block
abbrev pub block_pair_field : ℕ → Option Block → Answer RegisterPair
block_pair_field i none = None
block_pair_field i (some b) = pair_field (get_elem? b.pairs i)

-- how many pairs a list has
abbrev pub list_field : Option (List RegisterPair) → Answer ℕ
list_field none = None
list_field (some ps) = Some (length ps)

-- pair i of a list
abbrev pub list_pair_field : ℕ → Option (List RegisterPair) → Answer RegisterPair
list_pair_field i none = None
list_pair_field i (some ps) = pair_field (get_elem? ps i)
