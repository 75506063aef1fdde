-- What stands in a lent part, as one number; 17 at 0 where no such block or pair stands whole there.
-- Assumes nothing.
use Rattle.std.specs.Prelude.{ℕ, ◌+◌, ◌*◌, Option, Some, None}
use Rattle.format.specs.declared.records.RegisterPair.{RegisterPair}
use Rattle.parts.specs.declared.SpeedBlock.{SpeedBlock}
use Rattle.esa.specs.Face.{packs}

-- SPEED, and 256 times ENTRIES
abbrev pub packed_block : Option SpeedBlock → ℕ
packed_block (Some b) = packs 0 (b.speed.0 + 256 * b.entries)
packed_block None = packs 17 0

-- the address, and 65,536 times the data
abbrev pub packed_pair : Option RegisterPair → ℕ
packed_pair (Some p) = packs 0 (p.address + 65536 * p.«data»)
packed_pair None = packs 17 0

abbrev pub packed_entries : Option ℕ → ℕ
packed_entries (Some n) = packs 0 n
packed_entries None = packs 17 0
