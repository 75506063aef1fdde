-- Where an element's variable part starts.
-- Assumes nothing.
use Rattle.std.specs.Prelude.{ℕ, cond, eqb}

-- 'the blocks of 09h and 0Ah; of a string or zone all bytes after the header .. ; of others nothing'; and the blocks of 0Dh
abbrev pub part_start : ℕ → ℕ → ℕ
part_start id len =
    cond (eqb id 0x09) 11 (cond (eqb id 0x0a) 12 (cond (eqb id 0x0b) 3 (cond (eqb id 0x0c) 3 (cond (eqb id 0x0d) 12 len))))
