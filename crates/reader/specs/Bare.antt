-- The tables that are accepted at sight: a description and no element, no name and no pin.
-- Assumes nothing.
use Rattle.std.specs.Prelude.{ℕ, Bool, ◌&&◌, List, length, eqb}
use Rattle.format.specs.Slots.{byte}
use Rattle.format.specs.Rules.{typed, powered}
use Rattle.format.specs.Pins.{unused}
use Rattle.format.specs.Verdict.{stated}
use Rattle.format.specs.Decode.{read_description}
use Rattle.format.specs.declared.records.Description.{Description}
use Rattle.format.specs.declared.pins.Chip.{Chip}

-- a description that keeps 4 and 5, without string index and hardware revision pins
abbrev pub plain : Description → Bool
plain d =
    eqb d.string 0 && typed d && powered d && unused d.revision0 && unused d.revision1 && unused d.revision2

-- 16 bytes that give this length, of revision 01h, with such a description
abbrev pub bare_table : Chip → List ℕ → Bool
bare_table c t = eqb (length t) 16 && (eqb (byte t 0) 1 && eqb (stated t) 16 && plain (read_description c (byte t)))
