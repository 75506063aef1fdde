-- What stands behind the arrays that are lent to the end.
-- Assumes nothing.
use Rattle.pass.specs.Tracks.{Flags, flags}
use Rattle.ending.specs.declared.Numbers.{Numbers}

abbrev pub flags_in : Numbers → Flags
flags_in n = flags n.zones.now n.strings.now n.zone_uses.now n.string_uses.now
