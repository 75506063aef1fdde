-- `name_all` meets its contract: some elements are noted, and the others are ahead.
-- Assumes nothing.
use mathlib.Core.Path.{◌≡◌}
use Prim.Native.Nat.{◌+◌, ◌-◌, ◌≤◌}
use mathlib.Core.List.{List}
use lib.ListN.{length, drop}
use Rattle.format.specs.Slots.{Bytes}
use Rattle.format.specs.Records.{Record}
use Rattle.format.specs.Layout.{place_after}
use Rattle.format.specs.ZonesAndStrings.{zone_named, string_named}
use Rattle.format.specs.declared.settings.Settings.{Settings}
use Rattle.pass.specs.Tracks.{Took}
use Rattle.firsts.specs.Firsts.{Firsts}
use Rattle.naming.specs.Naming.{SamePlaces}
use Rattle.naming.proofs.Named.{Sofar}
use Rattle.naming.proofs.name_all.Given as goal

abbrev pub invariant-loop-i : goal.invariant-loop-i
invariant-loop-i l =
    (l.i ≤ 70000)
    × ((σ : Settings) (before gone : List Record)
    → Bytes l.p
    → l.to ≤ length l.p
    → l.base ≡ place_after before
    → Took σ before l.base l.p gone (l.base + l.to) (drop l.to l.p)
    → Firsts zone_named l.initial.places.zones.now before
    → Firsts string_named l.initial.places.strings.now before
    → Sofar σ l.p l.to l.base l.places.zones.now l.places.strings.now gone l.i)
    × SamePlaces l.initial.places l.places

abbrev pub decreases-loop-i : goal.decreases-loop-i
decreases-loop-i l = l.to - l.i
