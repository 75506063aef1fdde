-- The rules of an element against those before it, by the state and the flags that track them. The one place above `format` that
-- goes through their list, for the functions that check them.
-- Assumes nothing.
use Prim.Native.Nat.{ℕ, ◌+◌, ◌<◌}
use native.Mathlib.Omega.{arith}
use mathlib.Core.Path.{◌≡◌, refl}
use mathlib.Core.Bool.{Bool, true, false, not, and-true}
use mathlib.Core.List.{List}
use lib.ListN.{length, get_or}
use lib.Dec.{ltb, leb}
use borrow.Author.Tests.{ltb-true, ltb-false, le-leb, lt-leb}
use Rattle.format.specs.Slots.{byte}
use Rattle.format.specs.Records.{Record, zone, string}
use Rattle.format.specs.Rules.{numbered, first_broken}
use Rattle.format.specs.Pins.{among}
use Rattle.format.specs.FanList.{in_order}
use Rattle.format.specs.ZonesAndStrings.{placed, role, zones, strings, rules_against}
use Rattle.format.specs.declared.records.Description.{Description}
use Rattle.format.specs.declared.records.Placement.{Placement}
use Rattle.rules.specs.Broken.{or_else}
use Rattle.rules.proofs.Numbering.{numbering}
use Rattle.pass.specs.Tracks.{Flags, Tracks}
use Rattle.pass.specs.declared.State.{State}

room : (n : ℕ) → leb (1 + n) 12 ≡ ltb n 12
room n = go (ltb n 12) refl
  where
    go : (t : Bool) → ltb n 12 ≡ t → leb (1 + n) 12 ≡ t
    go true e = le-leb (1 + n) 12 (omega (arith, ltb-true n 12 e))
    go false e = lt-leb (1 + n) 12 (omega (arith, ltb-false n 12 e))

module _ (d : Description) (s : State) (f : Flags) (before : List Record) (k : Tracks d s f before) where
  enough : leb (0 + length (zones before)) 12 ≡ true
  enough = le-leb (0 + length (zones before)) 12 (omega (arith, k.zoned, k.few))

  pub zone_against_lem :
      (c : List ℕ)
      → byte c 0 < 256
      → or_else (ltb s.zones 12) 11 (or_else (not (get_or f.zones_declared (byte c 0) false)) 12 0)
      ≡ numbered (first_broken (rules_against before (zone c)))
  unfolding rules_against
  zone_against_lem c h =
      rw (k.zoned, ← room (length (zones before)), k.zone.flag (byte c 0) h)
      (simp (numbering, and-true (not (among (byte c 0) (zones before)))))

  pub text_against :
      (c : List ℕ)
      → byte c 0 < 256
      → or_else (not (get_or f.strings_declared (byte c 0) false)) 12 0 ≡ numbered (first_broken (rules_against before (string c)))
  unfolding rules_against
  text_against c h =
      rw (enough, k.string.flag (byte c 0) h)
      (simp (numbering, and-true (not (among (byte c 0) (strings before)))))

  pub placed_against :
      (x : Record) {p : Placement} (t : Bool)
      → role x ≡ placed p
      → in_order before x ≡ t
      → or_else t 10 0 ≡ numbered (first_broken (rules_against before x))
  unfolding rules_against
  placed_against x true e o = rw (o, e, enough) refl
  placed_against x false e o = rw o refl
