-- What is to be found of an element by itself, under the settings that the caller names.
-- Assumes nothing.
use Rattle.std.specs.Prelude.{ℕ, ◌≤◌, ◌≡◌, true, false, List, [], ◌∷◌, length, Option as Optional, Some, None, Result, Ok, Err}
use Rattle.std.proofs.Math.Option.{Option, some}
use Rattle.format.specs.Answers.{rule_number, fault_of}
use Rattle.format.specs.Records.{Record}
use Rattle.format.specs.Rules.{numbered, pinned, selected}
use Rattle.format.specs.FanList.{fan_pins, last_pin}
use Rattle.format.specs.Claims.{claims_of, on_bus}
use Rattle.format.specs.Decode.{decode}
use Rattle.format.specs.Writing.{assembled_breaks}
use Rattle.format.specs.declared.answers.Rule.{Rule}
use Rattle.format.specs.declared.pins.Chip.{Chip}
use Rattle.format.specs.declared.settings.Settings.{Settings}
use Rattle.format.specs.declared.records.Address.{Address}
use Rattle.format.specs.declared.records.BusDevice.{BusDevice}
use Rattle.rules.specs.Broken.{DeviceBreaks}
use Rattle.claims.specs.Taken.{ClaimsAre}
use Rattle.claims.specs.declared.Claims.{Claims}
use Rattle.blocks.specs.declared.Part.{Part}
use Rattle.found.specs.declared.Found.{Found}
use Rattle.found.specs.declared.Fans.{Fans}

-- the first and the last of some fan-list pins
abbrev pub FansAre : Optional Fans → List ℕ → Type 0
FansAre f [] = f ≡ None
FansAre f (p ∷ ps) = f ≡ Some (record { first = p; last = last_pin p ps })

-- what is found of an element, as numbers: the first rule that it breaks alone, or 0; and beside 0 what it claims and counts
pub record Finding : Type 0 where
  pub fault : ℕ
  pub claims : Claims
  pub fans : Optional Fans

abbrev pub finding_by : {E : Type 0} → (E → ℕ) → Result Found E → Finding
finding_by number (Ok f) = record { fault = 0; claims = f.claims; fans = f.fans }
finding_by number (Err e) = record { fault = number e; claims = record { alone = 0; joint = 0; twice = 0 }; fans = None }

abbrev pub finding : Result Found Rule → Finding
finding = finding_by rule_number

-- what is found where the rules of the element alone are judged, and what it claims and counts is known
pub record Together (kept : Result (Unit {0}) Rule) (claims : Claims) (fans : Optional Fans) (r : Finding) : Type 0 where
  pub fault : r.fault ≡ fault_of kept
  pub claimed : r.fault ≡ 0 → r.claims ≡ claims
  pub counted : r.fault ≡ 0 → r.fans ≡ fans

-- the first of 8, 9, 23 and 10 that it breaks, or 0
abbrev pub own_fault : Settings → Option Record → ℕ
own_fault s o = numbered (assembled_breaks s o)

-- of bytes after a header with this identifier: the fault, or room for the placement, the claims and the fan-list pins
pub record Judged (s : Settings) (id : ℕ) (c : List ℕ) (r : Finding) : Type 0 where
  pub right : r.fault ≡ own_fault s (decode s.chip id c)
  pub long : r.fault ≡ 0 → 5 ≤ length c
  pub claimed :
      r.fault ≡ 0 → (x : Record) → decode s.chip id c ≡ some x → ClaimsAre r.claims (claims_of x)
  pub counted : r.fault ≡ 0 → (x : Record) → decode s.chip id c ≡ some x → FansAre r.fans (fan_pins x)

-- the claims of a record, and of a device on a bus, that keeps 10 on some chip
abbrev pub ClaimsOf : Record → Claims → Type 0
ClaimsOf x cs = (c : Chip) → pinned c x ≡ true → ClaimsAre cs (claims_of x)

abbrev pub BusClaims : Address → Claims → Type 0
BusClaims a cs = (c : Chip) → selected c a ≡ true → ClaimsAre cs (on_bus a)

-- of the fixed fields of 09h, 0Ah or 0Dh and of what its part says, without the part
pub record DeviceFound (s : Settings) (d : BusDevice) (part : Part) (r : Finding) : Type 0 where
  pub misshapen : part.whole ≡ false → r.fault ≡ 8
  pub breaks : part.whole ≡ true → DeviceBreaks s d part.full r.fault
  pub claimed : r.fault ≡ 0 → BusClaims d.address r.claims
  pub counted : r.fault ≡ 0 → r.fans ≡ None
