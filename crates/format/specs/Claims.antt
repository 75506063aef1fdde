-- 15: claims on pins, in their order, and the first that clashes. A table's pins are all of one chip, so a claim names the byte.
-- Assumes nothing.
use Rattle.std.specs.Prelude.{ℕ, ◌+◌, Bool, true, false, ◌&&◌, ◌||◌, not, List, [], ◌∷◌, ◌++◌, length, eqb}
use Rattle.std.proofs.Math.Option.{Option, none}
use Rattle.format.specs.Records.{Record, digital, analogue, fan, led, water, pump, voltage, current, controller, tachometer, zone}
use Rattle.format.specs.Records.{string, external, rgb}
use Rattle.format.specs.Layout.{layout}
use Rattle.format.specs.Rules.{unless_kept}
use Rattle.format.specs.declared.pins.Pin.{Pin}
use Rattle.std.specs.Prelude.{Option as Optional}
use Rattle.format.specs.declared.pins.Pin.{Pin}
use Rattle.std.specs.Prelude.{None, Some}
use Rattle.format.specs.declared.records.Description.{Description}
use Rattle.format.specs.declared.records.PwmFan.{PwmFan}
use Rattle.format.specs.declared.records.Address.{Address}
use Rattle.format.specs.declared.records.Address.TheVariants.{Bus, Select}

-- how a pin is claimed
pub data Manner : Type 0 where
  shared : Manner
  select : Manner
  alone : Manner

-- what is claimed, and how; who claims it is told by the list that it stands in
pub record Claim : Type 0 where
  pub pin : ℕ
  pub manner : Manner

abbrev pub claim : Manner → ℕ → Claim
claim m pin = record { pin = pin; manner = m }

-- 'two shared claims do not clash, nor do two chip selects'
abbrev pub together : Manner → Manner → Bool
together shared shared = true
together shared select = false
together shared alone = false
together select shared = false
together select select = true
together select alone = false
together alone shared = false
together alone select = false
together alone alone = false

-- 'A claim clashes with an earlier one on the same pin', these aside
abbrev pub clashes : Claim → List Claim → Bool
clashes c [] = false
clashes c (a ∷ more) = eqb c.pin a.pin && not (together c.manner a.manner) || clashes c more

-- a claim with the place of whoever makes it
pub record Made : Type 0 where
  pub what : Claim
  pub place : ℕ

abbrev pub made_at : ℕ → List Claim → List Made
made_at at [] = []
made_at at (c ∷ cs) = record { what = c; place = at } ∷ made_at at cs

-- the place of the first claim that clashes with an earlier one
abbrev pub first_clash : List Claim → List Made → Option ℕ
first_clash earlier [] = none
first_clash earlier (m ∷ ms) = unless_kept (not (clashes m.what earlier)) m.place (first_clash (m.what ∷ earlier) ms)

-- a pin of its own, and one that may be unused
abbrev pub own : Pin → Claim
own p = claim alone p.0

abbrev pub own_used : Optional Pin → List Claim
own_used None = []
own_used (Some p) = own p ∷ []

-- 'P0.3 and P0.4 for bus types 0 to 2, P0.0 to P0.2 for SPI', then 'a chip select being one' of its own pins. Claims are
-- made by records that keep 9, and so the address tells the bus type
abbrev pub on_bus : Address → List Claim
on_bus (Bus a) = claim shared 0x03 ∷ claim shared 0x04 ∷ []
on_bus (Select p) = claim shared 0x00 ∷ claim shared 0x01 ∷ claim shared 0x02 ∷ claim select p.0 ∷ []

-- 'P0.7 for 02h and 08h'; 1/14: 'water level and voltage are analogue sensors and claim P0.7 as a shared pin like 02h'
abbrev pub reference : Claim
reference = claim shared 0x07

-- a fan's pins, and a pump's
abbrev pub of_motor : PwmFan → List Claim
of_motor f = own f.pwm ∷ own_used f.tachometer

-- 'An element first claims its shared pins .. Then come its own pins in field order'
abbrev pub claims_of : Record → List Claim
claims_of (digital d) = on_bus d.address
claims_of (analogue a) = reference ∷ own a.pin ∷ []
claims_of (fan f) = of_motor f
claims_of (led l) = own_used l.one.pin ++ own_used l.two.pin ++ own_used l.three.pin
claims_of (water w) = reference ∷ own w.pin ∷ []
claims_of (pump f) = of_motor f
claims_of (voltage v) = reference ∷ own v.pin ∷ []
claims_of (current c) = reference ∷ own c.pin ∷ []
claims_of (controller d bs) = on_bus d.address
claims_of (tachometer d a b) = on_bus d.address
claims_of (zone bytes) = []
claims_of (string bytes) = []
claims_of (external x r g b) = on_bus x.device.address
claims_of (rgb r) = own r.red ∷ own r.green ∷ own r.blue ∷ []

-- those of elements that start at a place, each made at its element
abbrev pub claims_from : ℕ → List Record → List Made
claims_from at [] = []
claims_from at (r ∷ rs) = made_at at (claims_of r) ++ claims_from (at + length (layout r)) rs

-- 'the fault LED claims P1.0; then hardware revision 0, 1, 2; then each element in turn'
abbrev pub first_claims : Description → List Claim
first_claims d = claim alone 0x10 ∷ own_used d.revision0 ++ own_used d.revision1 ++ own_used d.revision2

abbrev pub claims : Description → List Record → List Made
claims d rs = made_at 0 (first_claims d) ++ claims_from 16 rs

abbrev pub contested : Description → List Record → Option ℕ
contested d rs = first_clash [] (claims d rs)
