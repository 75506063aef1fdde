-- A record whose string index is set to 0: no rule of the record alone, no claim, no fan-list pin, no number declared, no zone named and
-- no length differs. By cases, each computed.
-- Assumes nothing.
use Prim.Native.Nat.{ℕ, zero, suc}
use mathlib.Core.Path.{◌≡◌, refl, sym, ◌∙◌, ap}
use mathlib.Core.Bool.{true, false≢true}
use mathlib.Core.List.{List, [], ◌∷◌, map}
use lib.ListN.{length, set, length-set}
use Rattle.format.specs.Slots.{Slot, whole, roomy, all_roomy}
use Rattle.format.specs.Records.{Record, digital, analogue, fan, led, water, pump, voltage, current, controller, tachometer, zone, string}
use Rattle.format.specs.Records.{external, rgb, zone_number, zone_string}
use Rattle.format.specs.Layout.{layout}
use Rattle.format.specs.Rules.{own_rules}
use Rattle.format.specs.FanList.{fan_pins}
use Rattle.format.specs.Claims.{claims_of}
use Rattle.format.specs.ZonesAndStrings.{Role, placed, zoning, naming, role, zone_declared, string_declared, zone_named, string_named}
use Rattle.format.specs.declared.settings.Settings.{Settings}
use Rattle.format.proofs.Kept.{and-true}
use Rattle.removal.proofs.Among.{Within}
use Rattle.saving.specs.Saving.{unindexed_placement, unindexed}

-- a record that differs from another at most in its string index
pub record Alike (s r : Record) : Type 0 where
  pub own : (σ : Settings) → own_rules σ s ≡ own_rules σ r
  pub fans : fan_pins s ≡ fan_pins r
  pub claims : claims_of s ≡ claims_of r
  pub zone_d : zone_declared (role s) ≡ zone_declared (role r)
  pub string_d : string_declared (role s) ≡ string_declared (role r)
  pub zone_n : zone_named (role s) ≡ zone_named (role r)
  pub long : length (layout s) ≡ length (layout r)
  pub room : all_roomy (layout r) ≡ true → all_roomy (layout s) ≡ true

pub alike_same : (r : Record) → Alike r r
alike_same r =
    record {
      own = λ σ. refl;
      fans = refl;
      claims = refl;
      zone_d = refl;
      string_d = refl;
      zone_n = refl;
      long = refl;
      room = λ h. h;
    }

-- one byte set to 0: in the bytes of a zone descriptor, and in slots
set_number : (bytes : List ℕ) → zone_number (set bytes 1 0) ≡ zone_number bytes
set_number [] = refl
set_number (b ∷ bytes) = refl

set_string : (bytes : List ℕ) → zone_string (set bytes 1 0) ≡ 0
set_string [] = refl
set_string (b ∷ []) = refl
set_string (b ∷ c ∷ bytes) = refl

map_set : (bytes : List ℕ) (k : ℕ) → map whole (set bytes k 0) ≡ set (map whole bytes) k (whole 0)
map_set [] k = refl
map_set (b ∷ bytes) zero = refl
map_set (b ∷ bytes) (suc k) = ap (λ (l : List Slot). whole b ∷ l) (map_set bytes k)

-- past the end nothing is set
set_past : (ss : List Slot) → set ss (length ss) (whole 0) ≡ ss
set_past [] = refl
set_past (s ∷ ss) = ap (λ (l : List Slot). s ∷ l) (set_past ss)

pub set_roomy : (ss : List Slot) (k : ℕ) → all_roomy ss ≡ true → all_roomy (set ss k (whole 0)) ≡ true
set_roomy [] k h = refl
set_roomy (s ∷ ss) zero h = (and-true (roomy s) (all_roomy ss) h).1
set_roomy (s ∷ ss) (suc k) h = let a = and-true (roomy s) (all_roomy ss) h in simp (a.0, set_roomy ss k a.1)

-- what the record is to the others
abbrev unindexed_role : Role → Role
unindexed_role (placed p) = placed (unindexed_placement p)
unindexed_role (zoning bytes) = zoning (set bytes 1 0)
unindexed_role (naming bytes) = naming bytes

same_zone : (p : Role) → zone_declared (unindexed_role p) ≡ zone_declared p
same_zone (placed p) = refl
same_zone (zoning bytes) = ap (λ (n : ℕ). n ∷ []) (set_number bytes)
same_zone (naming bytes) = refl

same_string : (p : Role) → string_declared (unindexed_role p) ≡ string_declared p
same_string (placed p) = refl
same_string (zoning bytes) = refl
same_string (naming bytes) = refl

same_home : (p : Role) → zone_named (unindexed_role p) ≡ zone_named p
same_home (placed p) = refl
same_home (zoning bytes) = refl
same_home (naming bytes) = refl

-- and it names no string
no_string : (p : Role) → Within (string_named (unindexed_role p)) (0 ∷ [])
no_string (placed p) x i = i
no_string (zoning bytes) x i = rw (set_string bytes) at i
no_string (naming bytes) x i = absurd (false≢true i)

-- each kind: the byte at a place of the layout is 0; of a string, which has no index, at none
record Unindexed (s r : Record) : Type 0 where
  pub place : ℕ
  pub bytes : layout s ≡ set (layout r) place (whole 0)
  pub among : role s ≡ unindexed_role (role r)
  pub pins : fan_pins s ≡ fan_pins r
  pub claimed : claims_of s ≡ claims_of r
  pub rules : (σ : Settings) → own_rules σ s ≡ own_rules σ r

at :
    {s r : Record} (k : ℕ)
    → layout s ≡ set (layout r) k (whole 0)
    → role s ≡ unindexed_role (role r)
    → fan_pins s ≡ fan_pins r
    → claims_of s ≡ claims_of r
    → ((σ : Settings) → own_rules σ s ≡ own_rules σ r)
    → Unindexed s r
at k b a p c o = record { place = k; bytes = b; among = a; pins = p; claimed = c; rules = o }

each : (r : Record) → Unindexed (unindexed r) r
unfolding own_rules
each (digital d) = at 3 refl refl refl refl (λ σ. refl)
each (analogue a) = at 3 refl refl refl refl (λ σ. refl)
each (fan f) = at 3 refl refl refl refl (λ σ. refl)
each (led l) = at 3 refl refl refl refl (λ σ. refl)
each (water w) = at 3 refl refl refl refl (λ σ. refl)
each (pump f) = at 3 refl refl refl refl (λ σ. refl)
each (voltage v) = at 3 refl refl refl refl (λ σ. refl)
each (current c) = at 3 refl refl refl refl (λ σ. refl)
each (controller d bs) = at 3 refl refl refl refl (λ σ. refl)
each (tachometer d a b) = at 3 refl refl refl refl (λ σ. refl)
each (zone bytes) =
    at 4 (rw (map_set bytes 1, length-set (map whole bytes) 1 (whole 0)) refl) refl refl refl (λ σ. rw (length-set bytes 1 0) refl)
each (string bytes) = at (length (layout (string bytes))) (sym (set_past (layout (string bytes)))) refl refl refl (λ σ. refl)
each (external x r g b) = at 3 refl refl refl refl (λ σ. refl)
each (rgb r) = at 3 refl refl refl refl (λ σ. refl)

pub unindexed_alike : (r : Record) → Alike (unindexed r) r
unindexed_alike r =
    let u = each r in
    record {
      own = u.rules;
      fans = u.pins;
      claims = u.claimed;
      zone_d = ap zone_declared u.among ∙ same_zone (role r);
      string_d = ap string_declared u.among ∙ same_string (role r);
      zone_n = ap zone_named u.among ∙ same_home (role r);
      long = ap length u.bytes ∙ length-set (layout r) u.place (whole 0);
      room = λ h. ap all_roomy u.bytes ∙ set_roomy (layout r) u.place h;
    }

pub unindexed_named : (r : Record) → Within (string_named (role (unindexed r))) (0 ∷ [])
unindexed_named r x i = no_string (role r) x (rw (each r).among at i)
