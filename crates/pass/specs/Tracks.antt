-- What the state and the flags of the pass say of the elements so far, and what its steps leave.
-- Assumes nothing.
use Rattle.std.specs.Prelude.{ℕ, ◌+◌, ◌-◌, ◌<◌, ◌≤◌, ◌≡◌, Bool, List, [], ◌∷◌, ◌++◌, length, drop}
use Rattle.std.proofs.Math.Option.{Option, none, some}
use Rattle.format.specs.Slots.{byte, Bytes}
use Rattle.format.specs.Records.{Record, string}
use Rattle.format.specs.Layout.{place_after}
use Rattle.format.specs.Rules.{numbered, first_broken, own_rules}
use Rattle.format.specs.ZonesAndStrings.{placed, role, gathered, zones, strings, zone_named, string_named}
use Rattle.format.specs.FanList.{fan_pins, last_used}
use Rattle.format.specs.Claims.{claims_of, claims}
use Rattle.format.specs.Table.{element_breaks}
use Rattle.format.specs.Verdict.{stated, known}
use Rattle.format.specs.Decode.{read_placement, decode}
use Rattle.format.specs.Reader.{Outcome, took, stop, or_stop, judge, step, Result, halted, through}
use Rattle.format.specs.declared.settings.Settings.{Settings}
use Rattle.format.specs.declared.records.Description.{Description}
use Rattle.flags.specs.Marks.{Marks}
use Rattle.claims.specs.Taken.{ClaimsAre, HeldIs}
use Rattle.found.specs.Judged.{FansAre}
use Rattle.found.specs.Judged.{Finding}
use Rattle.pass.specs.declared.State.{State}
use Rattle.pass.specs.declared.Marks.{Marks as Lent}
use Rattle.pass.specs.Steps.{Step}
use Rattle.pass.specs.Steps.{Moved}
use Rattle.pass.specs.Steps.{Over}

-- the four lent arrays of flags: zone and string numbers that are declared, and those that are named
pub record Flags : Type 0 where
  pub zones_declared : List Bool
  pub strings_declared : List Bool
  pub zone_uses : List Bool
  pub string_uses : List Bool

abbrev pub flags : List Bool → List Bool → List Bool → List Bool → Flags
flags zs ss zu su = record { zones_declared = zs; strings_declared = ss; zone_uses = zu; string_uses = su }

-- what stands behind the four that are lent
abbrev pub flags_of : Lent → Flags
flags_of m = flags m.zones.now m.strings.now m.zone_uses.now m.string_uses.now

-- the same arrays are lent
pub record Same (m l : Lent) : Type 0 where
  pub zones : l.zones.ghost_name ≡ m.zones.ghost_name
  pub strings : l.strings.ghost_name ≡ m.strings.ghost_name
  pub zone_uses : l.zone_uses.ghost_name ≡ m.zone_uses.ghost_name
  pub string_uses : l.string_uses.ghost_name ≡ m.string_uses.ghost_name

-- numbers that a step can go on from, whatever they stand for
pub record Low (s : State) : Type 0 where
  pub most : s.count ≤ 96
  pub few : s.zones ≤ 12

-- numbers that leave room for one element more; a thirteenth zone is refused by its own rule
abbrev pub Room : State → Type 0
Room s = (s.count < 96) × (s.zones ≤ 12)

-- the state and the flags say what the elements before declare, name, claim and use of the fan list, after a description
pub record Tracks (d : Description) (s : State) (f : Flags) (before : List Record) : Type 0 where
  pub count : s.count ≡ length before
  pub zoned : s.zones ≡ length (zones before)
  pub few : s.zones ≤ 12
  pub zone : Marks f.zones_declared (zones before)
  pub string : Marks f.strings_declared (strings before)
  pub zone_use : Marks f.zone_uses (gathered zone_named before)
  pub string_use : Marks f.string_uses (d.string ∷ gathered string_named before)
  pub held : HeldIs s.held (claims d before)
  pub fans : s.last ≡ last_used before

-- Where the element breaks a rule its number stops the step, and state and flags are as they were; where it breaks none it is
-- one of those before.
abbrev pub Leaves : Description → List Record → Record → State → Flags → Step → Flags → Option ℕ → Type 0
Leaves d before x s f r after none = (r.stop ≡ 0) × Tracks d r.state after (before ++ x ∷ [])
Leaves d before x s f r after (some k) = (r.stop ≡ k) × (0 < k) × (r.state ≡ s) × (after ≡ f)

-- the step of one element at a place, under settings σ
pub record StepIs (σ : Settings) (x : Record) (at : ℕ) (s : State) (f : Flags) (r : Step) (after : Flags) : Type 0 where
  pub leaves :
      (d : Description) (before : List Record)
      → at ≡ place_after before
      → Tracks d s f before
      → Leaves d before x s f r after (element_breaks σ before x)

-- the step of a string, from what is known of its bytes alone and its number
pub record TextJudged (own n : ℕ) (s : State) (ss : List Bool) (r : Step) (ss' : List Bool) : Type 0 where
  pub low : Low r.state
  pub steps :
      (σ : Settings) (c : List ℕ)
      → Bytes c
      → own ≡ numbered (first_broken (own_rules σ (string c)))
      → n ≡ byte c 0
      → (at : ℕ) (zs zu su : List Bool)
      → StepIs σ (string c) at s (flags zs ss zu su) r (flags zs ss' zu su)

-- the step of an element that stands in a zone, from what was found of its bytes: of no element, the fault alone
pub record PlacedStep (f : Finding) (c : List ℕ) (at : ℕ) (s : State) (zu su : List Bool) (r : Step) (zu' su' : List Bool) : Type 0 where
  pub low : Low r.state
  pub faulty : (f.fault ≡ 0 → ⊥) → (r.stop ≡ f.fault) × (r.state ≡ s) × (zu' ≡ zu) × (su' ≡ su)
  pub steps :
      (σ : Settings) (x : Record)
      → role x ≡ placed (read_placement (byte c))
      → f.fault ≡ numbered (first_broken (own_rules σ x))
      → (f.fault ≡ 0 → ClaimsAre f.claims (claims_of x))
      → (f.fault ≡ 0 → FansAre f.fans (fan_pins x))
      → (zs ss : List Bool)
      → StepIs σ x at s (flags zs ss zu su) r (flags zs ss zu' su')

-- what a step leaves, by the outcome that it is to have
abbrev pub Went : Description → List Record → State → Flags → Step → Flags → Outcome → Type 0
Went d before s f r after (took x) = (r.stop ≡ 0) × Tracks d r.state after (before ++ x ∷ [])
Went d before s f r after (stop k) = (r.stop ≡ k) × (0 < k) × (r.state ≡ s) × (after ≡ f)

pub record TakeIs (σ : Settings) (id : ℕ) (c : List ℕ) (at : ℕ) (s : State) (f : Flags) (r : Step) (after : Flags) : Type 0 where
  pub low : Low r.state
  pub takes :
      (d : Description) (before : List Record)
      → at ≡ place_after before
      → Tracks d s f before
      → Went d before s f r after (or_stop (known id) 7 (judge σ before (decode σ.chip id c)))

abbrev pub Moves : List ℕ → ℕ → Description → List Record → State → Flags → Moved → Flags → Outcome → Type 0
Moves t at d before s f r after (took x) =
    (r.stop ≡ 0)
    × (r.len ≡ stated (drop at t))
    × (3 ≤ r.len)
    × (at + r.len ≤ length t)
    × Tracks d r.state after (before ++ x ∷ [])
Moves t at d before s f r after (stop k) = (r.stop ≡ k) × (0 < k) × (r.state ≡ s) × (after ≡ f)

pub record MoveIs (σ : Settings) (t : List ℕ) (at base : ℕ) (s : State) (f : Flags) (r : Moved) (after : Flags) : Type 0 where
  pub low : Low r.state
  pub fits : r.stop ≡ 0 → (3 ≤ r.len) × (at + r.len ≤ length t)
  pub moves :
      (d : Description) (before : List Record)
      → base + at ≡ place_after before
      → Tracks d s f before
      → Moves t at d before s f r after (step σ before (drop at t))

-- some elements are taken from bytes that start at a place: from the elements before, the place and the bytes to those after
pub data Took (σ : Settings) : List Record → ℕ → List ℕ → List Record → ℕ → List ℕ → Type 0 where
  none_yet : {rs : List Record} {at : ℕ} {bs : List ℕ} → Took σ rs at bs rs at bs
  one_more :
      {rs qs : List Record} {at p : ℕ} {bs left : List ℕ} (x : Record)
      → step σ qs left ≡ took x
      → 3 ≤ stated left
      → stated left ≤ length left
      → Took σ rs at bs qs p left
      → Took σ rs at bs (qs ++ x ∷ []) (p + stated left) (drop (stated left) left)

-- what the walk over some bytes says: which elements it took, what state and flags track, and how it stopped before the rest
pub record Walked (σ : Settings) (d : Description) (t : List ℕ) (base : ℕ) (before : List Record) (r : Over) (f : Flags) : Type 0 where
  pub gone : List Record
  pub left : List ℕ
  pub way : Took σ before base t gone r.place left
  pub tracks : Tracks d r.state f gone
  pub place : r.place ≡ place_after gone
  pub rest : left ≡ drop (r.place - base) t
  pub ends : r.stop ≡ 0 → left ≡ []
  pub more : (r.stop ≡ 0 → ⊥) → 0 < length left
  pub stops : (r.stop ≡ 0 → ⊥) → step σ gone left ≡ stop r.stop

pub record WalkIs (σ : Settings) (t : List ℕ) (base : ℕ) (s : State) (f : Flags) (r : Over) (after : Flags) : Type 0 where
  pub from : base ≤ r.place
  pub to : r.place ≤ base + length t
  pub low : Low r.state
  pub walks :
      (d : Description) (before : List Record)
      → Bytes t
      → base ≡ place_after before
      → Tracks d s f before
      → Walked σ d t base before r after

-- the same as a result of the pass
abbrev pub OverIs : Description → Over → Flags → Result → Type 0
OverIs d r f (halted k p) = (r.stop ≡ k) × (0 < k) × (r.place ≡ p)
OverIs d r f (through rs) = (r.stop ≡ 0) × Tracks d r.state f rs
