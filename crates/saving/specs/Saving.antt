-- Salvage (14/14): what is kept of any bytes and what is changed, in the request's order. Quotations are its own.
-- Assumes nothing.
use Rattle.std.specs.Prelude.{ℕ, zero, suc, ◌+◌, Bool, true, false, ◌&&◌, cond, List, [], ◌∷◌, ◌++◌, length, take, drop, set, eqb, ltb, leb}
use Rattle.std.proofs.Math.Option.{Option, none, some}
use Rattle.format.specs.Slots.{byte}
use Rattle.format.specs.Records.{Record, zone}
use Rattle.format.specs.Pins.{among}
use Rattle.format.specs.ZonesAndStrings.{Role, placed, zoning, naming, role, zones, strings, zone_named, string_named, all_among}
use Rattle.format.specs.Claims.{contested}
use Rattle.format.specs.Table.{description_breaks}
use Rattle.format.specs.Verdict.{stated, framed}
use Rattle.format.specs.Placed.{with_placement}
use Rattle.format.specs.Decode.{read_description}
use Rattle.format.specs.Reader.{Outcome, took, stop, step}
use Rattle.format.specs.declared.pins.Chip.{Chip}
use Rattle.format.specs.declared.settings.Settings.{Settings}
use Rattle.format.specs.declared.records.Placement.{Placement}
use Rattle.format.specs.declared.records.Description.{Description}

-- 'Take the first 4,096 bytes of any file'
abbrev pub taken : List ℕ → List ℕ
taken file = take 4096 file

abbrev pub is_none : Option ℕ → Bool
is_none none = true
is_none (some k) = false

-- '24 at 0 when the description itself answers 1, 2, 4, 5, 10 or a clash among the fault LED's claim and its own'; here, that it does not
abbrev pub sound : Chip → Description → Bool
sound c d = is_none (description_breaks c d) && is_none (contested d [])

abbrev pub salvageable : Chip → List ℕ → Bool
salvageable c b = leb 16 (length b) && (eqb (byte b 0) 1 && sound c (read_description c (byte b)))

-- something that stands at a place of the old table
pub record At (A : Type 0) : Type 0 where
  pub place : ℕ
  pub what : A

abbrev pub at_place : {A : Type 0} → ℕ → A → At A
at_place p a = record { place = p; what = a }

-- The elements as they stand, each as the bytes from its place on: 'Stop where the reader would say 6'. The bytes are no more than the
-- first number and start at a place
abbrev pub standing : ℕ → ℕ → List ℕ → List (At (List ℕ))
standing zero p bs = []
standing (suc n) p bs = cond (framed bs) (at_place p bs ∷ standing n (p + stated bs) (drop (stated bs) bs)) []

abbrev pub elements : List ℕ → List (At (List ℕ))
elements b = standing (length (drop 16 b)) 16 (drop 16 b)

-- 'old offset, number of the rule, left out or cleared'
pub data Change : Type 0 where
  left_out : Change
  cleared : Change

pub record Line : Type 0 where
  pub place : ℕ
  pub number : ℕ
  pub change : Change

abbrev pub line : ℕ → ℕ → Change → Line
line p k c = record { place = p; number = k; change = c }

-- what is kept so far, each record with its old place, and the lines so far, 'in the order made'
pub record Saved : Type 0 where
  pub kept : List (At Record)
  pub lines : List Line

abbrev pub saved : List (At Record) → List Line → Saved
saved ks ls = record { kept = ks; lines = ls }

-- the records of what is kept
abbrev pub records : List (At Record) → List Record
records [] = []
records (k ∷ ks) = k.what ∷ records ks

-- what becomes of something: it stays as a record; it is left out by a rule; its string index is cleared; it is not looked at
pub data Fate : Type 0 where
  stays : Record → Fate
  leaves : ℕ → Fate
  mends : Record → Fate
  unseen : Fate

abbrev pub settled : Saved → ℕ → Fate → Saved
settled s p (stays r) = saved (s.kept ++ at_place p r ∷ []) s.lines
settled s p (leaves k) = saved s.kept (s.lines ++ line p k left_out ∷ [])
settled s p (mends r) = saved (s.kept ++ at_place p r ∷ []) (s.lines ++ line p 14 cleared ∷ [])
settled s p unseen = s

-- 'keep elements in order', each judged 'against those kept so far'
abbrev pub sift : {A : Type 0} → (List Record → A → Fate) → Saved → List (At A) → Saved
sift fate s [] = s
sift fate s (x ∷ xs) = sift fate (settled s x.place (fate (records s.kept) x.what)) xs

-- 'Leave out each that answers 7 to 10, 23, a 13th zone or a repeated number'; the number is the first that the reader would give
abbrev pub answered : Outcome → Fate
answered (took r) = stays r
answered (stop k) = leaves k

-- 'or once 96 are kept'
abbrev pub by_pass : Settings → List Record → List ℕ → Fate
by_pass σ kept bs = cond (ltb (length kept) 96) (answered (step σ kept bs)) unseen

abbrev pub passed : Settings → List ℕ → Saved
passed σ b = sift (by_pass σ) (saved [] []) (elements b)

-- 'Then leave out elements with an undeclared zone'
abbrev pub by_zone : List ℕ → List Record → Record → Fate
by_zone declared kept r = cond (all_among (zone_named (role r)) declared) (stays r) (leaves 13)

abbrev pub zoned : Saved → Saved
zoned s = sift (by_zone (zones (records s.kept))) (saved [] s.lines) s.kept

-- a record with string index 0, a zone descriptor's being byte 1 of its content
abbrev pub unindexed_placement : Placement → Placement
unindexed_placement p = record { string = 0; x = p.x; y = p.y; z = p.z; zone = p.zone }

abbrev pub unindexed_as : Role → Record → Record
unindexed_as (placed p) r = with_placement (unindexed_placement p) r
unindexed_as (zoning bytes) r = zone (set bytes 1 0)
unindexed_as (naming bytes) r = r

abbrev pub unindexed : Record → Record
unindexed r = unindexed_as (role r) r

abbrev pub unindexed_description : Description → Description
unindexed_description d =
    record {
      device = d.device;
      string = 0;
      serial = d.serial;
      spwr = d.spwr;
      power = d.power;
      revision0 = d.revision0;
      revision1 = d.revision1;
      revision2 = d.revision2;
    }

-- 'then set missing string indexes to 0, the description's first'. The index 0 is none, and so never missing
abbrev pub string_indexes : Saved → List ℕ
string_indexes s = 0 ∷ strings (records s.kept)

abbrev pub mended_description : List ℕ → Description → Description
mended_description declared d = cond (among d.string declared) d (unindexed_description d)

abbrev pub first_line : List ℕ → Description → List Line
first_line declared d = cond (among d.string declared) [] (line 0 14 cleared ∷ [])

abbrev pub by_string : List ℕ → List Record → Record → Fate
by_string declared kept r = cond (all_among (string_named (role r)) declared) (stays r) (mends (unindexed r))

abbrev pub named : Description → Saved → Saved
named d s = sift (by_string (string_indexes s)) (saved [] (s.lines ++ first_line (string_indexes s) d)) s.kept

-- 'then leave out, in order, each whose claim clashes with the fault LED, the description, one still kept or its own earlier one'
abbrev pub by_claim : Description → List Record → Record → Fate
by_claim d kept r = cond (is_none (contested d (kept ++ r ∷ []))) (stays r) (leaves 15)

abbrev pub unclashed : Description → Saved → Saved
unclashed d s = sift (by_claim d) (saved [] s.lines) s.kept

-- what is left once undeclared zones are dealt with, and what is left in the end
abbrev pub in_zones : Settings → List ℕ → Saved
in_zones σ b = zoned (passed σ b)

abbrev pub ending : Description → Saved → Saved
ending d s = unclashed d (named d s)
