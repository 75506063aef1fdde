-- Rows of bytes and answers: the reader computes them all, and its answer is the only one. The starred rows are one statement,
-- of whatever settings.
-- Assumes nothing.
use Prim.Native.Nat.{ℕ, zero, suc}
use native.Mathlib.Omega.{arith}
use mathlib.Core.Path.{◌≡◌, refl}
use mathlib.Core.Bool.{Bool, true, false, ◌&&◌}
use mathlib.Core.List.{List, [], ◌∷◌}
use lib.Dec.{ltb, eqb}
use borrow.Author.Tests.{ltb-true, eqb-true}
use Rattle.format.specs.Slots.{Bytes}
use Rattle.format.specs.Rules.{description_rules, own_rules}
use Rattle.format.specs.ZonesAndStrings.{rules_against}
use Rattle.format.specs.Verdict.{Verdict}
use Rattle.format.specs.Decode.{decode}
use Rattle.format.specs.Reader.{verdict_of, pass, step}
use Rattle.format.specs.Known.{Row, starred, twofold, zoned, of_pins, apart, of_the_fan_list, retired, texts}
use Rattle.format.specs.WaterKit.{water_kit, many_pairs, light_retired}
use Rattle.format.specs.EachRule.{each_rule, full_table}
use Rattle.format.specs.Answers.{Answer}
use Rattle.format.specs.Answers.{Gives as Accepted, Refused}
use Rattle.format.proofs.Kept.{and-true}
use Rattle.format.proofs.Theorem.{meets}
use Rattle.format.specs.declared.pins.Chip.{Chip}
use Rattle.format.specs.declared.pins.Chip.TheVariants.{C8051F320, C8051F321}
use Rattle.format.specs.declared.settings.Settings.{Settings}
use Rattle.format.specs.declared.settings.Rules.{Rules}
use Rattle.format.specs.declared.settings.Rules.TheVariants.{Ordinary, Archive}

abbrev pub same : Answer → Answer → Bool
same (Accepted n) (Accepted m) = eqb n m
same (Accepted n) (Refused k p) = false
same (Refused k p) (Accepted m) = false
same (Refused k p) (Refused j q) = eqb k j && eqb p q

same_is : (a b : Answer) → same a b ≡ true → a ≡ b
same_is (Accepted n) (Accepted m) h = let p = eqb-true n m h in cc
same_is (Accepted n) (Refused k p) h = cc
same_is (Refused k p) (Accepted m) h = cc
same_is (Refused k p) (Refused j q) h =
    let t = and-true (eqb k j) (eqb p q) h in
    let x = eqb-true k j t.0 in
    let y = eqb-true p q t.1 in
    cc

abbrev pub small : List ℕ → Bool
small [] = true
small (b ∷ bs) = ltb b 256 && small bs

pub small_bytes : (bs : List ℕ) → small bs ≡ true → Bytes bs
small_bytes [] h i = omega arith
small_bytes (b ∷ bs) h zero = ltb-true b 256 (and-true (ltb b 256) (small bs) h).0
small_bytes (b ∷ bs) h (suc i) = small_bytes bs (and-true (ltb b 256) (small bs) h).1 i

-- the test that is computed
abbrev pub right : Settings → List Row → Bool
right s [] = true
right s (r ∷ rs) = small r.bytes && same (verdict_of s r.bytes) r.answer && right s rs

-- what it shows: each row's bytes have the row's answer
abbrev pub Each : Settings → List Row → Type 0
Each s [] = Unit {0}
Each s (r ∷ rs) = Verdict s r.bytes r.answer × Each s rs

pub right_each : (s : Settings) (rs : List Row) → right s rs ≡ true → Each s rs
right_each s [] h = tt
right_each s (r ∷ rs) h =
    let t = and-true (small r.bytes && same (verdict_of s r.bytes) r.answer) (right s rs) h in
    let u = and-true (small r.bytes) (same (verdict_of s r.bytes) r.answer) t.0 in (
      rw (same_is (verdict_of s r.bytes) r.answer u.1) at (meets s r.bytes (small_bytes r.bytes u.0)),
      right_each s rs t.1,
    )

-- the settings of a chip and rules
abbrev on : Chip → Rules → Settings
on c k = record { chip = c; rules = k }

-- all rows of these settings, list by list
abbrev every : Chip → Rules → List (List Row)
every c k =
    starred
    ∷ twofold
    ∷ zoned
    ∷ of_pins
    ∷ apart c
    ∷ of_the_fan_list
    ∷ retired k
    ∷ water_kit
    ∷ many_pairs
    ∷ light_retired k
    ∷ texts
    ∷ each_rule
    ∷ []

abbrev all_right : Settings → List (List Row) → Bool
all_right s [] = true
all_right s (l ∷ ls) = right s l && all_right s ls

abbrev Lists : Settings → List (List Row) → Type 0
Lists s [] = Unit {0}
Lists s (l ∷ ls) = Each s l × Lists s ls

all_each : (s : Settings) (ls : List (List Row)) → all_right s ls ≡ true → Lists s ls
all_each s [] h = tt
all_each s (l ∷ ls) h =
    let t = and-true (right s l) (all_right s ls) h in
    (right_each s l t.0, all_each s ls t.1)

-- each of the four is computed in a definition of its own, once
ordinary_320 : all_right (on C8051F320 Ordinary) (every C8051F320 Ordinary) ≡ true
unfolding verdict_of pass step decode description_rules own_rules rules_against
ordinary_320 = refl

archive_320 : all_right (on C8051F320 Archive) (every C8051F320 Archive) ≡ true
unfolding verdict_of pass step decode description_rules own_rules rules_against
archive_320 = refl

ordinary_321 : all_right (on C8051F321 Ordinary) (every C8051F321 Ordinary) ≡ true
unfolding verdict_of pass step decode description_rules own_rules rules_against
ordinary_321 = refl

archive_321 : all_right (on C8051F321 Archive) (every C8051F321 Archive) ≡ true
unfolding verdict_of pass step decode description_rules own_rules rules_against
archive_321 = refl

computed : (c : Chip) (k : Rules) → all_right (on c k) (every c k) ≡ true
computed C8051F320 Ordinary = ordinary_320
computed C8051F320 Archive = archive_320
computed C8051F321 Ordinary = ordinary_321
computed C8051F321 Archive = archive_321

module _ (s : Settings) where
  lists : Lists s (every s.chip s.rules)
  lists = all_each s (every s.chip s.rules) (computed s.chip s.rules)

  pub known_tables : Each s starred
  known_tables = lists.0

  -- the order of the rules
  pub order_of_rules : Each s twofold
  order_of_rules = lists.1.0

  -- a zone descriptor after the element that names it
  pub zone_comes_later : Each s zoned
  zone_comes_later = lists.1.1.0

  -- one chip select for two, and a lamp on the fan list
  pub pins_of_elements : Each s of_pins
  pins_of_elements = lists.1.1.1.0

  -- the pins that the 321 lacks
  pub chips_apart : Each s (apart s.chip)
  chips_apart = lists.1.1.1.1.0

  -- the fan list through the whole table
  pub fan_list_order : Each s of_the_fan_list
  fan_list_order = lists.1.1.1.1.1.0

  -- a bus type that is retired, and 23 among the other rules
  pub readers_apart : Each s (retired s.rules)
  readers_apart = lists.1.1.1.1.1.1.0

  -- 05h, 06h, 07h and 0Dh
  pub water_kits : Each s water_kit
  water_kits = lists.1.1.1.1.1.1.1.0

  -- .. with more pairs than one byte counts
  pub many_pairs_lem : Each s many_pairs
  many_pairs_lem = lists.1.1.1.1.1.1.1.1.0

  -- 0Dh in block mode
  pub light_retired_lem : Each s (light_retired s.rules)
  light_retired_lem = lists.1.1.1.1.1.1.1.1.1.0

  -- well-formed text and malformed
  pub names_can_be_read : Each s texts
  names_can_be_read = lists.1.1.1.1.1.1.1.1.1.1.0

  -- what no other row meets
  pub each_rule_lem : Each s each_rule
  each_rule_lem = lists.1.1.1.1.1.1.1.1.1.1.1.0

-- 96 elements and 97, on the 320 by the ordinary rules
computed_full : right (on C8051F320 Ordinary) full_table ≡ true
unfolding verdict_of pass step decode description_rules own_rules rules_against
computed_full = refl

pub full_table_lem : Each (record { chip = C8051F320; rules = Ordinary }) full_table
full_table_lem = right_each (record { chip = C8051F320; rules = Ordinary }) full_table computed_full
