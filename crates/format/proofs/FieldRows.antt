-- The rows of field values, together: each record's layout fits its row's bytes, no other record stands there, and the fields of a
-- part and the unknown position have the values stated.
-- Assumes nothing.
use Prim.Native.Nat.{ℕ, ◌/◌, ◌%◌}
use native.Mathlib.Omega.{arith}
use mathlib.Core.Path.{◌≡◌, refl, subst}
use mathlib.Core.Bool.{Bool, true, false}
use mathlib.Core.List.{List, [], ◌∷◌}
use lib.ListN.{length, drop_of_length-le}
use Rattle.format.specs.Slots.{Slot, Starts, Fits, byte, bit}
use Rattle.format.specs.Records.{Record, zone_number, zone_string, string_number, text_of, unknown_position}
use Rattle.format.specs.Layout.{layout, opening}
use Rattle.format.specs.Rules.{of_its_kind, description_kind}
use Rattle.format.specs.Verdict.{Stands}
use Rattle.format.specs.FieldRows.{FieldRow, field_rows, opening_row, description_row, zone_part, string_part, string_text, position}
use Rattle.format.specs.declared.records.Description.{Description}
use Rattle.format.proofs.Slots.{Over, over_starts, starts_over}
use Rattle.format.proofs.EachKind.{description_only}
use Rattle.format.proofs.Decoding.{stands_decoded}
use Rattle.format.specs.declared.pins.Chip.{Chip}
use Rattle.format.specs.declared.pins.Chip.TheVariants.{C8051F320, C8051F321}

-- the layout of the row's record is its bytes, reserved places aside, and no other record stands there
pub record Right (c : Chip) (row : FieldRow) : Type 0 where
  pub fits : Fits row.bytes (layout row.holds)
  pub only : (r : Record) → Stands c row.bytes r → r ≡ row.holds

abbrev pub EachRight : Chip → List FieldRow → Type 0
EachRight c [] = Unit {0}
EachRight c (row ∷ rows) = Right c row × EachRight c rows

-- the numbers that are computed: each slot against its byte, the length, and that the address is of its kind
abbrev Agrees : Chip → FieldRow → Type 0
Agrees c row =
    Over (byte row.bytes) (layout row.holds)
    × (length (layout row.holds) ≡ length row.bytes)
    × (bit (of_its_kind c row.holds) ≡ 1)

abbrev EachAgrees : Chip → List FieldRow → Type 0
EachAgrees c [] = Unit {0}
EachAgrees c (row ∷ rows) = Agrees c row × EachAgrees c rows

is_true : (t : Bool) → bit t ≡ 1 → t ≡ true
is_true true h = refl
is_true false h = absurd (omega arith)

over_fits : (bs : List ℕ) (ss : List Slot) → length ss ≡ length bs → Over (byte bs) ss → Fits bs ss
over_fits bs ss n o =
    subst (λ (l : List ℕ). Starts bs ss l) (drop_of_length-le bs {i = length ss} (omega arith)) (over_starts bs ss (omega arith) o)

right : (c : Chip) (row : FieldRow) → Agrees c row → Right c row
right c row a =
    let bs = row.bytes in
    let f = over_fits bs (layout row.holds) a.1 a.0 in
    record {
      fits = f;
      only =
          λ r s.
          let one = stands_decoded c bs r s in
          let two = stands_decoded c bs row.holds (record { rest = []; starts = f; kind = is_true _ a.2 }) in
          cc;
    }

each_right : (c : Chip) (rows : List FieldRow) → EachAgrees c rows → EachRight c rows
each_right c [] h = tt
each_right c (row ∷ rows) h = (right c row h.0, each_right c rows h.1)

-- one element of each of the fourteen kinds, on each chip
agree : (c : Chip) → EachAgrees c (field_rows c)
agree C8051F320 = (
  omega arith,
  (
    omega arith,
    (
      omega arith,
      (
        omega arith,
        (
          omega arith,
          (
            omega arith,
            (
              omega arith,
              (
                omega arith,
                (omega arith, (omega arith, (omega arith, (omega arith, (omega arith, (omega arith, (omega arith, tt))))))),
              ),
            ),
          ),
        ),
      ),
    ),
  ),
)
agree C8051F321 = (
  omega arith,
  (
    omega arith,
    (
      omega arith,
      (
        omega arith,
        (
          omega arith,
          (
            omega arith,
            (
              omega arith,
              (
                omega arith,
                (omega arith, (omega arith, (omega arith, (omega arith, (omega arith, (omega arith, (omega arith, tt))))))),
              ),
            ),
          ),
        ),
      ),
    ),
  ),
)

pub field_rows_lem : (c : Chip) → EachRight c (field_rows c)
field_rows_lem c = each_right c (field_rows c) (agree c)

-- the description, with SPWR and without
pub record Opens (c : Chip) (b : List ℕ) (d : Description) : Type 0 where
  pub fits : Fits b (opening d 16)
  pub only : (e : Description) (rest : List ℕ) → Starts b (opening e 16) rest → description_kind c e ≡ true → e ≡ d

opens :
    (c : Chip) (b : List ℕ) (d : Description)
    → 16 ≡ length b
    → Over (byte b) (opening d 16)
    → bit (description_kind c d) ≡ 1
    → Opens c b d
opens c b d n o k =
    record {
      fits = over_fits b (opening d 16) n o;
      only =
          λ e rest s kind.
          let one = description_only c (byte b) e 16 (starts_over b (opening e 16) rest s) kind in
          let two = description_only c (byte b) d 16 o (is_true _ k) in
          cc;
    }

open_row :
    (c : Chip) (power : ℕ) (spwr : Bool)
    → power / 128 ≡ bit spwr
    → power % 128 ≡ 0x36
    → Opens c (opening_row power) (description_row c spwr)
open_row C8051F320 power spwr h k = opens C8051F320 (opening_row power) (description_row C8051F320 spwr) refl (omega arith) refl
open_row C8051F321 power spwr h k = opens C8051F321 (opening_row power) (description_row C8051F321 spwr) refl (omega arith) refl

pub opening_rows : (c : Chip) → Opens c (opening_row 0xb6) (description_row c true) × Opens c (opening_row 0x36) (description_row c false)
opening_rows c = (open_row c 0xb6 true refl refl, open_row c 0x36 false refl refl)

-- what stands in the part of a zone descriptor and of a string
pub part_rows :
    (zone_number zone_part ≡ 0x31) × (zone_string zone_part ≡ 0x32) × (string_number string_part ≡ 0x31) × (text_of string_part ≡ string_text)
part_rows = (refl, refl, refl, refl)

-- FFh on three axes is no position; on one or two of them it is
pub position_rows :
    (unknown_position (position true true true) ≡ true)
    × (unknown_position (position false true true) ≡ false)
    × (unknown_position (position true false true) ≡ false)
    × (unknown_position (position true true false) ≡ false)
    × (unknown_position (position true false false) ≡ false)
    × (unknown_position (position false true false) ≡ false)
    × (unknown_position (position false false true) ≡ false)
position_rows = (refl, refl, refl, refl, refl, refl, refl)
