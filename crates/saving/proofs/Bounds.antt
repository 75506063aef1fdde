-- How much salvage can make: a table no longer than what was taken, and at most 1,457 lines.
-- Assumes nothing.
use Prim.Native.Nat.{ℕ, ◌+◌, ◌*◌, ◌≤◌}
use native.Mathlib.Omega.{arith}
use mathlib.Core.Path.{◌≡◌, refl, ap}
use mathlib.Core.Bool.{Bool, true, false, cond}
use mathlib.Core.List.{List, [], ◌∷◌, ◌++◌}
use lib.ListN.{length, drop, length-append, length-map, length-take, length-drop}
use lib.Dec.{ltb}
use Rattle.format.specs.Slots.{Bytes, byte}
use Rattle.format.specs.Records.{Record}
use Rattle.format.specs.Layout.{layouts, table}
use Rattle.format.specs.Pins.{among}
use Rattle.format.specs.ZonesAndStrings.{zones}
use Rattle.format.specs.Decode.{read_description}
use Rattle.format.specs.Reader.{Outcome, took, stop, step}
use Rattle.format.specs.Writing.{writing}
use Rattle.format.specs.declared.pins.Chip.{Chip}
use Rattle.format.specs.declared.settings.Settings.{Settings}
use Rattle.format.specs.declared.records.Description.{Description}
use Rattle.format.proofs.Lengths.{at_most_96}
use Rattle.format.proofs.Slots.{bytes_take}
use Rattle.format.proofs.Written.{length_written}
use Rattle.removal.proofs.Parts.{part_length, part_slots}
use Rattle.saving.specs.Saving.{taken, At, elements, cleared, Line, line, Saved, saved, records, stays, leaves, unseen, answered}
use Rattle.saving.specs.Saving.{by_pass, passed, by_zone, zoned, string_indexes, mended_description, first_line, named, by_claim, in_zones}
use Rattle.saving.specs.Saving.{ending}
use Rattle.saving.specs.Lines.{new_table}
use Rattle.saving.proofs.Sifting.{Plain, count, by_test, sift_count}
use Rattle.saving.proofs.Standing.{standing_count}
use Rattle.saving.proofs.Reading.{pass_saved}
use Rattle.saving.proofs.Choosing.{part_records, in_zone, clashless, zoned_part, unclashed_part}
use Rattle.saving.proofs.Mending.{mended_at, mended_kept, mended_lines, each_alike}
use Rattle.saving.proofs.Alike.{alike_length}

pub records_length : (ks : List (At Record)) → length (records ks) ≡ length ks
records_length [] = refl
records_length (k ∷ ks) = omega (arith, records_length ks)

-- what is left out later
pub zoned_shorter : (s : Saved) → length (layouts (records (zoned s).kept)) ≤ length (layouts (records s.kept))
zoned_shorter s = part_length (part_slots (part_records (zoned_part s)))

pub ending_shorter : (d : Description) (s : Saved) → length (layouts (records (ending d s).kept)) ≤ length (layouts (records s.kept))
ending_shorter d s =
    let e = mended_kept (string_indexes s) (s.lines ++ first_line (string_indexes s) d) s.kept in
    let p = part_length (part_slots (part_records (unclashed_part d (named d s)))) in
    omega (arith, p, ap (λ (l : List (At Record)). length (layouts (records l))) e, alike_length (each_alike (string_indexes s) s.kept))

-- the new table: at most as long as what was taken
pub table_short :
    (c : Chip) (file : List ℕ)
    → Bytes file
    → (length (new_table c file) ≤ 4096) × (length (new_table c file) ≤ 16 + length (drop 16 (taken file)))
unfolding new_table
table_short c file small =
    let b = taken file in
    let d = read_description c (byte b) in
    let s = passed (writing c) b in
    omega (
      arith,
      length_written (table (mended_description (string_indexes (zoned s)) d) (records (ending d (zoned s)).kept)),
      ending_shorter d (zoned s),
      zoned_shorter s,
      (pass_saved (writing c) b (bytes_take 4096 file small)).short,
      length-drop 16 b,
      length-take 4096 file,
    )

-- Lines. Of these fates only clearing makes a line and keeps the record
plain_pass : (σ : Settings) (kept : List Record) (bs : List ℕ) → Plain (by_pass σ kept bs)
plain_pass σ kept bs = by_test Plain (ltb (length kept) 96) _ unseen (λ e. go (step σ kept bs)) (λ e. tt)
  where
    go : (o : Outcome) → Plain (answered o)
    go (took r) = tt
    go (stop k) = tt

plain_chosen : (t : Bool) (r : Record) (k : ℕ) → Plain (cond t (stays r) (leaves k))
plain_chosen true r k = tt
plain_chosen false r k = tt

first_one : (declared : List ℕ) (d : Description) → length (first_line declared d) ≤ 1
first_one declared d =
    by_test (λ (l : List Line). length l ≤ 1) (among d.string declared) [] (line 0 14 cleared ∷ []) (λ e. omega arith) (λ e. omega arith)

-- after 13: no more lines than elements, those kept aside
pub zoned_lines : (σ : Settings) (b : List ℕ) → count (in_zones σ b) ≤ length (elements b)
zoned_lines σ b =
    let s = passed σ b in
    let zs = zones (records s.kept) in
    omega (
      arith,
      sift_count (by_pass σ) (plain_pass σ) (saved [] []) (elements b),
      sift_count (by_zone zs) (λ kept r. plain_chosen (in_zone zs kept r) r 13) (saved [] s.lines) s.kept,
    )

-- 14 and 15: at most two lines for each that is kept, or it is left
pub ending_lines : (d : Description) (s : Saved) → length (ending d s).lines ≤ length s.lines + 1 + 2 * length s.kept
ending_lines d s =
    let ls = s.lines ++ first_line (string_indexes s) d in
    omega (
      arith,
      sift_count (by_claim d) (λ kept r. plain_chosen (clashless d kept r) r 15) (saved [] (named d s).lines) (named d s).kept,
      mended_lines (string_indexes s) ls s.kept,
      ap (λ (l : List (At Record)). length l) (mended_kept (string_indexes s) ls s.kept),
      length-map s.kept (mended_at (string_indexes s)),
      length-append s.lines (first_line (string_indexes s) d),
      first_one (string_indexes s) d,
    )

pub at_most_1457 : (σ : Settings) (b : List ℕ) (d : Description) → Bytes b → length b ≤ 4096 → length (ending d (in_zones σ b)).lines ≤ 1457
at_most_1457 σ b d small top =
    let s = passed σ b in
    omega (
      arith,
      ending_lines d (in_zones σ b),
      zoned_lines σ b,
      standing_count (length (drop 16 b)) 16 (drop 16 b),
      length-drop 16 b,
      part_length (zoned_part s),
      records_length s.kept,
      at_most_96 σ [] (records s.kept) (omega arith) (pass_saved σ b small).kept,
    )
