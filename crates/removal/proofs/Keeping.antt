-- THE LAW behind taking an element out: a part of the records that keep the rules keeps all of them but 13 and 14, which ask it anew.
-- Assumes nothing.
use Prim.Native.Nat.{ℕ, ◌+◌, ◌/◌, ◌%◌, ◌≤◌}
use native.Mathlib.Omega.{arith}
use mathlib.Core.Path.{◌≡◌}
use mathlib.Core.Bool.{true}
use mathlib.Core.List.{List}
use mathlib.Core.Option.{none}
use lib.ListN.{length}
use borrow.Author.Tests.{lt-ltb}
use Rattle.format.specs.Slots.{whole, roomy, all_roomy}
use Rattle.format.specs.Records.{Record}
use Rattle.format.specs.Layout.{opening, layouts, table}
use Rattle.format.specs.ZonesAndStrings.{zoneless, nameless}
use Rattle.format.specs.Table.{Keeps}
use Rattle.format.specs.declared.settings.Settings.{Settings}
use Rattle.format.specs.declared.records.Description.{Description}
use Rattle.format.proofs.Kept.{and-true}
use Rattle.format.proofs.Slots.{roomy_split, roomy_join}
use Rattle.removal.specs.Parts.{Part}
use Rattle.removal.proofs.Parts.{part_length, part_slots, part_roomy_lem}
use Rattle.removal.proofs.Passing.{part_passed}
use Rattle.removal.proofs.Claims.{part_uncontested}

-- 25, of the description: another table length that is within the limit fits its field too
pub opening_roomy : (d : Description) (m n : ℕ) → n ≤ 4096 → all_roomy (opening d m) ≡ true → all_roomy (opening d n) ≡ true
opening_roomy d m n top h =
    let a = and-true (roomy (whole (m % 256))) _ h in
    let b = and-true (roomy (whole (m / 256))) _ a.1 in
    simp (lt-ltb (n % 256) 256 (omega arith), lt-ltb (n / 256) 256 (omega arith)) b.1

module _ (d : Description) {ss rs : List Record} (p : Part Record ss rs) where
  -- 3
  pub part_limit : length (table d rs) ≤ 4096 → length (table d ss) ≤ 4096
  part_limit top = omega (arith, part_length (part_slots p))

  -- 25
  pub part_held : length (table d rs) ≤ 4096 → all_roomy (table d rs) ≡ true → all_roomy (table d ss) ≡ true
  part_held top h =
      let a = roomy_split (opening d (16 + length (layouts rs))) (layouts rs) h in
      roomy_join (opening d (16 + length (layouts ss))) (layouts ss)
      (opening_roomy d (16 + length (layouts rs)) (16 + length (layouts ss)) (omega (arith, part_length (part_slots p))) a.0)
      (part_roomy_lem (part_slots p) a.1)

  pub part_keeps : (σ : Settings) → Keeps σ d rs → zoneless ss ≡ none → nameless d ss ≡ none → Keeps σ d ss
  part_keeps σ k z n =
      record {
        roomy_25 = part_held k.limit k.roomy_25;
        limit = part_limit k.limit;
        described = k.described;
        passed = part_passed σ p k.passed;
        zoned = z;
        named = n;
        clear = part_uncontested d p k.clear;
      }
