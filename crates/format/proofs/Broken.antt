-- Which rule is broken first, by a description and by a record by itself: each after those that are kept, and before all others.
-- Assumes nothing.
use mathlib.Core.Path.{◌≡◌}
use mathlib.Core.Bool.{true, false}
use mathlib.Core.Option.{some}
use Rattle.format.specs.Records.{Record, element_of}
use Rattle.format.specs.Rules.{first_broken, description_rules, typed, powered, strapped, own_rules, shaped, coded, in_use, pinned}
use Rattle.format.specs.Table.{description_breaks}
use Rattle.format.specs.declared.pins.Chip.{Chip}
use Rattle.format.specs.declared.settings.Settings.{Settings}
use Rattle.format.specs.declared.records.Description.{Description}

-- 10 of a description
pub misstrapped :
    (c : Chip) (d : Description) → typed d ≡ true → powered d ≡ true → strapped c d ≡ false → description_breaks c d ≡ some 10
unfolding description_rules
misstrapped c d t p h = simp (t, p, h)

module _ (s : Settings) where
  -- 8
  pub misshapen : (r : Record) → shaped r ≡ false → first_broken (own_rules s r) ≡ some 8
  unfolding own_rules
  misshapen r h = simp h

  -- 9
  pub miscoded : (r : Record) → shaped r ≡ true → coded r ≡ false → first_broken (own_rules s r) ≡ some 9
  unfolding own_rules
  miscoded r h k = simp (h, k)

  -- 23
  pub out_of_use :
      (r : Record)
      → shaped r ≡ true
      → coded r ≡ true
      → in_use s.rules (element_of r) ≡ false
      → first_broken (own_rules s r) ≡ some 23
  unfolding own_rules
  out_of_use r h k u = simp (h, k, u)

  -- 10
  pub mispinned :
      (r : Record)
      → shaped r ≡ true
      → coded r ≡ true
      → in_use s.rules (element_of r) ≡ true
      → pinned s.chip r ≡ false
      → first_broken (own_rules s r) ≡ some 10
  unfolding own_rules
  mispinned r h k u p = simp (h, k, u, p)
