-- What it is for a description and a list of records to keep the rules and limits of document 01, under the settings that the caller names.
-- Assumes nothing.
use Rattle.std.specs.Prelude.{ℕ, ◌<◌, ◌≤◌, ◌≡◌, true, List, [], ◌∷◌, ◌++◌, length}
use Rattle.std.proofs.Math.Option.{Option, none}
use Rattle.format.specs.Slots.{all_roomy}
use Rattle.format.specs.Records.{Record}
use Rattle.format.specs.Layout.{table}
use Rattle.format.specs.Rules.{first_broken, description_rules, own_rules}
use Rattle.format.specs.ZonesAndStrings.{rules_against, zoneless, nameless}
use Rattle.format.specs.Claims.{contested}
use Rattle.format.specs.declared.pins.Chip.{Chip}
use Rattle.format.specs.declared.settings.Settings.{Settings}
use Rattle.format.specs.declared.records.Description.{Description}

-- the first rule that an element breaks, after those before it: '8, 9', 23, '10' of its own pins and of the fan list, 'the 13th
-- zone (11), 12'
abbrev pub element_breaks : Settings → List Record → Record → Option ℕ
element_breaks s before r = first_broken (own_rules s r ++ rules_against before r)

-- the first rule that the description breaks: 4, 5, and 10 of the hardware revision pins
abbrev pub description_breaks : Chip → Description → Option ℕ
description_breaks c d = first_broken (description_rules c d)

-- each element is no 97th and breaks none of the pass's rules, after those before it
abbrev pub PassKept : Settings → List Record → List Record → Type 0
PassKept s before [] = Unit {0}
PassKept s before (r ∷ rs) =
    (length before < 96) × (element_breaks s before r ≡ none) × PassKept s (before ++ r ∷ []) rs

pub record Keeps (s : Settings) (d : Description) (rs : List Record) : Type 0 where
  -- 25: no number is too large for its field; nor are the lengths and ENTRIES that the layout supplies
  pub roomy_25 : all_roomy (table d rs) ≡ true
  -- 3: 'A table is 16 to 4,096 bytes'
  pub limit : length (table d rs) ≤ 4096
  -- 4, 5, 10
  pub described : description_breaks s.chip d ≡ none
  -- 8 to 12, and 23
  pub passed : PassKept s [] rs
  -- 13
  pub zoned : zoneless rs ≡ none
  -- 14
  pub named : nameless d rs ≡ none
  -- 15
  pub clear : contested d rs ≡ none
