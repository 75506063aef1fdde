-- The state's numbers, as the settings and the pass that they stand for.
-- Assumes nothing.
use Rattle.std.specs.Prelude.{ℕ, ◌+◌, ◌/◌, ◌%◌, Bool, true, false, List, [], ◌∷◌, get_or, eqb}
use Rattle.format.specs.declared.pins.Chip.{Chip}
use Rattle.format.specs.declared.pins.Chip.TheVariants.{C8051F320, C8051F321}
use Rattle.format.specs.declared.settings.Settings.{Settings}
use Rattle.format.specs.declared.settings.Rules.{Rules}
use Rattle.format.specs.declared.settings.Rules.TheVariants.{Ordinary, Archive}
use Rattle.closing.specs.declared.Way.{Way}

abbrev pub pick_chip : Bool → Chip
pick_chip true = C8051F320
pick_chip false = C8051F321

abbrev pub pick_rules : Bool → Rules
pick_rules true = Ordinary
pick_rules false = Archive

-- bit 0 set is the 321, bit 1 set the archive's rules, as over the C face
abbrev pub settings_of : ℕ → Settings
settings_of n = record { chip = pick_chip (eqb (n % 2) 0); rules = pick_rules (eqb (n / 2 % 2) 0) }

-- the least number that says so
abbrev pub chip_code : Chip → ℕ
chip_code C8051F320 = 0
chip_code C8051F321 = 1

abbrev pub rules_code : Rules → ℕ
rules_code Ordinary = 0
rules_code Archive = 2

abbrev pub code_of : Settings → ℕ
code_of s = chip_code s.chip + rules_code s.rules

-- number k of the state
abbrev pub number : List ℕ → ℕ → ℕ
number n k = get_or n k 0

-- where the pass is; sets of pins are words of 32 bits
abbrev pub way_of : List ℕ → Way
way_of n =
    record {
      stop = number n 3;
      at = number n 4;
      under = record { len = number n 5; at = number n 6; blocks = number n 7; mark = number n 8 };
      state =
          record {
            count = number n 9;
            zones = number n 10;
            held = record { alone = number n 11 % 4294967296; joint = number n 12 % 4294967296; clash = number n 13 };
            last = number n 14;
          };
    }

abbrev pub numbers_of : ℕ → ℕ → ℕ → Way → List ℕ
numbers_of ended code count w =
    ended
    ∷ code
    ∷ count
    ∷ w.stop
    ∷ w.at
    ∷ w.under.len
    ∷ w.under.at
    ∷ w.under.blocks
    ∷ w.under.mark
    ∷ w.state.count
    ∷ w.state.zones
    ∷ w.state.held.alone
    ∷ w.state.held.joint
    ∷ w.state.held.clash
    ∷ w.state.last
    ∷ 0
    ∷ []
