-- The number of the first rule that is broken, as the code finds it.
-- Assumes nothing.
use Rattle.std.specs.Prelude.{ℕ, ◌≡◌, Bool, true, false, List, Result, Ok, Err}
use Rattle.format.specs.declared.answers.Rule.{Rule}
use Rattle.format.specs.Pins.{among}
use Rattle.format.specs.Records.{Block, controller, tachometer, external}
use Rattle.format.specs.Rules.{numbered, first_broken, own_rules, shaped, filled, chip_identifiers}
use Rattle.format.specs.Decode.{external_of}
use Rattle.format.specs.declared.settings.Settings.{Settings}
use Rattle.format.specs.declared.records.BusDevice.{BusDevice}
use Rattle.format.specs.declared.records.RegisterPair.{RegisterPair}

-- where a rule is kept, what comes later; where it is not, its number
abbrev pub or_else : Bool → ℕ → ℕ → ℕ
or_else true k later = later
or_else false k later = k

-- nothing where a rule is kept; where it is not, the rule
abbrev pub kept_or : Bool → Rule → Result (Unit {0}) Rule
kept_or true r = Ok tt
kept_or false r = Err r

-- a device on a bus: what a controller breaks whose blocks are so many as they may be, filled or not, what a tachometer breaks, and
-- what an external RGB LED breaks whose chip is identified, or not
pub record DeviceBreaks (s : Settings) (d : BusDevice) (full : Bool) (r : ℕ) : Type 0 where
  pub of_controller :
      (bs : List Block)
      → shaped (controller d bs) ≡ true
      → filled bs ≡ full
      → r ≡ numbered (first_broken (own_rules s (controller d bs)))
  pub of_tachometer :
      (a b : List RegisterPair) → full ≡ true → r ≡ numbered (first_broken (own_rules s (tachometer d a b)))
  pub of_external :
      (i : ℕ) (a b c : List RegisterPair)
      → among i chip_identifiers ≡ full
      → r ≡ numbered (first_broken (own_rules s (external (external_of d i) a b c)))
