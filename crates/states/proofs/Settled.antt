-- The numbers say which settings and which pass they stand for.
-- Assumes nothing.
use Prim.Native.Nat.{ℕ, ◌<◌}
use native.Mathlib.Nat.{mod-eq_of_lt}
use mathlib.Core.Path.{◌≡◌, refl, ◌∙◌, ap}
use Rattle.format.specs.declared.pins.Chip.{Chip}
use Rattle.format.specs.declared.pins.Chip.TheVariants.{C8051F320, C8051F321}
use Rattle.format.specs.declared.settings.Settings.{Settings}
use Rattle.format.specs.declared.settings.Rules.{Rules}
use Rattle.format.specs.declared.settings.Rules.TheVariants.{Ordinary, Archive}
use Rattle.closing.specs.declared.Way.{Way}
use Rattle.states.specs.Numbers.{settings_of, code_of, way_of, numbers_of}

abbrev settings : Chip → Rules → Settings
settings c r = record { chip = c; rules = r }

pub same_settings : (a b : Settings) → a.chip ≡ b.chip → a.rules ≡ b.rules → a ≡ b
same_settings a b p q = ap (λ (c : Chip). settings c a.rules) p ∙ ap (λ (r : Rules). settings b.chip r) q

chip_back : (c : Chip) (r : Rules) → (settings_of (code_of (settings c r))).chip ≡ c
chip_back C8051F320 Ordinary = refl
chip_back C8051F320 Archive = refl
chip_back C8051F321 Ordinary = refl
chip_back C8051F321 Archive = refl

rules_back : (c : Chip) (r : Rules) → (settings_of (code_of (settings c r))).rules ≡ r
rules_back C8051F320 Ordinary = refl
rules_back C8051F320 Archive = refl
rules_back C8051F321 Ordinary = refl
rules_back C8051F321 Archive = refl

pub back : (s : Settings) → settings_of (code_of s) ≡ s
back s = same_settings (settings_of (code_of s)) s (chip_back s.chip s.rules) (rules_back s.chip s.rules)

pub way_back :
    (ended code count : ℕ) (w : Way)
    → w.state.held.alone < 4294967296
    → w.state.held.joint < 4294967296
    → way_of (numbers_of ended code count w) ≡ w
way_back ended code count w a b = rw (mod-eq_of_lt a, mod-eq_of_lt b) refl
