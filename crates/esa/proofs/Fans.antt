-- The call for a fan over numbers: at most 96 elements are visited, and there is no second outcome.
-- Assumes nothing.
use Prim.Native.Nat.{ℕ}
use native.Mathlib.Omega.{arith}
use mathlib.Core.Path.{◌≡◌, sym, ◌∙◌, ap}
use mathlib.Core.List.{List, []}
use Rattle.format.specs.Slots.{Bytes}
use Rattle.format.specs.declared.settings.Settings.{Settings}
use Rattle.format.specs.Answers.{Refused as RefusedTable}
use Rattle.format.proofs.Lengths.{at_most_96}
use Rattle.reader.proofs.Bounds.{value_bound}
use Rattle.fans.specs.InZone.{Zones, seen, refused}
use Rattle.fans.specs.InZone.{Zoned}
use Rattle.fans.proofs.Answering.{never_more}
use Rattle.fans.proofs.Only.{only_in_zone}
use Rattle.esa.specs.Fans.{packed_zoned, Bounded, FanFor}

pub zones_bounded : (σ : Settings) (b : List ℕ) (z : ℕ) (x : Zoned) → Zones σ b z x → Bounded x
zones_bounded σ b z x (seen d rs a) = omega (arith, never_more z rs, at_most_96 σ [] rs (omega arith) a.keeps.passed)
zones_bounded σ b z x (refused {j = j} {p = p} v) = value_bound σ b (RefusedTable j p) v

-- no second outcome
pub fan_unique : (σ : Settings) (b : List ℕ) (z r r' : ℕ) → Bytes b → FanFor σ b z r → FanFor σ b z r' → r ≡ r'
fan_unique σ b z r r' small f f' =
    f.number ∙ ap packed_zoned (only_in_zone σ b z f.answer f'.answer small f.zones f'.zones) ∙ sym f'.number
