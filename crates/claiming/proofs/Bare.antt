-- The variable part has no pin: claims and rule 10 are those of the record without it. By cases, each computed.
-- Assumes nothing.
use mathlib.Core.Path.{◌≡◌, refl, sym, subst}
use mathlib.Core.Bool.{true}
use Rattle.format.specs.Records.{Record, digital, analogue, fan, led, water, pump, voltage, current, controller, tachometer, zone, string}
use Rattle.format.specs.Records.{external, rgb, element_of}
use Rattle.format.specs.Rules.{pinned}
use Rattle.format.specs.Claims.{claims_of}
use Rattle.format.specs.declared.pins.Chip.{Chip}
use Rattle.format.specs.declared.records.Element.{Element}
use Rattle.claims.specs.Taken.{ClaimsAre}
use Rattle.claims.specs.declared.Claims.{Claims}
use Rattle.claiming.specs.Bare.{bare}

pub bare_same :
    (c : Chip) (r : Record)
    → (claims_of (bare (element_of r)) ≡ claims_of r) × (pinned c (bare (element_of r)) ≡ pinned c r)
bare_same c (digital d) = (refl, refl)
bare_same c (analogue a) = (refl, refl)
bare_same c (fan f) = (refl, refl)
bare_same c (led l) = (refl, refl)
bare_same c (water w) = (refl, refl)
bare_same c (pump f) = (refl, refl)
bare_same c (voltage v) = (refl, refl)
bare_same c (current x) = (refl, refl)
bare_same c (controller d bs) = (refl, refl)
bare_same c (tachometer d a b) = (refl, refl)
bare_same c (zone bytes) = (refl, refl)
bare_same c (string bytes) = (refl, refl)
bare_same c (external x r g b) = (refl, refl)
bare_same c (rgb r) = (refl, refl)

-- the claims of an element whose kind is known
abbrev Right : Claims → Element → Type 0
Right r e = (c : Chip) → pinned c (bare e) ≡ true → ClaimsAre r (claims_of (bare e))

pub by_kind : {r : Claims} {e k : Element} → e ≡ k → Right r k → Right r e
by_kind {r} {e} {k} same f = subst (λ (x : Element). Right r x) (sym same) f
