-- Red, green and blue rise, and so they are distinct.
-- Assumes nothing.
use mathlib.Core.Path.{refl}
use mathlib.Core.Bool.{true, ◌&&◌}
use mathlib.Core.List.{◌∷◌, []}
use lib.Dec.{ltb}
use Rattle.format.specs.Pins.{allowed}
use Rattle.format.specs.declared.pins.Use.TheVariants.{FanPin}
use Rattle.pinsets.proofs.Table.{and_left, and_right}
use Rattle.claims.proofs.Tests.{both}
use Rattle.claims.proofs.Sets.{one_pin, union}
use Rattle.claims.proofs.Elements.{allowed_pin, three_distinct}
use Rattle.claims.proofs.Lone.{claims_alone}
use Rattle.claims.proofs.rgb_claims.Goals as goal

pub returns : goal.returns
returns c =
    λ chip k.
    let r = c.args.c.red in
    let g = c.args.c.green in
    let b = c.args.c.blue in
    let rg = ltb r.0 g.0 in
    let gb = ltb g.0 b.0 in
    let k₁ = and_right (allowed chip FanPin r) (allowed chip FanPin g && (allowed chip FanPin b && (rg && gb))) k in
    let k₂ = and_right (allowed chip FanPin g) (allowed chip FanPin b && (rg && gb)) k₁ in
    let k₃ = and_right (allowed chip FanPin b) (rg && gb) k₂ in
    let er = allowed_pin chip FanPin r (and_left (allowed chip FanPin r)
    (allowed chip FanPin g && (allowed chip FanPin b && (rg && gb))) k) in
    let eg = allowed_pin chip FanPin g (and_left (allowed chip FanPin g) (allowed chip FanPin b && (rg && gb)) k₁) in
    let eb = allowed_pin chip FanPin b (and_left (allowed chip FanPin b) (rg && gb) k₂) in
    rw (c.bit_of.ensures, c.bit_of-2.ensures, c.bit_of-3.ensures)
    (claims_alone
    _
    0
    (r.0 ∷ g.0 ∷ b.0 ∷ [])
    (union (union (one_pin r.0 er) (one_pin g.0 eg)) (one_pin b.0 eb))
    (both _ _ er (both _ _ eg (both _ true eb refl)))
    (three_distinct r.0 g.0 b.0 (and_left rg gb k₃) (and_right rg gb k₃)))
