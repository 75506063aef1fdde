-- 8/14: 'every pin of the list carrying the named chip; an unused place carries none'. What keeps 9 and 10 is of its kind, and its kind
-- asks that of every pin in it.
-- Assumes nothing.
use Prim.Native.Nat.{ℕ}
use mathlib.Core.Path.{◌≡◌}
use mathlib.Core.Bool.{true}
use mathlib.Core.List.{List, [], ◌∷◌, ◌++◌}
use Rattle.format.specs.Records.{Record}
use Rattle.format.specs.Rules.{of_its_kind, description_kind}
use Rattle.format.specs.Table.{PassKept}
use Rattle.format.specs.Verdict.{Accepts}
use Rattle.format.specs.declared.pins.Chip.{Chip}
use Rattle.format.specs.declared.pins.Use.TheVariants.{HardwareRevision}
use Rattle.format.specs.declared.settings.Settings.{Settings}
use Rattle.format.specs.declared.records.Description.{Description}
use Rattle.format.proofs.Kept.{own_unbroken, own_kept, kept_kind, description_kept, three_standing}

abbrev pub EachNamed : Chip → List Record → Type 0
EachNamed c [] = Unit {0}
EachNamed c (r ∷ rs) = (of_its_kind c r ≡ true) × EachNamed c rs

pub pass_named : (s : Settings) (before rs : List Record) → PassKept s before rs → EachNamed s.chip rs
pass_named s before [] k = tt
pass_named s before (r ∷ rs) k =
    let o = own_kept s r (own_unbroken s before r k.1) in
    (kept_kind s.chip r o.codes_9 o.pins_10, pass_named s (before ++ r ∷ []) rs k.2)

pub pins_named :
    (s : Settings) (b : List ℕ) (d : Description) (rs : List Record)
    → Accepts s b d rs
    → (description_kind s.chip d ≡ true) × EachNamed s.chip rs
pins_named s b d rs a =
    let c = s.chip in (
      three_standing c HardwareRevision d.revision0 d.revision1 d.revision2 (description_kept c d a.keeps.described).pins_10,
      pass_named s [] rs a.keeps.passed,
    )
