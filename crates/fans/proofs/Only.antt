-- No second outcome keeps the words of `in_zone`; nor those of `seek`, of a table whose acceptance is shown.
-- Assumes nothing.
use Prim.Native.Nat.{ℕ}
use mathlib.Core.Path.{◌≡◌, sym, ◌∙◌, ap}
use mathlib.Core.List.{List}
use Rattle.format.specs.Slots.{Bytes}
use Rattle.format.specs.Records.{Record}
use Rattle.format.specs.Verdict.{Accepts}
use Rattle.format.specs.declared.settings.Settings.{Settings}
use Rattle.format.specs.declared.records.Description.{Description}
use Rattle.format.specs.Answers.{Refused as RefusedTable}
use Rattle.format.proofs.Demand3.{unique, only_one_list}
use Rattle.format.proofs.Asking.{never_both}
use Rattle.fans.specs.InZone.{in_zone, Shown, Zones, seen, refused}
use Rattle.fans.specs.declared.Visit.{Visit}
use Rattle.fans.specs.InZone.{Zoned}
use Rattle.format.specs.Answers.{Gives as Seen}

pub only_in_zone : (σ : Settings) (b : List ℕ) (z : ℕ) (r r' : Zoned) → Bytes b → Zones σ b z r → Zones σ b z r' → r ≡ r'
only_in_zone σ b z r r' small (seen d rs a) (seen d' rs' a') =
    ap (λ (l : List Record). Seen (in_zone z l)) (only_one_list σ b d d' rs rs' small a a').1
only_in_zone σ b z r r' small (seen d rs a) (refused v) = absurd (never_both σ b d rs small a v)
only_in_zone σ b z r r' small (refused v) (seen d rs a) = absurd (never_both σ b d rs small a v)
only_in_zone σ b z r r' small (refused {j = j} {p = p} v) (refused {j = j'} {p = p'} v') =
    let q = unique σ b (RefusedTable j p) (RefusedTable j' p') small v v' in
    cc

module _ (b : List ℕ) (z : ℕ) (p : Shown b) where
  abbrev Words : Visit → Type 0
  Words v = (σ : Settings) (d : Description) (rs : List Record) → Accepts σ b d rs → v ≡ in_zone z rs

  pub only_seek : (v v' : Visit) → Words v → Words v' → v ≡ v'
  only_seek v v' e e' =
      e p.settings p.description p.records p.accepts ∙ sym (e' p.settings p.description p.records p.accepts)
