-- An element is of a kind: what the kind's function asks follows from what is known of the element, and what it leaves is the element's.
-- Assumes nothing.
use Prim.Native.Nat.{ℕ, ◌+◌, ◌≤◌}
use mathlib.Core.Path.{◌≡◌, sym}
use mathlib.Core.Bool.{true}
use mathlib.Core.List.{List, []}
use lib.ListN.{length}
use Rattle.format.specs.Layout.{fixed}
use Rattle.format.specs.Rules.{element_roomy}
use Rattle.format.specs.declared.records.PwmFan.{PwmFan}
use Rattle.format.specs.declared.records.Element.{Element}
use Rattle.format.specs.declared.records.Element.TheVariants.{Fan, Pump}
use Rattle.laying.specs.Laid.{Roomed, Laid}
use Rattle.laying.proofs.Laws.{overwritten_none}

module _ (e k : Element) (at : ℕ) (b : List ℕ) (same : e ≡ k) where
  pub roomed : element_roomy e ≡ true → at + length (fixed e) ≤ length b → Roomed k at b
  roomed s i = record { slots = rw same at s; inside = rw same at i }

  pub laid : (after : List ℕ) → Laid k at b after → Laid e at b after
  laid after l = rw same l

  pub bare : fixed k ≡ [] → Laid e at b b
  bare none = rw (same, none) (sym (overwritten_none at b))

-- 06h is laid as 03h is
pub as_fan : {f : PwmFan} {at : ℕ} {b : List ℕ} → Roomed (Pump f) at b → Roomed (Fan f) at b
as_fan r = record { slots = r.slots; inside = r.inside }
