-- The first of 8, 9, 23 and 10 that an element with blocks breaks: 8 by what its part says, and else what its fixed fields say.
-- Assumes nothing.
use Prim.Native.Nat.{ℕ}
use mathlib.Core.Path.{◌≡◌, refl, sym, ◌∙◌, ap}
use mathlib.Core.Bool.{Bool, true, false}
use mathlib.Core.List.{List}
use mathlib.Core.Option.{Option, none, some}
use Rattle.format.specs.Records.{Block, Record, controller}
use Rattle.format.specs.Rules.{numbered, first_broken, own_rules, shaped, filled}
use Rattle.format.specs.Decode.{bind}
use Rattle.format.specs.Writing.{assembled_breaks}
use Rattle.format.specs.declared.settings.Settings.{Settings}
use Rattle.format.specs.declared.records.BusDevice.{BusDevice}
use Rattle.format.proofs.Broken.{misshapen}
use Rattle.blocks.specs.Cutting.{is_some, SpeedsAre}
use Rattle.blocks.specs.declared.Part.{Part}

abbrev own : Settings → Record → ℕ
own s x = numbered (first_broken (own_rules s x))

module _ (s : Settings) (part : Part) (n : ℕ) (bad : part.whole ≡ false → n ≡ 8) where
  -- 09h
  pub speed_fault :
      (d : BusDevice) (o : Option (List Block))
      → SpeedsAre part o
      → (part.whole ≡ true → (l : List Block) → shaped (controller d l) ≡ true → filled l ≡ part.full → n ≡ own s (controller d l))
      → n ≡ numbered (assembled_breaks s (bind o (λ l. some (controller d l))))
  speed_fault d none a good = bad a
  speed_fault d (some l) a good = go part.whole refl
    where
      go : (t : Bool) → part.whole ≡ t → n ≡ own s (controller d l)
      go true w = good w l (sym a.0 ∙ w) (sym (a.1 w))
      go false w = bad w ∙ sym (ap numbered (misshapen s (controller d l) (sym a.0 ∙ w)))

  -- 0Ah and 0Dh, and every kind that has an exact number of blocks
  pub pairs_fault :
      {A : Type 0} (kind : A → Record) (o : Option A)
      → part.whole ≡ is_some o
      → (part.whole ≡ true → (a : A) → n ≡ own s (kind a))
      → n ≡ numbered (assembled_breaks s (bind o (λ a. some (kind a))))
  pairs_fault kind none e good = bad e
  pairs_fault kind (some a) e good = good e a
