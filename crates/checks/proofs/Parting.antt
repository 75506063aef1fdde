-- What an element breaks with its part, from what the code finds of the part: none, or blocks that are cut.
-- Assumes nothing.
use Prim.Native.Nat.{ℕ, suc}
use native.Mathlib.Omega.{arith}
use mathlib.Core.Path.{◌≡◌, refl, sym, ◌∙◌}
use mathlib.Core.Bool.{true, false}
use mathlib.Core.List.{List, [], ◌∷◌}
use mathlib.Core.Option.{none}
use lib.ListN.{length}
use lib.Dec.{eqb}
use borrow.Author.Tests.{ne_eqb}
use Rattle.format.specs.Pins.{among}
use Rattle.format.specs.Records.{tachometer, external}
use Rattle.format.specs.Rules.{numbered, chip_identifiers}
use Rattle.format.specs.Decode.{cut_blocks, cut_two, cut_three, external_of}
use Rattle.format.specs.Writing.{assemble, assembled_breaks, part_breaks}
use Rattle.format.specs.declared.records.BusDevice.{BusDevice}
use Rattle.format.specs.declared.records.Element.{Element}
use Rattle.format.specs.declared.records.Element.TheVariants.{Controller, Tachometer, External}
use Rattle.format.specs.declared.settings.Settings.{Settings}
use Rattle.blocks.specs.Cutting.{is_some, exact, SpeedPart, PairsPart}
use Rattle.blocks.specs.declared.Part.{Part}
use Rattle.blocks.proofs.EachKind.{two, three}
use Rattle.blocks.proofs.Faults.{speed_fault, pairs_fault}
use Rattle.rules.specs.Broken.{or_else, DeviceBreaks}

-- an element is of a kind, and breaks what the kind breaks; one without a part 8 where there is one, and else what it breaks alone
module _ (s : Settings) (e k : Element) (p : List ℕ) {r : ℕ} (same : e ≡ k) where
  pub of_kind_lem : r ≡ numbered (part_breaks s k p) → r ≡ numbered (part_breaks s e p)
  of_kind_lem h = rw same h

  pub alone :
      {fault : ℕ}
      → r ≡ or_else (eqb (length p) 0) 8 fault
      → fault ≡ numbered (assembled_breaks s (assemble k []))
      → ((b : ℕ) (q : List ℕ) → assemble k (b ∷ q) ≡ none)
      → r ≡ numbered (part_breaks s e p)
  unfolding part_breaks
  alone {fault} h f none-else = of_kind_lem (go p h)
    where
      go : (q : List ℕ) → r ≡ or_else (eqb (length q) 0) 8 fault → r ≡ numbered (assembled_breaks s (assemble k q))
      go [] h = h ∙ f
      go (b ∷ q) h = h ∙ rw (ne_eqb (suc (length q)) 0 (λ n. omega (arith, n)), none-else b q) refl

-- a device with its part
module _
    (s : Settings) (d : BusDevice) (part : Part) (p : List ℕ) {r : ℕ}
    (f : (part.whole ≡ false → r ≡ 8) × (part.whole ≡ true → DeviceBreaks s d part.full r))
  where
    -- 09h
    pub speeds : SpeedPart p part → r ≡ numbered (part_breaks s (Controller d) p)
    unfolding part_breaks
    speeds a =
        speed_fault s part r f.0 d (cut_blocks (length p) p) (a (length p) (omega arith)) (λ w. (f.1 w).of_controller)

    -- 0Ah
    pub two_lists : PairsPart 2 p part → r ≡ numbered (part_breaks s (Tachometer d) p)
    unfolding part_breaks
    two_lists a =
        pairs_fault s part r f.0 (λ q. tachometer d q.0 q.1) (cut_two p) (a.0 ∙ two p)
        (λ w q. (f.1 w).of_tachometer q.0 q.1 a.1)

    -- 0Dh
    pub three_lists :
        (i : ℕ)
        → part.whole ≡ is_some (exact 3 0 p)
        → part.full ≡ among i chip_identifiers
        → r ≡ numbered (part_breaks s (External (external_of d i)) p)
    unfolding part_breaks
    three_lists i w e =
        pairs_fault s part r f.0 (λ q. external (external_of d i) q.0 q.1 q.2) (cut_three p) (w ∙ three p)
        (λ v q. (f.1 v).of_external i q.0 q.1 q.2 (sym e))
