-- Damaged tables worked out by hand: the checker computes the same table, the same text and the same refusals. One statement.
-- Assumes nothing.
use Prim.Native.Nat.{ℕ}
use mathlib.Core.Path.{◌≡◌, refl}
use mathlib.Core.Bool.{Bool, true, false, ◌&&◌, not}
use mathlib.Core.List.{List, [], ◌∷◌, ◌++◌}
use lib.Dec.{eqb}
use borrow.Author.Tests.{eqb-true, not-true}
use Rattle.format.specs.Rules.{description_rules, own_rules}
use Rattle.format.specs.ZonesAndStrings.{rules_against}
use Rattle.format.specs.Decode.{decode}
use Rattle.format.specs.Reader.{step}
use Rattle.format.specs.declared.pins.Chip.{Chip}
use Rattle.format.specs.declared.pins.Chip.TheVariants.{C8051F320, C8051F321}
use Rattle.format.proofs.Kept.{and-true}
use Rattle.spelling.specs.Spelling.{decimal}
use Rattle.saving.specs.Saving.{taken, salvageable}
use Rattle.saving.specs.Lines.{text_of, new_table, new_text, answer}
use Rattle.saving.specs.Known.{Row, salvages, by_chip, lost, full}
use Rattle.saving.specs.Salvaged.{Refused}

-- the test that is computed
abbrev same : List ℕ → List ℕ → Bool
same [] [] = true
same [] (y ∷ ys) = false
same (x ∷ xs) [] = false
same (x ∷ xs) (y ∷ ys) = eqb x y && same xs ys

same_is : (xs ys : List ℕ) → same xs ys ≡ true → xs ≡ ys
same_is [] [] h = refl
same_is [] (y ∷ ys) h = let z : true ≡ false = cc in cc
same_is (x ∷ xs) [] h = cc
same_is (x ∷ xs) (y ∷ ys) h =
    let p = and-true (eqb x y) (same xs ys) h in
    let e = eqb-true x y p.0 in
    let f = same_is xs ys p.1 in
    cc

module _ (c : Chip) where
  abbrev right : List Row → Bool
  right [] = true
  right (r ∷ rs) =
      salvageable c (taken r.file)
      && (same (new_table c r.file) r.table && (same (new_text c r.file) (text_of r.lines) && right rs))

  -- what it shows: of each row's bytes its table and its lines are made
  abbrev pub Each : List Row → Type 0
  Each [] = Unit {0}
  Each (r ∷ rs) =
      (salvageable c (taken r.file) ≡ true) × (new_table c r.file ≡ r.table) × (new_text c r.file ≡ text_of r.lines) × Each rs

  right_each : (rs : List Row) → right rs ≡ true → Each rs
  right_each [] h = tt
  right_each (r ∷ rs) h =
      let t = same (new_table c r.file) r.table in
      let u = same (new_text c r.file) (text_of r.lines) in
      let p = and-true (salvageable c (taken r.file)) (t && (u && right rs)) h in
      let q = and-true t (u && right rs) p.1 in
      let w = and-true u (right rs) q.1 in (
        p.0,
        same_is (new_table c r.file) r.table q.0,
        same_is (new_text c r.file) (text_of r.lines) w.0,
        right_each rs w.1,
      )

  abbrev all_lost : List (List ℕ) → Bool
  all_lost [] = true
  all_lost (f ∷ fs) = not (salvageable c (taken f)) && all_lost fs

  -- .. and 24 is answered, whatever the room
  abbrev pub EachLost : List (List ℕ) → Type 0
  EachLost [] = Unit {0}
  EachLost (f ∷ fs) = ((room : ℕ) → answer c f room ≡ Refused 24 0) × EachLost fs

  lost_each : (fs : List (List ℕ)) → all_lost fs ≡ true → EachLost fs
  unfolding answer
  lost_each [] h = tt
  lost_each (f ∷ fs) h =
      let p = and-true (not (salvageable c (taken f))) (all_lost fs) h in
      (λ room. rw (not-true (salvageable c (taken f)) p.0) refl, lost_each fs p.1)

computed : (c : Chip) → right c (by_chip c ++ salvages) && all_lost c lost ≡ true
unfolding new_table new_text step decode description_rules own_rules rules_against decimal
computed C8051F320 = refl
computed C8051F321 = refl

-- THE ROWS
pub known_salvages : (c : Chip) → Each c (by_chip c ++ salvages) × EachLost c lost
known_salvages c =
    let p = and-true (right c (by_chip c ++ salvages)) (all_lost c lost) (computed c) in
    (right_each c (by_chip c ++ salvages) p.0, lost_each c lost p.1)

computed_full : right C8051F320 full ≡ true
unfolding new_table new_text step decode description_rules own_rules rules_against decimal
computed_full = refl

pub full_salvage : Each C8051F320 full
full_salvage = right_each C8051F320 full computed_full
