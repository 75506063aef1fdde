-- Laws of parts: what stands behind what, and that what is gathered from a part of the records is a part of what is gathered from all.
-- Assumes nothing.
use Prim.Native.Nat.{ℕ, ◌≤◌}
use native.Mathlib.Omega.{arith}
use mathlib.Core.Path.{◌≡◌, refl}
use mathlib.Core.Bool.{true}
use mathlib.Core.List.{List, [], ◌∷◌, ◌++◌}
use lib.ListN.{length}
use Rattle.format.specs.Slots.{Slot, roomy, all_roomy}
use Rattle.format.specs.Records.{Record}
use Rattle.format.specs.Layout.{layout, layouts}
use Rattle.format.specs.ZonesAndStrings.{Role, role, gathered}
use Rattle.format.specs.FanList.{fan_pins, all_fan_pins}
use Rattle.format.proofs.Kept.{and-true}
use Rattle.removal.specs.Parts.{Part, done, keep, leave}

module _ {A : Type 0} where
  -- a list is a part of itself, and nothing is a part of every list
  pub part_same : (xs : List A) → Part A xs xs
  part_same [] = done
  part_same (x ∷ xs) = keep (part_same xs)

  pub part_none : (xs : List A) → Part A [] xs
  part_none [] = done
  part_none (x ∷ xs) = leave (part_none xs)

  -- end to end; and with something left out before or behind
  pub part_append : {xs ys vs ws : List A} → Part A xs ys → Part A vs ws → Part A (xs ++ vs) (ys ++ ws)
  part_append done q = q
  part_append (keep p) q = keep (part_append p q)
  part_append (leave p) q = leave (part_append p q)

  pub part_behind : (front : List A) {xs ys : List A} → Part A xs ys → Part A xs (front ++ ys)
  part_behind [] p = p
  part_behind (x ∷ front) p = leave (part_behind front p)

  pub part_before : (back : List A) {xs ys : List A} → Part A xs ys → Part A xs (ys ++ back)
  part_before back done = part_none back
  part_before back (keep p) = keep (part_before back p)
  part_before back (leave p) = leave (part_before back p)

  pub part_length : {xs ys : List A} → Part A xs ys → length xs ≤ length ys
  part_length done = omega arith
  part_length (keep p) = omega (arith, part_length p)
  part_length (leave p) = omega (arith, part_length p)

-- THE LAW: what each record brings, end to end
module _ {B : Type 0} (brings : Record → List B) (all : List Record → List B) (of_none : all [] ≡ [])
    (of-more : (r : Record) (rs : List Record) → all (r ∷ rs) ≡ brings r ++ all rs) where
  pub part_through : {ss rs : List Record} → Part Record ss rs → Part B (all ss) (all rs)
  part_through done = rw of_none done
  part_through (keep {x = r} {xs = ss} {ys = rs} p) = rw (of-more r ss, of-more r rs) (part_append (part_same (brings r)) (part_through p))
  part_through (leave {y = r} {xs = ss} {ys = rs} p) = rw (of-more r rs) (part_behind (brings r) (part_through p))

-- the slots, the numbers that elements declare or name, the pins of the fan list
pub part_slots : {ss rs : List Record} → Part Record ss rs → Part Slot (layouts ss) (layouts rs)
part_slots p = part_through layout layouts refl (λ r rs. refl) p

pub part_numbers : (numbers : Role → List ℕ) {ss rs : List Record} → Part Record ss rs → Part ℕ (gathered numbers ss) (gathered numbers rs)
part_numbers numbers p = part_through (λ r. numbers (role r)) (gathered numbers) refl (λ r rs. refl) p

pub part_fans : {ss rs : List Record} → Part Record ss rs → Part ℕ (all_fan_pins ss) (all_fan_pins rs)
part_fans p = part_through fan_pins all_fan_pins refl (λ r rs. refl) p

-- 25
pub part_roomy_lem : {ss ts : List Slot} → Part Slot ss ts → all_roomy ts ≡ true → all_roomy ss ≡ true
part_roomy_lem done h = refl
part_roomy_lem (keep {x = s} {xs = ss} {ys = ts} p) h = let a = and-true (roomy s) (all_roomy ts) h in simp (a.0, part_roomy_lem p a.1)
part_roomy_lem (leave {y = s} {xs = ss} {ys = ts} p) h = part_roomy_lem p (and-true (roomy s) (all_roomy ts) h).1
